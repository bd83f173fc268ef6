-- `decide::give_sets` meets its contract. The loop's invariant: the first k lost cells have their sets.
use Rattle.decide.proofs.Lists.{GivenTo}
use Rattle.decide.proofs.give_sets.Given as goal

abbrev pub invariant-loop-k : goal.invariant-loop-k
invariant-loop-k l = GivenTo l.initial.lost l.chosen l.sources l.k l.lost
