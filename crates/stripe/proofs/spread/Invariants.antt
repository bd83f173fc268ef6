-- `stripe::spread` meets its contract. The loop's invariant: the parity cells of the set's equations that are not still to come are done.
use Rattle.stripe.specs.Parts.{differs}
use Rattle.stripe.proofs.Writing.{SpreadTo}
use Rattle.stripe.proofs.spread.Given as goal

abbrev pub invariant-loop-q : goal.invariant-loop-q
invariant-loop-q l = SpreadTo l.shape l.set l.q-iterator.rest (differs l.initial.stripe l.from l.new) l.initial.stripe l.stripe
