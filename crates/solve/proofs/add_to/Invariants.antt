-- `solve::add_to` meets its contract. The loop's invariant: the values of the members that are not still to come are done.
use Rattle.solve.proofs.Turns.{AddedTo}
use Rattle.solve.proofs.add_to.Given as goal

abbrev pub invariant-loop-r : goal.invariant-loop-r
invariant-loop-r g l = AddedTo g.T.BitXor.bitxor_gives l.initial.values l.members l.more l.values l.r-iterator.rest
