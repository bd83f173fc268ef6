-- `solve::holding` meets its contract. The loop's invariant: the members are those of the first q equations that hold the cell.
use Rattle.solve.specs.Masked.{Holding}
use Rattle.solve.proofs.holding.Given as goal

abbrev pub invariant-loop-q : goal.invariant-loop-q
invariant-loop-q l = Holding l.q l.rows l.k l.members
