-- `decide::hold_lost` meets its contract. The loop's invariant: the masks have the first k lost cells.
use Rattle.decide.specs.Solver.{cells_of, Rows}
use Rattle.decide.proofs.hold_lost.Given as goal

abbrev pub invariant-loop-k : goal.invariant-loop-k
invariant-loop-k l = Rows l.shape l.k (cells_of l.lost) l.rows
