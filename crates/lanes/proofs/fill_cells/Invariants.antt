-- `lanes::fill_cells` meets its contract. The loop's invariant: the lost cells so far are mended in this lane.
use Prim.Native.Nat.{◌+◌}
use Rattle.decide.specs.Solver.{cells_of, sets_of}
use Rattle.lanes.specs.Lanes.{Filled}
use Rattle.lanes.proofs.fill_cells.Given as goal

abbrev pub invariant-loop-one : goal.invariant-loop-one
invariant-loop-one l = Filled l.way.shape (cells_of l.way.lost.now) (sets_of l.way.lost.now) l.one-index l.at (l.at + l.n) l.initial.stripe l.stripe
