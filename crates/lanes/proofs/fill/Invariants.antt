-- `lanes::fill` meets its contract. The loop's invariant: the lost cells are mended in the bytes below `at`.
use mathlib.Core.Path.{◌≡◌}
use lib.ListN.{length}
use Rattle.decide.specs.Solver.{cells_of, sets_of}
use Rattle.lanes.specs.Lanes.{Filled}
use Rattle.lanes.proofs.fill.Given as goal

abbrev pub invariant-loop-at : goal.invariant-loop-at
invariant-loop-at l = Filled l.way.shape (cells_of l.way.lost.now) (sets_of l.way.lost.now) (length l.way.lost.now) 0 l.at l.initial.stripe l.stripe × (length l.lanes ≡ 32768)
