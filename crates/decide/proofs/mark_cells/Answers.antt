-- `decide::mark_cells` meets its contract. The loop's invariant: the map marks the cells that the numbers so far name.
use mathlib.Core.Path.{ap}
use Prim.Native.Nat.{ℕ, ◌<◌}
use native.Mathlib.Omega.{arith}
use lib.Dec.{eqb}
use Rattle.codes.proofs.Shapes.{most_cells, cells_high}
use Rattle.codes.proofs.Geometry.{cell_of_inside}
use Rattle.decide.proofs.Marks.{marked_none, marked_one, named_all}
use Rattle.decide.proofs.mark_cells.Goals as goal

pub loop-number-init : goal.loop-number-init
loop-number-init c = marked_none _

pub bounds-map-c : goal.bounds-map-c
bounds-map-c c =
    let named = c.requires.1 c.loop-number.number-index c.loop-number-test.true in
    omega (arith, c.cell_of-c.ensures, cell_of_inside c.args.shape c.requires.0 _ named, cells_high c.args.shape c.requires.0)

pub loop-number-preserved : goal.loop-number-preserved
loop-number-preserved c =
    let inside : c.cell_of-c.result < most_cells = let named = c.requires.1 c.loop-number.number-index c.loop-number-test.true in
    omega (arith, c.cell_of-c.ensures, cell_of_inside c.args.shape c.requires.0 _ named, cells_high c.args.shape c.requires.0) in
    marked_one _ _ _ c.loop-number.invariant _ inside (λ d. ap (λ (x : ℕ). eqb x d) c.cell_of-c.ensures)

pub returns : goal.returns
returns c = named_all _ _ _ _ (omega arith) c.loop-number.invariant
