-- `codes::layout::lent_place` meets its contract. A caller numbers columns as they lie.
use native.Mathlib.Nat.{mul-le-mul}
use native.Mathlib.Omega.{arith}
use Prim.Native.Nat.{◌+◌, ◌*◌, ◌≤◌}
use Rattle.codes.proofs.Shapes.{most_cells, existing_high, cells_high}
use Rattle.codes.proofs.Geometry.{lent_at, lent_number}
use Rattle.codes.proofs.layout.lent_place.Goals as goal

pub overflow_mul-result : goal.overflow_mul-result
overflow_mul-result c =
    let few : c.args.d * c.row_count.result + c.args.row ≤ most_cells = omega (arith, lent_number c.args.shape c.requires.0 c.args.row c.args.d _ c.row_count.ensures c.requires.1 c.requires.2, existing_high c.args.shape c.requires.0, cells_high c.args.shape c.requires.0) in
    omega (arith, few)

pub overflow_add-result : goal.overflow_add-result
overflow_add-result c =
    let few : c.args.d * c.row_count.result + c.args.row ≤ most_cells = omega (arith, lent_number c.args.shape c.requires.0 c.args.row c.args.d _ c.row_count.ensures c.requires.1 c.requires.2, existing_high c.args.shape c.requires.0, cells_high c.args.shape c.requires.0) in
    omega (arith, few)

pub overflow_mul-result-2 : goal.overflow_mul-result-2
overflow_mul-result-2 c =
    let few : c.args.d * c.row_count.result + c.args.row ≤ most_cells = omega (arith, lent_number c.args.shape c.requires.0 c.args.row c.args.d _ c.row_count.ensures c.requires.1 c.requires.2, existing_high c.args.shape c.requires.0, cells_high c.args.shape c.requires.0) in
    omega (arith, mul-le-mul (few) c.requires.0.cell_high)

pub returns : goal.returns
returns c = lent_at c.args.shape c.requires.0 c.args.row c.args.d _ c.row_count.ensures c.requires.1
