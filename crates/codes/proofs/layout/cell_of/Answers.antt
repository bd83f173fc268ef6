-- `codes::layout::cell_of` meets its contract. The row stays, and the column is the one that lies there.
use native.Mathlib.Omega.{arith}
use Rattle.codes.proofs.Shapes.{cells_high}
use Rattle.codes.proofs.Geometry.{cell_of_is, cell_of_inside}
use Rattle.codes.proofs.layout.cell_of.Goals as goal

pub overflow_mul-result : goal.overflow_mul-result
overflow_mul-result c = omega (arith, cell_of_is c.args.shape c.requires.0 c.args.c _ _ c.row_count-n.ensures c.column_of.ensures, cell_of_inside c.args.shape c.requires.0 c.args.c c.requires.1, cells_high c.args.shape c.requires.0)

pub overflow_add-result : goal.overflow_add-result
overflow_add-result c = omega (arith, cell_of_is c.args.shape c.requires.0 c.args.c _ _ c.row_count-n.ensures c.column_of.ensures, cell_of_inside c.args.shape c.requires.0 c.args.c c.requires.1, cells_high c.args.shape c.requires.0)
