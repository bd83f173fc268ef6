-- `codes::cell_numbers` meets its contract. Every column has as many cells as there are rows.
use native.Mathlib.Omega.{arith}
use Rattle.codes.proofs.Shapes.{cells_of, cells_high}
use Rattle.codes.proofs.cell_numbers.Goals as goal

pub overflow_mul-result : goal.overflow_mul-result
overflow_mul-result c = omega (arith, cells_of c.args.shape _ _ c.extent_of.ensures.1 c.row_count.ensures, cells_high c.args.shape c.requires)
