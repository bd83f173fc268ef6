-- `codes::cell_count` meets its contract. Every disk has as many cells as there are rows.
use native.Mathlib.Omega.{arith}
use Rattle.codes.proofs.Shapes.{existing_of, existing_high, cells_high}
use Rattle.codes.proofs.cell_count.Goals as goal

pub overflow_mul-result : goal.overflow_mul-result
overflow_mul-result c = omega (arith, existing_of c.args.shape _ _ c.disk_count.ensures c.row_count.ensures, existing_high c.args.shape c.requires, cells_high c.args.shape c.requires)
