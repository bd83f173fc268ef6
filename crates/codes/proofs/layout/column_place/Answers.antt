-- `codes::layout::column_place` meets its contract. A column is as many cells as there are rows.
use native.Mathlib.Omega.{arith}
use Rattle.codes.proofs.Geometry.{column_place_is, first_small}
use Rattle.codes.proofs.layout.column_place.Goals as goal

pub overflow_mul-result-2 : goal.overflow_mul-result-2
overflow_mul-result-2 c = omega (arith, column_place_is c.args.shape c.requires.0 _ _ _ c.lies_at.ensures c.row_count.ensures, first_small c.args.shape c.requires.0 _ c.requires.1 c.requires.2)
