-- `codes::layout::cell_place` meets its contract. The cells of a column lie one after the other.
use mathlib.Core.Path.{◌∙◌}
use native.Mathlib.Omega.{arith}
use Rattle.codes.proofs.Positions.{cell_inside}
use Rattle.codes.proofs.Geometry.{cell_there_at, place_down, place_small}
use Rattle.codes.proofs.layout.cell_place.Goals as goal

pub overflow_mul-result : goal.overflow_mul-result
overflow_mul-result c = omega (arith, place_down c.args.shape c.requires.0 c.args.row _ _ c.requires.1 c.column_place.ensures, place_small c.args.shape c.requires.0 _ (cell_inside c.args.shape c.requires.0 c.args.row c.args.column c.requires.1 c.requires.2) (cell_there_at c.args.shape c.requires.0 c.args.row c.args.column c.requires.1 ∙ c.requires.3))

pub overflow_add-result : goal.overflow_add-result
overflow_add-result c = omega (arith, place_down c.args.shape c.requires.0 c.args.row _ _ c.requires.1 c.column_place.ensures, place_small c.args.shape c.requires.0 _ (cell_inside c.args.shape c.requires.0 c.args.row c.args.column c.requires.1 c.requires.2) (cell_there_at c.args.shape c.requires.0 c.args.row c.args.column c.requires.1 ∙ c.requires.3))

pub returns : goal.returns
returns c = place_down c.args.shape c.requires.0 c.args.row _ _ c.requires.1 c.column_place.ensures
