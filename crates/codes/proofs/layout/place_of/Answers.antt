-- `codes::layout::place_of` meets its contract. A cell's number tells its row and its column.
use mathlib.Core.Path.{ap, ◌∙◌}
use Rattle.codes.specs.Geometry.{place}
use Rattle.codes.proofs.Geometry.{number_seen}
use Rattle.codes.proofs.layout.place_of.Goals as goal

pub returns : goal.returns
returns c =
    let a = c.args in
    c.cell_place.ensures ∙ ap (place a.shape) (number_seen a.shape c.requires.0 a.c _ c.row_count-n.ensures)
