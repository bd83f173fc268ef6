-- `spare::short::list_row` meets its contract. The equation holds the row's cell of the lost column, so that its place is in the list.
use native.Mathlib.Omega.{arith}
use Rattle.spare.proofs.Choice.{chosen_held}
use Rattle.spare.proofs.Column.{row_right}
use Rattle.spare.proofs.ShortRows.{row_some, row_listed}
use Rattle.spare.proofs.short.list_row.Goals as goal

pub cells_of-count-requires : goal.cells_of-count-requires
cells_of-count-requires c =
    let l = c.args.lost in
    let right = row_right l.column l.accepted c.requires.0 in
    (l.column.formed, omega (arith, c.equation_of-q.ensures, (chosen_held _ _ _ _ right).equation), c.requires.1)

pub overflow_sub-count : goal.overflow_sub-count
overflow_sub-count c = let l = c.args.lost in row_some _ _ _ _ (row_right l.column l.accepted c.requires.0) _ _ _ c.equation_of-q.ensures c.cells_of-count.ensures

pub returns : goal.returns
returns c = let l = c.args.lost in row_listed _ _ _ _ (row_right l.column l.accepted c.requires.0) _ _ _ c.equation_of-q.ensures c.cells_of-count.ensures _ _ c.cell_place-own.ensures c.leave_out.ensures
