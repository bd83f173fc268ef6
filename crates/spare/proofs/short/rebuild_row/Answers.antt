-- `spare::short::rebuild_row` meets its contract: the whole part is set to the XOR of the other cells of the chosen equation.
use mathlib.Core.Path.{sym}
use native.Mathlib.Omega.{arith}
use Rattle.xor.proofs.Runs.{first_long}
use Rattle.spare.proofs.Parts.{others_inside, row_put}
use Rattle.spare.proofs.short.rebuild_row.Goals as goal

pub slice_bounds-put_sum_from-end : goal.slice_bounds-put_sum_from-end
slice_bounds-put_sum_from-end c =
    let is = c.list_row-count.ensures in
    sym (first_long _ c.list_row-count.result (omega (arith, is.few, is.long)))

pub put_sum_from-requires : goal.put_sum_from-requires
put_sum_from-requires c =
    let pre = c.requires in
    (others_inside _ _ _ _ _ _ _ pre.1 pre.2 c.list_row-count.ensures.cells, omega arith, omega (arith, pre.2, c.args.lost.column.formed.cell_high))

pub returns : goal.returns
returns c = row_put _ _ _ _ _ _ _ _ _ _ c.requires.2 c.list_row-count.ensures.cells c.put_sum_from.ensures.put
