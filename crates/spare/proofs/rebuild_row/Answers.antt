-- `spare::rebuild_row` meets its contract: the whole part is set to the XOR of the other cells of the chosen equation.
use native.Mathlib.Omega.{arith}
use Rattle.codes.proofs.Shapes.{high}
use Rattle.spare.proofs.Tables.{step_small}
use Rattle.spare.proofs.Parts.{others_inside, row_put}
use Rattle.spare.proofs.rebuild_row.Goals as goal

pub overflow_mul-at : goal.overflow_mul-at
overflow_mul-at c =
    let w = c.args.lost.column.formed in
    omega (arith, step_small _ w c.aim-window.result.ahead (omega (arith, c.aim-window.ensures.ahead, high _ w)))

pub put_sum_from-requires : goal.put_sum_from-requires
put_sum_from-requires c =
    let pre = c.requires in
    let w = c.args.lost.column.formed in (
      others_inside _ _ _ _ _ _ _ pre.long pre.whole c.aim-window.ensures.cells,
      omega arith,
      omega (arith, pre.whole, step_small _ w c.aim-window.result.ahead (omega (arith, c.aim-window.ensures.ahead, high _ w)), w.cell_high),
    )

pub returns : goal.returns
returns c =
    let is = c.aim-window.ensures in
    record { put = row_put _ _ _ _ _ _ _ _ _ _ c.requires.whole is.cells c.put_sum_from.ensures.put; level = is.level; slant = is.slant }
