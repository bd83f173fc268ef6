-- `show::shown_at` meets its contract. The refusal comes first; a cell of another column lies in the stripe, and one of column k in the spare.
use mathlib.Core.Path.{sym, ap, ◌∙◌}
use native.Mathlib.Omega.{arith}
use Rattle.codes.proofs.Geometry.{column_there, is_there_lem}
use Rattle.codes.specs.Geometry.{is_there}
use Rattle.show.proofs.Refused.{show_accepted}
use Rattle.spare.proofs.Column.{row_small}
use Rattle.show.proofs.Showing.{shown_spare, shown_stripe}
use Rattle.show.proofs.shown_at.Goals as goal

pub overflow_mul-at : goal.overflow_mul-at
overflow_mul-at c =
    let a = c.args in let r = show_accepted a.shape a.bytes a.spare a.k a.done a.row a.column (sym c.in_ok-check_show.ensures) in omega (arith, row_small c.args.shape r.buffers.of.formed c.args.row r.low)

pub returns-then-column-k : goal.returns-then-column-k
returns-then-column-k c =
    let a = c.args in shown_spare a.shape a.bytes a.spare a.k a.done a.row a.column (sym c.in_ok-check_show.ensures) c.if-column-k.true

pub column_of-lies-requires : goal.column_of-lies-requires
column_of-lies-requires c =
    let a = c.args in let r = show_accepted a.shape a.bytes a.spare a.k a.done a.row a.column (sym c.in_ok-check_show.ensures) in (r.buffers.of.formed, r.right)

pub cell_place-requires : goal.cell_place-requires
cell_place-requires c =
    let s = c.args.shape in
    let a = c.args in let r = show_accepted a.shape a.bytes a.spare a.k a.done a.row a.column (sym c.in_ok-check_show.ensures) in
    let w = r.buffers.of.formed in
    (r.buffers.of.formed, r.low, omega (arith, c.column_of-lies.ensures, column_there s w _ r.right), ap (is_there s) c.column_of-lies.ensures ∙ is_there_lem s w _)

pub returns : goal.returns
returns c =
    let a = c.args in
    shown_stripe a.shape a.bytes a.spare a.k a.done a.row a.column (sym c.in_ok-check_show.ensures) _ _ c.column_of-lies.ensures c.cell_place.ensures c.if-column-k.false
