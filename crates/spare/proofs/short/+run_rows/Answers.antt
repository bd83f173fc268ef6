-- `spare::short::run_rows` meets its contract: past the rows before, the last one is rebuilt.
use mathlib.Core.Path.{◌∙◌}
use Prim.Native.Nat.{◌+◌, ◌-◌, ◌<◌}
use native.Mathlib.Nat.{pos_of_ne-zero}
use native.Mathlib.Omega.{arith}
use Rattle.codes.specs.Shape.{rows}
use Rattle.spare.proofs.Column.{row_ends}
use Rattle.spare.proofs.Parts.{rows_last}
use Rattle.spare.proofs.short.+run_rows.Goals as goal

pub returns : goal.returns
returns t c =
    let a = c.args in
    let l = a.lost in
    let fit = c.requires in
    let row : a.first + (a.n - 1) < rows l.shape = omega (arith, pos_of_ne-zero c.if-n-eq0.false, fit.inside) in
    rows_last l.shape l.column.formed l.k l.plan a.first a.stripe.now a.spare.now a.n c.run_rows.new.spare _
    (pos_of_ne-zero c.if-n-eq0.false) c.run_rows.ensures (row_ends l.shape _ (c.run_rows.ensures.long ∙ fit.whole) _ row) c.rebuild_row.ensures
