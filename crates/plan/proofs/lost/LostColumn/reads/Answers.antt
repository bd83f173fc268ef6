-- `plan::LostColumn::reads` meets its contract. In the loop `reads` is what is read of the first d columns that exist.
use mathlib.Core.Path.{◌≡◌, sym, ap, ◌∙◌, subst}
use Prim.Native.Nat.{◌+◌, ◌≤◌, ◌<◌}
use native.Mathlib.Omega.{arith}
use Rattle.codes.specs.Shape.{disks}
use Rattle.codes.specs.Geometry.{column_of}
use Rattle.codes.proofs.Shapes.{most_columns, columns_high, disks_high}
use Rattle.plan.specs.Plan.{column_reads}
use Rattle.plan.specs.Right.{RdpColumn}
use Rattle.plan.proofs.Column.{lying}
use Rattle.plan.proofs.Counting.{sum_none, sum_next}
use Rattle.plan.proofs.ByColumns.{first_reads, column_few, first_few, reads_columns}
use Rattle.plan.proofs.lost.LostColumn.reads.Goals as goal

pub disk_count-n-requires : goal.disk_count-n-requires
disk_count-n-requires c = c.args.self.column.formed

pub loop-d-init : goal.loop-d-init
loop-d-init c = sym (sum_none _)

pub column_of-requires : goal.column_of-requires
column_of-requires c = (c.args.self.column.formed, omega (arith, c.disk_count-n.ensures))

pub column_reads-reads-requires : goal.column_reads-reads-requires
column_reads-reads-requires c =
    let at : c.loop-d.d < disks c.args.self.shape = omega (arith, c.disk_count-n.ensures) in
    subst (RdpColumn c.args.self.shape) (sym c.column_of.ensures) (lying c.args.self.shape _ (c.args.self.column.formed, c.args.self.column.rdp, at))

pub overflow_add-reads : goal.overflow_add-reads
overflow_add-reads c =
    let wide : c.disk_count-n.result ≤ most_columns = omega (arith, c.disk_count-n.ensures, disks_high c.args.self.shape c.args.self.column.formed, columns_high c.args.self.shape c.args.self.column.formed) in
    omega (arith, wide, c.loop-d.invariant, first_few c.args.self.shape c.args.self.column.formed c.args.self.k c.args.self.plan c.loop-d.d, c.column_reads-reads.ensures, column_few c.args.self.shape c.args.self.column.formed c.args.self.k c.args.self.plan c.column_of.result)

pub loop-d-preserved : goal.loop-d-preserved
loop-d-preserved c =
    let l = c.args.self in
    sum_next c.loop-d.d c.loop-d.reads _ (λ d. column_reads l.shape l.k l.plan (column_of l.shape d)) c.loop-d.invariant
    (ap (◌+◌ c.loop-d.reads) (c.column_reads-reads.ensures ∙ ap (column_reads l.shape l.k l.plan) c.column_of.ensures))

pub returns : goal.returns
returns c =
    let all : c.loop-d.d ≡ disks c.args.self.shape = omega (arith, c.disk_count-n.ensures) in
    c.loop-d.invariant ∙ ap (first_reads c.args.self.shape c.args.self.k c.args.self.plan) all ∙ sym (reads_columns c.args.self.shape c.args.self.column.formed c.args.self.k c.args.self.plan)
