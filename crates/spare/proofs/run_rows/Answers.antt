-- `spare::run_rows` meets its contract: either way rebuilds the rows, and where no column is missing the shape with no number of them given is as good.
use mathlib.Core.Path.{ap}
use mathlib.Core.Bool.{not}
use Rattle.spare.proofs.Leads.{none_missing}
use Rattle.spare.proofs.Widths.{none_given, column_widened, plan_widened, fit_widened, rows_widened}
use Rattle.spare.proofs.run_rows.Goals as goal

pub is_short-requires : goal.is_short-requires
is_short-requires c = c.args.lost.column.formed.prime

pub invariant_of-full : goal.invariant_of-full
invariant_of-full c =
    let l = c.args.lost in
    let full = none_missing l.shape _ c.is_short.ensures (ap not c.if-not-is_short.true) in
    record { column = column_widened l.shape full _ l.column; accepted = plan_widened l.shape full _ _ l.accepted }

pub run_full-requires : goal.run_full-requires
run_full-requires c =
    let shape = c.args.lost.shape in
    let full = none_missing shape _ c.is_short.ensures (ap not c.if-not-is_short.true) in
    (fit_widened shape full _ _ _ _ c.requires, none_given shape)

pub returns-then-not-is_short : goal.returns-then-not-is_short
returns-then-not-is_short c =
    let shape = c.args.lost.shape in
    let full = none_missing shape _ c.is_short.ensures (ap not c.if-not-is_short.true) in
    rows_widened shape full _ _ _ _ _ _ _ c.run_full.ensures
