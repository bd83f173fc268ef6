-- `refusals::check_columns` meets its contract. Each return gives the first refusal in order, by the tests before it.
use mathlib.Core.Path.{sym}
use Rattle.std.proofs.Common.{rules}
use Rattle.refusals.proofs.Answer.{not_none}
use Rattle.refusals.proofs.Order.{hit, miss, right, beyond, inside}
use Rattle.refusals.proofs.Refused.{accepted, columns_after}
use Rattle.refusals.proofs.check_columns.Goals as goal

pub returns-in_err-check_stripe : goal.returns-in_err-check_stripe
returns-in_err-check_stripe c = let a = c.args in let e = (columns_after a.shape a.bytes a.a a.b).earlier c.in_err-check_stripe.ensures (not_none _) in search rules

pub disk_count-n-requires : goal.disk_count-n-requires
disk_count-n-requires c =
    let a = c.args in (accepted a.shape a.bytes (sym c.in_ok-check_stripe.ensures)).0

pub returns-then-n-a : goal.returns-then-n-a
returns-then-n-a c =
    let a = c.args in
    (columns_after a.shape a.bytes a.a a.b).own (sym c.in_ok-check_stripe.ensures) (hit (beyond c.disk_count-n.ensures c.if-n-a.true))

pub returns-then-n-b : goal.returns-then-n-b
returns-then-n-b c =
    let a = c.args in
    let n = c.disk_count-n.ensures in
    (columns_after a.shape a.bytes a.a a.b).own (sym c.in_ok-check_stripe.ensures) (miss (inside n c.if-n-a.false) (hit (beyond n c.if-n-b.true)))

pub returns : goal.returns
returns c =
    let a = c.args in
    let n = c.disk_count-n.ensures in
    (columns_after a.shape a.bytes a.a a.b).own (sym c.in_ok-check_stripe.ensures) (miss (inside n c.if-n-a.false) (miss (inside n c.if-n-b.false) right))
