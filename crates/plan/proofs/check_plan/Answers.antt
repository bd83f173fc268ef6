-- `plan::check_plan` meets its contract. What is wrong with the shape comes first, then the column.
use mathlib.Core.Path.{sym}
use Rattle.std.proofs.Common.{rules}
use Rattle.refusals.proofs.Answer.{not_none}
use Rattle.refusals.proofs.Order.{hit, miss, right, beyond, inside}
use Rattle.plan.proofs.Refused.{rdp_accepted, plan_after}
use Rattle.plan.proofs.check_plan.Goals as goal

pub returns-in_err-check_rdp : goal.returns-in_err-check_rdp
returns-in_err-check_rdp c = let e = (plan_after c.args.shape c.args.k).earlier c.in_err-check_rdp.ensures (not_none _) in search rules

pub disk_count-requires : goal.disk_count-requires
disk_count-requires c = (rdp_accepted c.args.shape (sym c.in_ok-check_rdp.ensures)).0

pub returns-then-disk_count-k : goal.returns-then-disk_count-k
returns-then-disk_count-k c = (plan_after c.args.shape c.args.k).own (sym c.in_ok-check_rdp.ensures) (hit (beyond c.disk_count.ensures c.if-disk_count-k.true))

pub returns : goal.returns
returns c = (plan_after c.args.shape c.args.k).own (sym c.in_ok-check_rdp.ensures) (miss (inside c.disk_count.ensures c.if-disk_count-k.false) right)
