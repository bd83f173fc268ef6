-- `plan::check_rdp` meets its contract. What is wrong with the code, the prime or the data columns comes first, then another code, then the cell size.
use mathlib.Core.Path.{sym, ap}
use mathlib.Core.Bool.{not}
use borrow.Author.Tests.{eq-eqb, ne_eqb}
use Rattle.std.proofs.Common.{rules}
use Rattle.refusals.proofs.Answer.{not_none}
use Rattle.refusals.proofs.Order.{hit, miss}
use Rattle.refusals.proofs.Refused.{size_gives}
use Rattle.plan.proofs.Refused.{rdp_after}
use Rattle.plan.proofs.check_rdp.Goals as goal

pub returns-in_err-check_code : goal.returns-in_err-check_code
returns-in_err-check_code c = let e = (rdp_after c.args.shape).earlier c.in_err-check_code.ensures (not_none _) in search rules

pub returns-then-shape : goal.returns-then-shape
returns-then-shape c = let s = c.args.shape in (rdp_after s).own (sym c.in_ok-check_code.ensures) (hit (ap not (ne_eqb s.code 1 c.if-shape.true)))

pub returns : goal.returns
returns c =
    let s = c.args.shape in
    (rdp_after s).own (sym c.in_ok-check_code.ensures) (miss (ap not (eq-eqb s.code 1 c.if-shape.false)) (size_gives s c.check_size.ensures))
