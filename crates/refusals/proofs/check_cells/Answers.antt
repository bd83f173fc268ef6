-- `refusals::check_cells` meets its contract. Each return gives the first refusal in order, by the tests before it.
use mathlib.Core.Path.{sym}
use native.Mathlib.Omega.{arith}
use Rattle.std.proofs.Common.{rules}
use Rattle.refusals.proofs.Answer.{not_none}
use Rattle.refusals.proofs.Order.{hit, miss, right}
use Rattle.refusals.proofs.Refused.{accepted, cells_after, some_out, none_out}
use Rattle.refusals.proofs.check_cells.Goals as goal

pub returns-in_err-check_stripe : goal.returns-in_err-check_stripe
returns-in_err-check_stripe c = let a = c.args in let e = (cells_after a.shape a.bytes a.lost.now).earlier c.in_err-check_stripe.ensures (not_none _) in search rules

pub cell_count-requires : goal.cell_count-requires
cell_count-requires c =
    let a = c.args in (accepted a.shape a.bytes (sym c.in_ok-check_stripe.ensures)).0

pub returns-then-not-all_below : goal.returns-then-not-all_below
returns-then-not-all_below c =
    let a = c.args in
    (cells_after a.shape a.bytes a.lost.now).own (sym c.in_ok-check_stripe.ensures)
    (hit (some_out a.lost.now _ (λ all. c.all_below.ensures.no c.if-not-all_below.true (λ k l. omega (arith, all k l, c.cell_count.ensures)))))

pub returns : goal.returns
returns c =
    let a = c.args in
    (cells_after a.shape a.bytes a.lost.now).own (sym c.in_ok-check_stripe.ensures)
    (miss (none_out a.lost.now _ (λ k l. omega (arith, c.all_below.ensures.yes c.if-not-all_below.false k l, c.cell_count.ensures))) right)
