-- `refusals::check_stripe` meets its contract. What is wrong with the shape comes first, then the length.
use mathlib.Core.Path.{sym, ap, ◌∙◌}
use mathlib.Core.Bool.{not}
use borrow.Author.Tests.{eq-eqb, ne_eqb}
use Rattle.std.proofs.Common.{rules}
use Rattle.refusals.proofs.Order.{hit, miss, right}
use Rattle.refusals.proofs.Refused.{stripe_after, shape_accepted}
use Rattle.refusals.proofs.Answer.{not_none}
use Rattle.refusals.proofs.check_stripe.Goals as goal

pub returns-in_err-check_shape : goal.returns-in_err-check_shape
returns-in_err-check_shape c = let a = c.args in let e = (stripe_after a.shape a.bytes).earlier c.in_err-check_shape.ensures (not_none _) in search rules

pub stripe_bytes-requires : goal.stripe_bytes-requires
stripe_bytes-requires c = shape_accepted c.args.shape (sym c.in_ok-check_shape.ensures)

pub returns-then-bytes-stripe_bytes : goal.returns-then-bytes-stripe_bytes
returns-then-bytes-stripe_bytes c =
    let a = c.args in
    (stripe_after a.shape a.bytes).own (sym c.in_ok-check_shape.ensures) (hit (ap not (ne_eqb a.bytes _ (λ e. c.if-bytes-stripe_bytes.true (e ∙ sym c.stripe_bytes.ensures)))))

pub returns : goal.returns
returns c =
    let a = c.args in
    (stripe_after a.shape a.bytes).own (sym c.in_ok-check_shape.ensures) (miss (ap not (eq-eqb a.bytes _ (c.if-bytes-stripe_bytes.false ∙ c.stripe_bytes.ensures))) right)
