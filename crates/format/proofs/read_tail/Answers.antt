-- `format::read_tail` meets its contract. Bytes begin with one field 04, which one field 05 follows.
use native.Mathlib.Omega.{arith}
use mathlib.Core.Path.{ap}
use lib.ListN.{length}
use Rattle.format.proofs.Reading.{same_lost, stripe_first, nothing_after, ends}
use Rattle.format.proofs.read_tail.Goals as goal

pub returns-in_default : goal.returns-in_default
returns-in_default c = λ l s e. c.in_default.ensures _ _ (omega (arith, e.two, e.few)) e.is

pub returns-in_default-as_chunks : goal.returns-in_default-as_chunks
returns-in_default-as_chunks c = λ l s e. omega (arith, c.as_chunks.ensures.back_len, e.two, ap length (same_lost _ _ _ c.in-Some.ensures l s e))

pub returns-in_err-stripe : goal.returns-in_err-stripe
returns-in_err-stripe c = rw c.from_residual.ensures (λ l s e. c.in_err-stripe.ensures _ _ e.short (stripe_first _ _ _ c.in-Some.ensures l s e))

pub returns-in_default-2 : goal.returns-in_default-2
returns-in_default-2 c = λ l s e. omega (arith, ap length (nothing_after _ _ _ c.in-Some.ensures _ _ c.in_ok-stripe.ensures l s e))

pub returns : goal.returns
returns c =
    let chunks = c.as_chunks.ensures in
    ends _ _ _ c.in-Some.ensures _ _ c.in_ok-stripe.ensures (omega arith) _ chunks.front chunks.front_len (omega (arith, chunks.back_len))
