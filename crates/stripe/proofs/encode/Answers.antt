-- `stripe::encode` meets its contract. A stripe that is not refused is well formed and of the right length.
use mathlib.Core.Path.{refl, sym}
use Rattle.refusals.proofs.Refused.{accepted}
use Rattle.stripe.proofs.encode.Goals as goal

pub set_parities-requires : goal.set_parities-requires
set_parities-requires c = accepted _ _ (sym c.in_ok-check_stripe.ensures)

pub returns : goal.returns
returns c = record { number = c.in_ok-check_stripe.ensures; refused = λ n. absurd (n refl); done = λ z. c.set_parities.ensures }
