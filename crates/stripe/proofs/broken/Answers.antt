-- `stripe::broken` meets its contract. A stripe that is not refused is well formed and of the right length.
use mathlib.Core.Path.{sym}
use Rattle.refusals.proofs.Refused.{accepted}
use Rattle.stripe.proofs.broken.Goals as goal

pub count_broken-requires : goal.count_broken-requires
count_broken-requires c = accepted _ _ (sym c.in_ok-check_stripe.ensures)

pub returns : goal.returns
returns c = (c.in_ok-check_stripe.ensures, c.count_broken.ensures)
