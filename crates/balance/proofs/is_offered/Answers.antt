-- `balance::is_offered` meets its contract. The numbers of the `match` are the six primes.
use mathlib.Core.Path.{sym}
use native.Mathlib.Omega.{arith}
use Rattle.balance.proofs.Offered.{one_of, none_of}
use Rattle.balance.proofs.is_offered.Goals as goal

pub returns-in-3 : goal.returns-in-3
returns-in-3 c = sym (one_of _ c.in-3.is)

pub returns-in_default : goal.returns-in_default
returns-in_default c = sym (none_of _ (λ h. omega arith))
