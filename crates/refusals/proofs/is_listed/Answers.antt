-- `refusals::is_listed` meets its contract. The numbers of the `match` are those of the list.
use mathlib.Core.Path.{sym}
use native.Mathlib.Omega.{arith}
use Rattle.codes.proofs.Shapes.{one_of, none_of}
use Rattle.refusals.proofs.is_listed.Goals as goal

pub returns-in-3 : goal.returns-in-3
returns-in-3 c = sym (one_of _ c.in-3.is)

pub returns-in_default : goal.returns-in_default
returns-in_default c = sym (none_of _ (λ h. omega arith))
