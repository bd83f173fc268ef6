-- `codes::turned` meets its contract. A column past p - 1 goes back by p.
use mathlib.Core.Path.{sym}
use native.Mathlib.Nat.{mod-eq_of_lt}
use native.Mathlib.Omega.{arith}
use Rattle.codes.proofs.Residues.{wrapped}
use Rattle.codes.proofs.turned.Goals as goal

pub returns-then-p-next : goal.returns-then-p-next
returns-then-p-next c = wrapped _ _ c.if-p-next.true (omega arith)

pub returns-else-p-next : goal.returns-else-p-next
returns-else-p-next c = sym (mod-eq_of_lt c.if-p-next.false)
