-- `bits::one_bit` meets its contract: 1 shifted by less than 64 places loses nothing.
use mathlib.Core.Path.{◌∙◌}
use native.Mathlib.Nat.{one-mul}
use native.Mathlib.Omega.{arith}
use lib.Pow.{shl_exact}
use Rattle.bits.proofs.one_bit.Goals as goal

pub returns : goal.returns
returns c = shl_exact 1 c.args.q 64 (omega arith) (omega arith) ∙ one-mul _
