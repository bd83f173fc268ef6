-- `codes::evenodd::with_diagonals` meets its contract. One row, and all equations after the rows.
use mathlib.Core.Path.{◌≡◌}
use Prim.Native.Nat.{ℕ, ◌+◌, ◌-◌, ◌^◌, ◌≤◌}
use native.Mathlib.Omega.{arith}
use lib.Pow.{pow_pos}
use Rattle.codes.proofs.Lines.{evenodd_rows, evenodd_n}
use Rattle.codes.proofs.Held.{from_is}
use Rattle.codes.proofs.evenodd.with_diagonals.Goals as goal

-- a power of two is not zero
some : (x k : ℕ) → x ≡ 2 ^ k → 1 ≤ x
some x k e = omega (arith, e, pow_pos k)

pub returns : goal.returns
returns c =
    from_is c.args.shape c.args.row (c.args.shape.p - 1) (c.args.shape.p - 1 + (c.args.shape.p - 1)) _ _ _
    (omega (arith, evenodd_rows c.args.shape c.requires.0 c.requires.1, evenodd_n c.args.shape c.requires.0 c.requires.1, c.requires.2))
    (omega (arith, evenodd_n c.args.shape c.requires.0 c.requires.1))
    (omega (arith, evenodd_n c.args.shape c.requires.0 c.requires.1)) c.one_bit.ensures c.one_bit-all.ensures c.one_bit-rows.ensures
