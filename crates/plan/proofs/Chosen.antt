-- The equation by which a plan takes a row, as the code works it out.
use mathlib.Core.Path.{◌≡◌, refl, sym, ap, ◌∙◌}
use mathlib.Core.Bool.{true, false}
use Prim.Native.Nat.{ℕ, ◌+◌, ◌%◌, ◌<◌}
use native.Mathlib.Nat.{mod-eq_of_lt, add-mod_right}
use native.Mathlib.Omega.{arith}
use Rattle.xor.proofs.Cases.{by_equal}
use Rattle.bits.specs.Bit.{bit}
use Rattle.codes.specs.declared.Shape.{Shape}
use Rattle.codes.specs.Shape.{rows}
use Rattle.plan.specs.Plan.{diagonal, chosen}
use Rattle.plan.specs.Right.{RdpColumn}
use Rattle.plan.proofs.Column.{last_row, last_column}
use Rattle.plan.proofs.Diagonals.{diagonal_last, diagonal_below}

-- the diagonal, as the code works it out: column p is no further on than column 0
pub diagonal_is : (s : Shape) (k i : ℕ) → RdpColumn s k → i < rows s → (i + k) % s.p ≡ diagonal s k i
diagonal_is s k i of li =
    by_equal k s.p
    (λ e. ap (λ (x : ℕ). (i + x) % s.p) e ∙ add-mod_right i s.p ∙ mod-eq_of_lt (omega (arith, last_row s k of)) ∙ sym (diagonal_last s k i e))
    (λ n. sym (diagonal_below s k i (omega (arith, last_column s k of))))

module _ (s : Shape) (k plan i : ℕ) where
  pub by_row : bit i plan ≡ false → chosen s k plan i ≡ i
  unfolding chosen
  by_row p = rw p refl

  pub by_diagonal : bit i plan ≡ true → chosen s k plan i ≡ rows s + diagonal s k i
  unfolding chosen
  by_diagonal p = rw p refl
