-- Cells one after the other in bytes: each ends inside them all, and two different ones do not meet.
use mathlib.Core.Logic.{◌≢◌, ◌⊎◌, inl, inr}
use Prim.Native.Nat.{ℕ, ◌+◌, ◌*◌, ◌≤◌, ◌<◌}
use native.Mathlib.Nat.{mul-le-mul_right, add-mul, one-mul}
use native.Mathlib.Omega.{arith}
use Rattle.xor.proofs.Cases.{by_less}
use Rattle.codes.specs.declared.Shape.{Shape}
use Rattle.codes.specs.Shape.{existing, stripe_length, WellFormed}

module _ (s : Shape) (w : WellFormed s) where
  -- a cell of the stripe ends inside it
  pub cell_ends : (c : ℕ) → c < existing s → c * s.cell + s.cell ≤ stripe_length s
  unfolding stripe_length
  cell_ends c l = omega (arith, mul-le-mul_right {m = 1 + c} {n = existing s} s.cell (omega arith), add-mul 1 c s.cell, one-mul s.cell)

  -- two different cells do not meet
  pub cells_apart : (c d : ℕ) → c ≢ d → (c * s.cell + s.cell ≤ d * s.cell) ⊎ (d * s.cell + s.cell ≤ c * s.cell)
  cells_apart c d n = by_less c d (λ l. inl (before c d l)) (λ l. inr (before d c (omega arith)))
    where
      before : (a b : ℕ) → a < b → a * s.cell + s.cell ≤ b * s.cell
      before a b l = omega (arith, mul-le-mul_right {m = 1 + a} {n = b} s.cell (omega arith), add-mul 1 a s.cell, one-mul s.cell)
