-- Laws of parity: the sum over an equation's cells depends on those cells alone; stripes that agree in all bytes of all cells.
use mathlib.Core.Path.{◌≡◌, refl, sym, ap, ◌∙◌, subst}
use mathlib.Core.List.{List}
use mathlib.Core.Bool.{true, cond}
use Prim.Native.Nat.{ℕ, ◌<◌}
use native.Mathlib.Omega.{arith}
use lib.ListN.{length, get_or}
use lib.Seq.{ext_get_or}
use Rattle.xor.proofs.Cases.{by_test}
use Rattle.xor.proofs.Sums.{xors_same, xors_bits}
use Rattle.codes.specs.declared.Shape.{Shape}
use Rattle.codes.specs.Shape.{cells, stripe_length, WellFormed}
use Rattle.codes.specs.Encoded.{sums_cell, sum_over, byte_at}
use Rattle.codes.proofs.Geometry.{place_all, byte_there}

module _ (s : Shape) (q : ℕ) where
  -- equal in the cells that equation q sums
  pub sum_same : (f g : ℕ → ℕ) → ((c : ℕ) → c < cells s → sums_cell s q c ≡ true → f c ≡ g c) → sum_over s q f ≡ sum_over s q g
  unfolding sum_over
  sum_same f g h =
      xors_same (cells s) (λ c. cond (sums_cell s q c) (f c) 0) (λ c. cond (sums_cell s q c) (g c) 0)
      (λ c l. by_test (sums_cell s q c) (λ p. ap (λ (x : ℕ). cond (sums_cell s q c) x 0) (h c l p)) (λ p. rw p refl))

  -- the sum of bytes is a byte
  pub sum_byte : (f : ℕ → ℕ) → ((c : ℕ) → c < cells s → f c < 256) → sum_over s q f < 256
  unfolding sum_over
  sum_byte f h = xors_bits 8 (cells s) (λ c. cond (sums_cell s q c) (f c) 0) (λ c l. by_test (sums_cell s q c) (λ p. rw p (h c l)) (λ p. rw p (omega arith)))

-- stripes that agree in every byte of every cell are equal
pub same_bytes : (s : Shape) → WellFormed s → (a b : List ℕ) → length a ≡ stripe_length s → length b ≡ stripe_length s
    → ((c : ℕ) → c < cells s → (t : ℕ) → t < s.cell → byte_at s a c t ≡ byte_at s b c t) → a ≡ b
same_bytes s w a b la lb h =
    ext_get_or 0 a b (la ∙ sym lb)
    (λ i l. let of = place_all s w i (subst (λ (m : ℕ). i < m) la l) in
    ap (λ (k : ℕ). get_or a k 0) of.5 ∙ sym (byte_there s w a of.0 of.3 of.2) ∙ h of.0 of.1 of.3 of.4 ∙ byte_there s w b of.0 of.3 of.2 ∙ sym (ap (λ (k : ℕ). get_or b k 0) of.5))
