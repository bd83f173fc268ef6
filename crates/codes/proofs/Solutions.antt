-- Solutions: one value for each cell, such that every equation holds. Sums of solutions are solutions, as XOR can be done cell by cell.
use mathlib.Core.Path.{◌≡◌, refl, sym, ap, ap₂, ◌∙◌}
use mathlib.Core.Logic.{◌≢◌}
use mathlib.Core.Bool.{cond, ◌||◌}
use Prim.Native.Nat.{ℕ, ◌<◌}
use native.Mathlib.Omega.{arith}
use lib.Dec.{eqb}
use borrow.Author.Tests.{eq-eqb, ne_eqb}
use Rattle.xor.specs.Xor.{◌⊕◌, xors}
use Rattle.xor.proofs.Cases.{by_test, by_equal}
use Rattle.xor.proofs.Algebra.{zero_⊕, ⊕_zero, swap_middle, ⊕_equal, equal_⊕}
use Rattle.xor.proofs.Sums.{xors_same, xors_one, xors_plus}
use Rattle.codes.specs.declared.Shape.{Shape}
use Rattle.codes.specs.Shape.{cells, equations, WellFormed}
use Rattle.codes.specs.Encoded.{parity_cell, sums_cell, sum_over, Solves, total}
use Rattle.codes.specs.Holders.{holds}
use Rattle.codes.proofs.Ordered.{ordered}
use Rattle.codes.proofs.Parity.{sum_same}

-- two values for each cell, XORed
abbrev pub plus : (ℕ → ℕ) → (ℕ → ℕ) → ℕ → ℕ
plus f g c = f c ⊕ g c

-- ---- sums

module _ (s : Shape) (q : ℕ) where
  pub sum_plus : (f g : ℕ → ℕ) → sum_over s q (plus f g) ≡ sum_over s q f ⊕ sum_over s q g
  unfolding sum_over
  sum_plus f g =
      xors_same (cells s) (λ c. cond (sums_cell s q c) (f c ⊕ g c) 0) (plus (λ c. cond (sums_cell s q c) (f c) 0) (λ c. cond (sums_cell s q c) (g c) 0))
      (λ c l. by_test (sums_cell s q c) (λ p. rw p refl) (λ p. rw p (sym (zero_⊕ 0))))
      ∙ xors_plus (cells s) (λ c. cond (sums_cell s q c) (f c) 0) (λ c. cond (sums_cell s q c) (g c) 0)

  pub total_plus : (f g : ℕ → ℕ) → total s q (plus f g) ≡ total s q f ⊕ total s q g
  unfolding total
  total_plus f g = ap (λ (x : ℕ). (f (parity_cell s q) ⊕ g (parity_cell s q)) ⊕ x) (sum_plus f g) ∙ swap_middle (f (parity_cell s q)) (g (parity_cell s q)) (sum_over s q f) (sum_over s q g)

  -- 0 where the equation holds, and only there
  pub total_zero : (f : ℕ → ℕ) → f (parity_cell s q) ≡ sum_over s q f → total s q f ≡ 0
  unfolding total
  total_zero f e = equal_⊕ (f (parity_cell s q)) (sum_over s q f) e

  pub zero_total : (f : ℕ → ℕ) → total s q f ≡ 0 → f (parity_cell s q) ≡ sum_over s q f
  unfolding total
  zero_total f e = ⊕_equal (f (parity_cell s q)) (sum_over s q f) e

  -- equal in all cells
  pub total_same : WellFormed s → q < equations s → (f g : ℕ → ℕ) → ((c : ℕ) → c < cells s → f c ≡ g c) → total s q f ≡ total s q g
  unfolding total
  total_same w l f g h = ap₂ ◌⊕◌ (h (parity_cell s q) ((ordered s w).inside q l)) (sum_same s q f g (λ c lc p. h c lc))

-- the XOR over the cells that equation q holds: its parity cell is none of those that it sums
pub total_holds : (s : Shape) → WellFormed s → (q : ℕ) → q < equations s → (f : ℕ → ℕ) → xors (cells s) (λ c. cond (holds s q c) (f c) 0) ≡ total s q f
unfolding holds total sum_over
total_holds s w q l f =
    xors_same (cells s) (λ c. cond (holds s q c) (f c) 0) (plus own (λ c. cond (sums_cell s q c) (f c) 0)) (λ c lc. by_equal c (parity_cell s q) (at c) (off c))
    ∙ xors_plus (cells s) own (λ c. cond (sums_cell s q c) (f c) 0)
    ∙ ap (λ (x : ℕ). x ⊕ xors (cells s) (λ c. cond (sums_cell s q c) (f c) 0))
    (xors_one (cells s) own (parity_cell s q) ((ordered s w).inside q l) (λ c lc n. rw (ne_eqb c (parity_cell s q) n) refl) ∙ rw (eq-eqb (parity_cell s q) (parity_cell s q) refl) refl)
  where
    own : ℕ → ℕ
    own c = cond (eqb c (parity_cell s q)) (f c) 0

    at : (c : ℕ) → c ≡ parity_cell s q → cond (eqb c (parity_cell s q) || sums_cell s q c) (f c) 0 ≡ own c ⊕ cond (sums_cell s q c) (f c) 0
    at c e = rw (eq-eqb c (parity_cell s q) e, ap (sums_cell s q) e ∙ (ordered s w).unsummed q q (omega arith) l) (sym (⊕_zero (f c)))

    off : (c : ℕ) → c ≢ parity_cell s q → cond (eqb c (parity_cell s q) || sums_cell s q c) (f c) 0 ≡ own c ⊕ cond (sums_cell s q c) (f c) 0
    off c n = rw (ne_eqb c (parity_cell s q) n) (sym (zero_⊕ (cond (sums_cell s q c) (f c) 0)))

-- ---- solutions

module _ (s : Shape) where
  pub solves_plus : (f g : ℕ → ℕ) → Solves s f → Solves s g → Solves s (plus f g)
  solves_plus f g hf hg q l = ap₂ ◌⊕◌ (hf q l) (hg q l) ∙ sym (sum_plus s q f g)

  -- what agrees with a solution in all cells is one
  pub solves_same : WellFormed s → (f g : ℕ → ℕ) → ((c : ℕ) → c < cells s → f c ≡ g c) → Solves s f → Solves s g
  solves_same w f g same h q l = sym (same (parity_cell s q) ((ordered s w).inside q l)) ∙ h q l ∙ sum_same s q f g (λ c lc p. same c lc)
