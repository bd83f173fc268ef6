-- The diagonals of an RDP stripe: that of a row of column k, and the row of column k on a diagonal.
use mathlib.Core.Path.{◌≡◌, refl, sym, ap, ◌∙◌}
use Prim.Native.Nat.{ℕ, ◌+◌, ◌-◌, ◌%◌, ◌≤◌, ◌<◌}
use native.Mathlib.Nat.{mod-lt, mod-eq_of_lt, add-mod_right, add_comm}
use native.Mathlib.Omega.{arith}
use borrow.Author.Tests.{eq-eqb, ne_eqb}
use Rattle.xor.proofs.Cases.{by_equal}
use Rattle.codes.specs.declared.Shape.{Shape}
use Rattle.codes.proofs.Residues.{there_and_back}
use Rattle.plan.specs.Plan.{diagonal}

module _ (s : Shape) where
  pub diagonal_last : (j i : ℕ) → j ≡ s.p → diagonal s j i ≡ i
  unfolding diagonal
  diagonal_last j i e = rw (eq-eqb j s.p e) refl

  pub diagonal_below : (j i : ℕ) → j < s.p → diagonal s j i ≡ (i + j) % s.p
  unfolding diagonal
  diagonal_below j i l = rw (ne_eqb j s.p (λ e. omega arith)) refl

  -- row i of column j is on the same diagonal as row j of column i
  pub diagonal_turned : (j i : ℕ) → j < s.p → i < s.p → diagonal s j i ≡ diagonal s i j
  diagonal_turned j i lj li = diagonal_below j i lj ∙ ap (λ (n : ℕ). n % s.p) (add_comm i j) ∙ sym (diagonal_below i j li)

  pub diagonal_low : (j i : ℕ) → 0 < s.p → i < s.p → diagonal s j i < s.p
  unfolding diagonal
  diagonal_low j i pos l = by_equal j s.p (λ e. rw (eq-eqb j s.p e) l) (λ n. rw (ne_eqb j s.p n) (mod-lt (i + j) pos))

  -- the row of column k on diagonal d
  abbrev pub home : ℕ → ℕ → ℕ
  home k d = (d + (s.p - k)) % s.p

  still : {k : ℕ} (d : ℕ) → k ≡ s.p → d + (s.p - k) ≡ d
  still d e = omega arith

  -- the row of column k on the missing diagonal
  pub missing_home : (k : ℕ) → k < s.p → home k (s.p - 1) ≡ s.p - 1 - k
  missing_home k l = ap (λ (n : ℕ). n % s.p) whole ∙ add-mod_right (s.p - 1 - k) s.p ∙ mod-eq_of_lt (omega arith)
    where
      whole : s.p - 1 + (s.p - k) ≡ s.p - 1 - k + s.p
      whole = omega arith

  -- from a row to its diagonal and back, and from a diagonal to its row and back
  pub home_back : (k i : ℕ) → k ≤ s.p → i < s.p → home k (diagonal s k i) ≡ i
  home_back k i lk li =
      by_equal k s.p
      (λ e. ap (home k) (diagonal_last k i e) ∙ ap (λ (x : ℕ). x % s.p) (still i e) ∙ mod-eq_of_lt li)
      (λ n. ap (home k) (diagonal_below k i (omega arith)) ∙ there_and_back s.p i k (s.p - k) li (omega arith))

  pub diagonal_back : (k d : ℕ) → k ≤ s.p → d < s.p → diagonal s k (home k d) ≡ d
  diagonal_back k d lk ld =
      by_equal k s.p
      (λ e. diagonal_last k (home k d) e ∙ ap (λ (x : ℕ). x % s.p) (still d e) ∙ mod-eq_of_lt ld)
      (λ n. diagonal_below k (home k d) (omega arith) ∙ there_and_back s.p d (s.p - k) k ld (omega arith))
