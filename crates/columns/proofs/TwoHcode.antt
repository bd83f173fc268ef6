-- H-Code: a solution that is 0 off two columns is 0. Going along a row and along an anti-diagonal in turn leads through both columns, from the line that has
-- no equation to the row p-1, which is not there.
use mathlib.Core.Path.{◌≡◌, refl, sym, ap, ◌∙◌, subst}
use mathlib.Core.Logic.{◌≢◌, inl, inr}
use mathlib.Core.Bool.{true, cond, not, ◌&&◌}
use Prim.Native.Nat.{ℕ, ◌+◌, ◌-◌, ◌%◌, ◌<◌}
use native.Mathlib.Nat.{mod-lt, mod-eq_of_lt, mod_self, add-mod_right, add_comm}
use native.Mathlib.Omega.{arith}
use lib.Dec.{eqb, ltb}
use borrow.Author.Tests.{lt-ltb, eq-eqb, ne_eqb, ltb-true, eqb-true, eqb-false, not-true}
use Rattle.xor.proofs.Cases.{by_equal, and_left, and_right, and_both}
use Rattle.codes.specs.declared.Shape.{Shape}
use Rattle.codes.specs.Shape.{rows, columns, cells, equations, WellFormed}
use Rattle.codes.specs.Equations.{equation, hcode_row, hcode_anti_diagonal}
use Rattle.codes.proofs.Residues.{there_and_back}
use Rattle.codes.proofs.Lines.{hcode_rows, hcode_columns, hcode_n, hcode_row_is}
use Rattle.codes.proofs.Positions.{families, hcode_second_is}
use Rattle.columns.proofs.Paths.{shift_once, shift_from, shift_on, along_path}
use Rattle.columns.proofs.Columns.{Meets, OnTwo, entry, entry_out, meets, balanced, all_zero}

-- The lines i - j = const (mod p) pass column j in the places k from 0 to p-1, and place k is row k, with two exceptions. The line of place
-- j-1 has no equation: here p stands for no row. The line of place p-1, which is no row, has its parity cell in this column, in row j-1.
unfoldable place : ℕ → ℕ → ℕ → ℕ
place p j k = cond (eqb ((k + 1) % p) j) p (cond (eqb k (p - 1)) (j - 1) k)

place_none : (p j k : ℕ) → (k + 1) % p ≡ j → place p j k ≡ p
unfolding place
place_none p j k e = rw (eq-eqb ((k + 1) % p) j e) refl

place_parity : (p j k : ℕ) → (k + 1) % p ≢ j → k ≡ p - 1 → place p j k ≡ j - 1
unfolding place
place_parity p j k n e = rw (ne_eqb ((k + 1) % p) j n, eq-eqb k (p - 1) e) refl

place_row : (p j k : ℕ) → (k + 1) % p ≢ j → k ≢ p - 1 → place p j k ≡ k
unfolding place
place_row p j k n m = rw (ne_eqb ((k + 1) % p) j n, ne_eqb k (p - 1) m) refl

-- what column j has in place k
abbrev value : Shape → (ℕ → ℕ) → ℕ → ℕ → ℕ
value s v j k = entry s v j (place s.p j k)

module _ (s : Shape) (w : WellFormed s) (is-hcode : s.code ≡ 2) where
  height : s.p - 1 ≡ rows s
  height = hcode_rows s w is-hcode

  width : s.p + 1 ≡ columns s
  width = hcode_columns s w is-hcode

  -- ---- rows

  row_number : (r : ℕ) → r < s.p - 1 → r < equations s
  row_number r l = omega (arith, hcode_n s w is-hcode)

  -- what the test of row r says of a cell (i, j)
  module _ (r i j : ℕ) (t : (hcode_row s.p r).sums i j ≡ true) where
    row_is : i ≡ r
    row_is = eqb-true i r (and_left (eqb i r) (ltb j s.p && not (eqb j (r + 1))) t)

    row_not : j ≢ r + 1
    row_not = eqb-false j (r + 1) (not-true (eqb j (r + 1)) (and_right (ltb j s.p) (not (eqb j (r + 1))) (and_right (eqb i r) (ltb j s.p && not (eqb j (r + 1))) t)))

  -- equation r has the cell in row r of every column but r + 1
  row_meets : (r j : ℕ) → r < s.p - 1 → j < s.p → Meets s r j (place s.p j r)
  row_meets r j lr lj =
      by_equal j (r + 1)
      (λ e. subst (Meets s r j) (sym (place_none s.p j r (after ∙ sym e)))
      (meets s w r (hcode_row s.p r) is (omega (arith, height)) j s.p (λ l. absurd (omega (arith, height))) (λ q. absurd (omega arith)) (λ i l t. absurd (row_not r i j t e))))
      (λ n. subst (Meets s r j) (sym (place_row s.p j r (λ e. n (sym e ∙ after)) (λ e. omega arith)))
      (meets s w r (hcode_row s.p r) is (omega (arith, height)) j r
      (λ l. inr (and_both (eq-eqb r r refl) (and_both (lt-ltb j s.p lj) (ap not (ne_eqb j (r + 1) n))))) (λ q. refl) (λ i l t. row_is r i j t)))
    where
      is : equation s r ≡ hcode_row s.p r
      is = hcode_row_is s w is-hcode r lr

      after : (r + 1) % s.p ≡ r + 1
      after = mod-eq_of_lt (omega arith)

  row_ends : (r : ℕ) → r < s.p - 1 → Meets s r s.p r
  row_ends r lr =
      meets s w r (hcode_row s.p r) (hcode_row_is s w is-hcode r lr) (omega (arith, height)) s.p r (λ l. inl (refl, refl)) (λ e. refl) (λ i l t. row_is r i s.p t)

  -- ---- anti-diagonals

  anti_number : (r : ℕ) → r < s.p - 1 → s.p - 1 + r < equations s
  anti_number r l = omega (arith, hcode_n s w is-hcode)

  -- what the test of anti-diagonal r says of a cell (i, j)
  module _ (r i j : ℕ) (t : (hcode_anti_diagonal s.p r).sums i j ≡ true) where
    anti_below : j < s.p
    anti_below = ltb-true j s.p (and_left (ltb j s.p) (not (eqb j (r + 1)) && eqb i ((s.p - 2 - r + j) % s.p)) t)

    anti_rest : (not (eqb j (r + 1)) && eqb i ((s.p - 2 - r + j) % s.p)) ≡ true
    anti_rest = and_right (ltb j s.p) (not (eqb j (r + 1)) && eqb i ((s.p - 2 - r + j) % s.p)) t

    anti_not : j ≢ r + 1
    anti_not = eqb-false j (r + 1) (not-true (eqb j (r + 1)) (and_left (not (eqb j (r + 1))) (eqb i ((s.p - 2 - r + j) % s.p)) anti_rest))

    anti_row : i ≡ (s.p - 2 - r + j) % s.p
    anti_row = eqb-true i ((s.p - 2 - r + j) % s.p) (and_right (not (eqb j (r + 1))) (eqb i ((s.p - 2 - r + j) % s.p)) anti_rest)

  -- anti-diagonal r passes column j in place k where k + r + 2 is j mod p
  anti_meets : (r j k : ℕ) → r < s.p - 1 → j < s.p → k < s.p → (k + (r + 2)) % s.p ≡ j → Meets s (s.p - 1 + r) j (place s.p j k)
  anti_meets r j k lr lj lk e = by_equal k (s.p - 1) parity_here parity_elsewhere
    where
      -- its line has an equation
      real : (k + 1) % s.p ≢ j
      real h = let z : 0 ≡ r + 1 = shift_once s.p 0 (r + 1) (k + 1) (omega arith) (omega arith) (ap (λ (n : ℕ). n % s.p) first ∙ h ∙ sym e ∙ ap (λ (n : ℕ). n % s.p) second) in omega arith
        where
          first : 0 + (k + 1) ≡ k + 1
          first = omega arith

          second : k + (r + 2) ≡ r + 1 + (k + 1)
          second = omega arith

      -- place p-1 is passed in column r + 1
      top : (s.p - 1 + (r + 2)) % s.p ≡ r + 1
      top = ap (λ (n : ℕ). n % s.p) whole ∙ add-mod_right (r + 1) s.p ∙ mod-eq_of_lt (omega arith)
        where
          whole : s.p - 1 + (r + 2) ≡ r + 1 + s.p
          whole = omega arith

      parity_here : k ≡ s.p - 1 → Meets s (s.p - 1 + r) j (place s.p j k)
      parity_here z =
          subst (Meets s (s.p - 1 + r) j) (sym (place_parity s.p j k real z ∙ before))
          (meets s w (s.p - 1 + r) (hcode_anti_diagonal s.p r) (hcode_second_is s w is-hcode r) (omega (arith, height)) j r (λ l. inl (refl, own)) (λ q. refl) (λ i l t. absurd (anti_not r i j t own)))
        where
          own : j ≡ r + 1
          own = sym e ∙ ap (λ (n : ℕ). (n + (r + 2)) % s.p) z ∙ top

          before : j - 1 ≡ r
          before = omega (arith, own)

      row_there : (s.p - 2 - r + j) % s.p ≡ k
      row_there =
          ap (λ (n : ℕ). n % s.p) (add_comm (s.p - 2 - r) j) ∙ ap (λ (n : ℕ). (n + (s.p - 2 - r)) % s.p) (sym e)
          ∙ there_and_back s.p k (r + 2) (s.p - 2 - r) lk (omega arith)

      parity_elsewhere : k ≢ s.p - 1 → Meets s (s.p - 1 + r) j (place s.p j k)
      parity_elsewhere n =
          subst (Meets s (s.p - 1 + r) j) (sym (place_row s.p j k real n))
          (meets s w (s.p - 1 + r) (hcode_anti_diagonal s.p r) (hcode_second_is s w is-hcode r) (omega (arith, height)) j k
          (λ l. inr (and_both (lt-ltb j s.p lj) (and_both (ap not (ne_eqb j (r + 1) other)) (eq-eqb k ((s.p - 2 - r + j) % s.p) (sym row_there)))))
          (λ q. absurd (other q)) (λ i l t. anti_row r i j t ∙ row_there))
        where
          other : j ≢ r + 1
          other q = n (shift_once s.p k (s.p - 1) (r + 2) lk (omega arith) (e ∙ q ∙ sym top))

  anti_ends : (r : ℕ) → r < s.p - 1 → Meets s (s.p - 1 + r) s.p s.p
  anti_ends r lr =
      meets s w (s.p - 1 + r) (hcode_anti_diagonal s.p r) (hcode_second_is s w is-hcode r) (omega (arith, height)) s.p s.p
      (λ l. absurd (omega (arith, height))) (λ e. absurd (omega arith)) (λ i l t. let small = anti_below r i s.p t in absurd (omega arith))

  pub hcode_meets : (q j : ℕ) → q < equations s → j < columns s → (r : ℕ) × Meets s q j r
  hcode_meets q j lq lj =
      families (λ k. (r : ℕ) × Meets s k j r) (s.p - 1)
      (λ r l. by_equal j s.p (λ e. (r, subst (λ (x : ℕ). Meets s r x r) (sym e) (row_ends r l))) (λ n. (place s.p j r, row_meets r j l (omega (arith, width)))))
      (λ r l. by_equal j s.p (λ e. (s.p, subst (λ (x : ℕ). Meets s (s.p - 1 + r) x s.p) (sym e) (anti_ends r l)))
      (λ n. let at = shift_from s.p (r + 2) j (omega (arith, width)) in (place s.p j at.0, anti_meets r j at.0 l (omega (arith, width)) at.1 at.2)))
      q (omega (arith, hcode_n s w is-hcode))

  -- the anti-diagonal that passes column j in place k
  anti_through : (j k : ℕ) → j < s.p → k < s.p → (k + 1) % s.p ≢ j → (r : ℕ) × (r < s.p - 1) × ((k + (r + 2)) % s.p ≡ j)
  anti_through j k lj lk n = (found.0, real, ap (λ (m : ℕ). m % s.p) swap ∙ found.2)
    where
      found : (r : ℕ) × (r < s.p) × ((r + (k + 2)) % s.p ≡ j)
      found = shift_from s.p (k + 2) j lj

      swap : k + (found.0 + 2) ≡ found.0 + (k + 2)
      swap = omega arith

      real : found.0 < s.p - 1
      real = by_equal found.0 (s.p - 1)
          (λ e. absurd (n (sym (add-mod_right (k + 1) s.p) ∙ ap (λ (m : ℕ). m % s.p) (whole e) ∙ found.2)))
          (λ e. let small = found.1 in omega arith)
        where
          whole : found.0 ≡ s.p - 1 → k + 1 + s.p ≡ found.0 + (k + 2)
          whole e = omega arith

  -- ---- a column is 0 when its places are

  module _ (v : ℕ → ℕ) where
    value_none : (j k : ℕ) → (k + 1) % s.p ≡ j → value s v j k ≡ 0
    value_none j k e = ap (entry s v j) (place_none s.p j k e) ∙ entry_out s v j s.p (omega (arith, height))

    column_zero : (j : ℕ) → j < s.p → ((k : ℕ) → k < s.p → value s v j k ≡ 0) → (i : ℕ) → i < rows s → entry s v j i ≡ 0
    column_zero j lj h i l =
        by_equal j (i + 1)
        (λ e. ap (entry s v j) (sym (place_parity s.p j (s.p - 1) (λ z. first e (sym z ∙ turn)) refl ∙ before e)) ∙ h (s.p - 1) (omega arith))
        (λ n. ap (entry s v j) (sym (place_row s.p j i (λ z. n (sym z ∙ mod-eq_of_lt (omega (arith, height)))) (λ z. omega (arith, height)))) ∙ h i (omega (arith, height)))
      where
        turn : (s.p - 1 + 1) % s.p ≡ 0
        turn = ap (λ (n : ℕ). n % s.p) whole ∙ mod_self s.p
          where
            whole : s.p - 1 + 1 ≡ s.p
            whole = omega arith

        first : j ≡ i + 1 → j ≢ 0
        first e z = omega arith

        before : j ≡ i + 1 → j - 1 ≡ i
        before e = omega arith

    -- ---- two columns below p

    module _ (a b : ℕ) (h : OnTwo s v a b) (ab : a < b) (lb : b < s.p) where
      along_row : (k : ℕ) → k < s.p - 1 → value s v a k ≡ value s v b k
      along_row k l =
          balanced s w v a b h k (place s.p a k) (place s.p b k) (row_number k l) (omega (arith, width)) (omega (arith, width))
          (row_meets k a l (omega arith)) (row_meets k b l lb)

      along_line : (k : ℕ) → k < s.p → value s v a k ≡ value s v b ((k + (b - a)) % s.p)
      along_line k l = by_equal ((k + 1) % s.p) a (λ e. value_none a k e ∙ sym (value_none b ((k + (b - a)) % s.p) (shift_on s.p k 1 a b ab lb e))) real
        where
          real : (k + 1) % s.p ≢ a → value s v a k ≡ value s v b ((k + (b - a)) % s.p)
          real n =
              let r = anti_through a k (omega arith) l n in
              balanced s w v a b h (s.p - 1 + r.0) (place s.p a k) (place s.p b ((k + (b - a)) % s.p)) (anti_number r.0 r.1) (omega (arith, width)) (omega (arith, width))
              (anti_meets r.0 a k r.1 (omega arith) l r.2)
              (anti_meets r.0 b ((k + (b - a)) % s.p) r.1 lb (mod-lt (k + (b - a)) (omega arith)) (shift_on s.p k (r.0 + 2) a b ab lb r.2))

      step : (k : ℕ) → k < s.p → k ≢ s.p - 1 → value s v b ((k + (b - a)) % s.p) ≡ value s v b k
      step k l n = sym (along_line k l) ∙ along_row k (omega arith)

      second_zero : (k : ℕ) → k < s.p → value s v b k ≡ 0
      second_zero =
          along_path s.p (b - a) (s.p - 1) (λ k. value s v b k ≡ 0) w.prime (omega arith) (omega arith) (omega arith)
          (λ k l n z. step k l n ∙ z) (λ k l n z. sym (step k l n) ∙ z)
          (b - 1) (omega arith) (value_none b (b - 1) (ap (λ (n : ℕ). n % s.p) whole ∙ mod-eq_of_lt lb))
        where
          whole : b - 1 + 1 ≡ b
          whole = omega arith

      below : (c : ℕ) → c < cells s → v c ≡ 0
      below =
          all_zero s w v a b h
          (column_zero a (omega arith) (λ k l. along_line k l ∙ second_zero ((k + (b - a)) % s.p) (mod-lt (k + (b - a)) (omega arith))))
          (column_zero b lb second_zero)

    -- ---- a column below p, and column p

    module _ (a : ℕ) (h : OnTwo s v a s.p) (la : a < s.p) where
      by_lines : (k : ℕ) → k < s.p → value s v a k ≡ 0
      by_lines k l = by_equal ((k + 1) % s.p) a (value_none a k) real
        where
          real : (k + 1) % s.p ≢ a → value s v a k ≡ 0
          real n =
              let r = anti_through a k la l n in
              balanced s w v a s.p h (s.p - 1 + r.0) (place s.p a k) s.p (anti_number r.0 r.1) (omega (arith, width)) (omega (arith, width))
              (anti_meets r.0 a k r.1 la l r.2) (anti_ends r.0 r.1)
              ∙ entry_out s v s.p s.p (omega (arith, height))

      by_rows : (r : ℕ) → r < rows s → entry s v s.p r ≡ 0
      by_rows r l =
          sym (balanced s w v a s.p h r (place s.p a r) r (row_number r (omega (arith, height))) (omega (arith, width)) (omega (arith, width))
          (row_meets r a (omega (arith, height)) la) (row_ends r (omega (arith, height))))
          ∙ by_lines r (omega (arith, height))

      with_last : (c : ℕ) → c < cells s → v c ≡ 0
      with_last = all_zero s w v a s.p h (column_zero a la by_lines) by_rows

  pub two_hcode : (v : ℕ → ℕ) (a b : ℕ) → OnTwo s v a b → a < b → b < columns s → (c : ℕ) → c < cells s → v c ≡ 0
  two_hcode v a b h ab lb =
      by_equal b s.p (λ e. with_last v a (subst (OnTwo s v a) e h) (omega arith)) (λ n. below v a b h ab (omega (arith, width)))
