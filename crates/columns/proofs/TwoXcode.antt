-- X-Code: a solution that is 0 off two columns is 0. Going along a line of the first family and along one of the second in turn leads through both columns.
use mathlib.Core.Path.{◌≡◌, refl, sym, ap, ◌∙◌, subst}
use mathlib.Core.Logic.{◌≢◌, inl, inr}
use mathlib.Core.Bool.{true, cond, ◌&&◌}
use Prim.Native.Nat.{ℕ, ◌+◌, ◌-◌, ◌%◌, ◌<◌}
use native.Mathlib.Nat.{mod-lt, mod-eq_of_lt, mod-add-mod, add-mod_right}
use native.Mathlib.Omega.{arith}
use lib.Dec.{eqb, ltb}
use borrow.Author.Tests.{lt-ltb, eq-eqb, ne_eqb, ltb-true, eqb-true}
use Rattle.xor.proofs.Cases.{by_equal, and_left, and_right, and_both}
use Rattle.codes.specs.declared.Shape.{Shape}
use Rattle.codes.specs.Shape.{rows, columns, cells, equations, WellFormed}
use Rattle.codes.specs.Equations.{Equation, equation}
use Rattle.codes.proofs.Shapes.{low}
use Rattle.codes.proofs.Lines.{xcode_rows, xcode_columns, xcode_n, xcode_first_is}
use Rattle.codes.proofs.Positions.{families, xcode_family_is}
use Rattle.columns.proofs.Paths.{shift_once, shift_from, shift_on, along_path}
use Rattle.columns.proofs.Columns.{Meets, OnTwo, entry, entry_out, meets, balanced, all_zero}

-- The p lines of a family pass a column in the places k from 0 to p-1. Place k is row k; but in place p-2 stands the family's parity cell, in
-- the row `parity` (p-2 for the first family, p-1 for the second), and in place p-1 a line has no cell: p is no row.
unfoldable place : ℕ → ℕ → ℕ → ℕ
place p parity k = cond (eqb k (p - 1)) p (cond (eqb k (p - 2)) parity k)

place_none : (p parity k : ℕ) → k ≡ p - 1 → place p parity k ≡ p
unfolding place
place_none p parity k e = rw (eq-eqb k (p - 1) e) refl

place_parity : (p parity k : ℕ) → k ≢ p - 1 → k ≡ p - 2 → place p parity k ≡ parity
unfolding place
place_parity p parity k n e = rw (ne_eqb k (p - 1) n, eq-eqb k (p - 2) e) refl

place_row : (p parity k : ℕ) → k ≢ p - 1 → k ≢ p - 2 → place p parity k ≡ k
unfolding place
place_row p parity k n m = rw (ne_eqb k (p - 1) n, ne_eqb k (p - 2) m) refl

-- what column j has in place k of the first family, and of the second
abbrev first : Shape → (ℕ → ℕ) → ℕ → ℕ → ℕ
first s v j k = entry s v j (place s.p (s.p - 2) k)

abbrev second : Shape → (ℕ → ℕ) → ℕ → ℕ → ℕ
second s v j k = entry s v j (place s.p (s.p - 1) k)

module _ (s : Shape) (w : WellFormed s) (is-xcode : s.code ≡ 3) where
  height : s.p ≡ rows s
  height = xcode_rows s w is-xcode

  width : s.p ≡ columns s
  width = xcode_columns s w is-xcode

  -- place p-2 of a line is in the column of its number
  around : (n : ℕ) → n < s.p → (s.p - 2 + (n + 2)) % s.p ≡ n
  around n l = ap (λ (m : ℕ). m % s.p) whole ∙ add-mod_right n s.p ∙ mod-eq_of_lt l
    where
      whole : s.p - 2 + (n + 2) ≡ n + s.p
      whole = omega (arith, low s w)

  -- ---- a line of either family: in row i below p-2 it sums the cell of column `at i`

  abbrev line : ℕ → ℕ → (ℕ → ℕ) → Equation
  line parity c at = record { row = parity; column = c; sums = λ i j. ltb i (s.p - 2) && eqb j (at i) }

  line_meets : (q parity c j k : ℕ) (at : ℕ → ℕ) → equation s q ≡ line parity c at → parity < s.p → k < s.p
      → (j ≡ c → k ≡ s.p - 2) → (k ≡ s.p - 2 → j ≡ c) → ((i : ℕ) → i < s.p - 2 → j ≡ at i → i ≡ k) → (k < s.p - 2 → j ≡ at k)
      → Meets s q j (place s.p parity k)
  line_meets q parity c j k at is lp lk own its once goes = by_equal k (s.p - 1) none (λ n. by_equal k (s.p - 2) (own_parity n) (summed n))
    where
      -- the row of a summed cell of column j
      summed_row : (i : ℕ) → (ltb i (s.p - 2) && eqb j (at i)) ≡ true → (i < s.p - 2) × (i ≡ k)
      summed_row i t =
          let small = ltb-true i (s.p - 2) (and_left (ltb i (s.p - 2)) (eqb j (at i)) t) in
          (small, once i small (eqb-true j (at i) (and_right (ltb i (s.p - 2)) (eqb j (at i)) t)))

      none : k ≡ s.p - 1 → Meets s q j (place s.p parity k)
      none e =
          subst (Meets s q j) (sym (place_none s.p parity k e))
          (meets s w q (line parity c at) is (omega (arith, height)) j s.p (λ l. absurd (omega (arith, height)))
          (λ z. let no = own z in absurd (omega (arith, low s w))) (λ i l t. let no = summed_row i t in absurd (omega (arith, no.0, no.1))))

      own_parity : k ≢ s.p - 1 → k ≡ s.p - 2 → Meets s q j (place s.p parity k)
      own_parity n e =
          subst (Meets s q j) (sym (place_parity s.p parity k n e))
          (meets s w q (line parity c at) is (omega (arith, height)) j parity (λ l. inl (refl, its e))
          (λ z. refl) (λ i l t. let no = summed_row i t in absurd (omega (arith, no.0, no.1))))

      summed : k ≢ s.p - 1 → k ≢ s.p - 2 → Meets s q j (place s.p parity k)
      summed n m =
          subst (Meets s q j) (sym (place_row s.p parity k n m))
          (meets s w q (line parity c at) is (omega (arith, height)) j k
          (λ l. inr (and_both (lt-ltb k (s.p - 2) (omega arith)) (eq-eqb j (at k) (goes (omega arith)))))
          (λ z. absurd (m (own z))) (λ i l t. (summed_row i t).1))

  -- line c of the first family passes column j in place k where k + c + 2 is j mod p
  first_meets : (c j k : ℕ) → c < s.p → k < s.p → (k + (c + 2)) % s.p ≡ j → Meets s c j (place s.p (s.p - 2) k)
  first_meets c j k lc lk e =
      line_meets c (s.p - 2) c j k (λ i. (c + i + 2) % s.p) (xcode_first_is s w is-xcode c lc) (omega arith) lk
      (λ z. shift_once s.p k (s.p - 2) (c + 2) lk (omega arith) (e ∙ z ∙ sym (around c lc)))
      (λ z. sym e ∙ ap (λ (n : ℕ). (n + (c + 2)) % s.p) z ∙ around c lc)
      (λ i l z. shift_once s.p i k (c + 2) (omega arith) lk (ap (λ (n : ℕ). n % s.p) (turn i) ∙ sym z ∙ sym e))
      (λ l. sym e ∙ ap (λ (n : ℕ). n % s.p) (turn k))
    where
      turn : (i : ℕ) → i + (c + 2) ≡ c + i + 2
      turn i = omega arith

  -- line c of the second family passes column j in place k where k + j + 2 is c mod p
  second_meets : (c j k : ℕ) → c < s.p → j < s.p → k < s.p → (k + (j + 2)) % s.p ≡ c → Meets s (s.p + c) j (place s.p (s.p - 1) k)
  second_meets c j k lc lj lk e =
      line_meets (s.p + c) (s.p - 1) c j k (λ i. (s.p + c - i - 2) % s.p) (xcode_family_is s w is-xcode c) (omega arith) lk
      (λ z. shift_once s.p k (s.p - 2) (j + 2) lk (omega arith) (e ∙ sym z ∙ sym (around j lj)))
      (λ z. sym (around j lj) ∙ ap (λ (n : ℕ). (n + (j + 2)) % s.p) (sym z) ∙ e)
      (λ i l z. shift_once s.p i k (j + 2) (omega arith) lk (ap (λ (n : ℕ). n % s.p) (turn i) ∙ ap (λ (n : ℕ). (n + (i + 2)) % s.p) z ∙ comes i l ∙ sym e))
      (λ l. shift_once s.p j ((s.p + c - k - 2) % s.p) (k + 2) lj (mod-lt (s.p + c - k - 2) (omega arith)) (ap (λ (n : ℕ). n % s.p) (sym (turn k)) ∙ e ∙ sym (comes k l)))
    where
      turn : (i : ℕ) → i + (j + 2) ≡ j + (i + 2)
      turn i = omega arith

      comes : (i : ℕ) → i < s.p - 2 → ((s.p + c - i - 2) % s.p + (i + 2)) % s.p ≡ c
      comes i l = mod-add-mod (s.p + c - i - 2) s.p (i + 2) ∙ ap (λ (n : ℕ). n % s.p) whole ∙ add-mod_right c s.p ∙ mod-eq_of_lt lc
        where
          whole : s.p + c - i - 2 + (i + 2) ≡ c + s.p
          whole = omega arith

  pub xcode_meets : (q j : ℕ) → q < equations s → j < columns s → (r : ℕ) × Meets s q j r
  xcode_meets q j lq lj =
      families (λ k. (r : ℕ) × Meets s k j r) s.p
      (λ c l. let at = shift_from s.p (c + 2) j (omega (arith, width)) in (place s.p (s.p - 2) at.0, first_meets c j at.0 l at.1 at.2))
      (λ c l. let at = shift_from s.p (j + 2) c l in (place s.p (s.p - 1) at.0, second_meets c j at.0 l (omega (arith, width)) at.1 at.2))
      q (omega (arith, xcode_n s w is-xcode))

  -- ---- the two families in one column

  module _ (v : ℕ → ℕ) where
    none_zero : (parity j : ℕ) → entry s v j (place s.p parity (s.p - 1)) ≡ 0
    none_zero parity j = ap (entry s v j) (place_none s.p parity (s.p - 1) refl) ∙ entry_out s v j s.p (omega (arith, height))

    families_agree : (j k : ℕ) → k ≢ s.p - 2 → first s v j k ≡ second s v j k
    families_agree j k n =
        by_equal k (s.p - 1)
        (λ e. ap (entry s v j) (place_none s.p (s.p - 2) k e ∙ sym (place_none s.p (s.p - 1) k e)))
        (λ m. ap (entry s v j) (place_row s.p (s.p - 2) k m n ∙ sym (place_row s.p (s.p - 1) k m n)))

    -- a column is 0 when its places are
    column_zero : (j : ℕ) → ((k : ℕ) → k < s.p → first s v j k ≡ 0) → ((k : ℕ) → k < s.p → second s v j k ≡ 0) → (i : ℕ) → i < rows s → entry s v j i ≡ 0
    column_zero j h g i l =
        by_equal i (s.p - 1)
        (λ e. ap (entry s v j) (e ∙ sym (place_parity s.p (s.p - 1) (s.p - 2) (λ z. omega (arith, low s w)) refl)) ∙ g (s.p - 2) (omega (arith, height)))
        (λ n. by_equal i (s.p - 2)
        (λ e. ap (entry s v j) (e ∙ sym (place_parity s.p (s.p - 2) i n e)) ∙ h i (omega (arith, height)))
        (λ m. ap (entry s v j) (sym (place_row s.p (s.p - 2) i n m)) ∙ h i (omega (arith, height))))

    -- ---- two columns

    module _ (a b : ℕ) (h : OnTwo s v a b) (ab : a < b) (lb : b < s.p) where
      -- the line that passes one column in place k passes the other in this place
      abbrev next : ℕ → ℕ
      next k = (k + (b - a)) % s.p

      next_small : (k : ℕ) → next k < s.p
      next_small k = mod-lt (k + (b - a)) (omega arith)

      along_first : (k : ℕ) → k < s.p → first s v a k ≡ first s v b (next k)
      along_first k l =
          balanced s w v a b h c (place s.p (s.p - 2) k) (place s.p (s.p - 2) (next k))
          (omega (arith, xcode_n s w is-xcode, line_of.1)) (omega (arith, width)) (omega (arith, width))
          (first_meets c a k line_of.1 l meets_a) (first_meets c b (next k) line_of.1 (next_small k) (shift_on s.p k (c + 2) a b ab lb meets_a))
        where
          line_of : (c : ℕ) × (c < s.p) × ((c + (k + 2)) % s.p ≡ a)
          line_of = shift_from s.p (k + 2) a (omega arith)

          c : ℕ
          c = line_of.0

          meets_a : (k + (c + 2)) % s.p ≡ a
          meets_a = ap (λ (n : ℕ). n % s.p) turn ∙ line_of.2
            where
              turn : k + (c + 2) ≡ c + (k + 2)
              turn = omega arith

      along_second : (k : ℕ) → k < s.p → second s v a (next k) ≡ second s v b k
      along_second k l =
          balanced s w v a b h (s.p + c) (place s.p (s.p - 1) (next k)) (place s.p (s.p - 1) k)
          (omega (arith, xcode_n s w is-xcode, small)) (omega (arith, width)) (omega (arith, width))
          (second_meets c a (next k) small (omega arith) (next_small k) (mod-add-mod (k + (b - a)) s.p (a + 2) ∙ ap (λ (n : ℕ). n % s.p) whole))
          (second_meets c b k small lb l refl)
        where
          c : ℕ
          c = (k + (b + 2)) % s.p

          small : c < s.p
          small = mod-lt (k + (b + 2)) (omega arith)

          whole : k + (b - a) + (a + 2) ≡ k + (b + 2)
          whole = omega arith

      -- the place from which it comes
      before : (k : ℕ) → k < s.p → (i : ℕ) × (i < s.p) × (next i ≡ k)
      before k l = shift_from s.p (b - a) k l

      -- the place before p-2, where the families part
      parting : (x : ℕ) × (x < s.p) × (next x ≡ s.p - 2)
      parting = before (s.p - 2) (omega arith)

      parting_only : (k : ℕ) → k < s.p → k ≢ parting.0 → next k ≢ s.p - 2
      parting_only k l n e = n (shift_once s.p k parting.0 (b - a) l parting.1 (e ∙ sym parting.2))

      abbrev Both : ℕ → Type 0
      Both k = (first s v a k ≡ 0) × (second s v b k ≡ 0)

      on : (k : ℕ) → k < s.p → k ≢ parting.0 → Both k → Both (next k)
      on k l n z =
          let agree = parting_only k l n in
          (families_agree a (next k) agree ∙ along_second k l ∙ z.1, sym (families_agree b (next k) agree) ∙ sym (along_first k l) ∙ z.0)

      back : (k : ℕ) → k < s.p → k ≢ parting.0 → Both (next k) → Both k
      back k l n z =
          let agree = parting_only k l n in
          (along_first k l ∙ families_agree b (next k) agree ∙ z.1, sym (along_second k l) ∙ sym (families_agree a (next k) agree) ∙ z.0)

      both : (k : ℕ) → k < s.p → Both k
      both =
          along_path s.p (b - a) parting.0 Both w.prime (omega arith) (omega arith) parting.1 on back
          (s.p - 1) (omega arith) (none_zero (s.p - 2) a, none_zero (s.p - 1) b)

      -- the other two follow along the lines
      first_other : (k : ℕ) → k < s.p → first s v b k ≡ 0
      first_other k l = let i = before k l in ap (first s v b) (sym i.2) ∙ sym (along_first i.0 i.1) ∙ (both i.0 i.1).0

      second_other : (k : ℕ) → k < s.p → second s v a k ≡ 0
      second_other k l = let i = before k l in ap (second s v a) (sym i.2) ∙ along_second i.0 i.1 ∙ (both i.0 i.1).1

      below : (c : ℕ) → c < cells s → v c ≡ 0
      below = all_zero s w v a b h (column_zero a (λ k l. (both k l).0) second_other) (column_zero b first_other (λ k l. (both k l).1))

  pub two_xcode : (v : ℕ → ℕ) (a b : ℕ) → OnTwo s v a b → a < b → b < columns s → (c : ℕ) → c < cells s → v c ≡ 0
  two_xcode v a b h ab lb = below v a b h ab (omega (arith, width))
