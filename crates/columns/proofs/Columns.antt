-- Columns: a line is a test on cells. For values that are 0 off two columns, a line that has at most one cell in each has the XOR of the two as its sum.
-- An equation says that they are equal.
use mathlib.Core.Path.{◌≡◌, refl, sym, ap, ap₂, ◌∙◌}
use mathlib.Core.Logic.{◌≢◌, ◌⊎◌, ⊎_elim}
use mathlib.Core.Bool.{Bool, true, cond}
use Prim.Native.Nat.{ℕ, ◌/◌, ◌%◌, ◌≤◌, ◌<◌}
use native.Mathlib.Nat.{mod-lt}
use native.Mathlib.Omega.{arith}
use lib.Dec.{eqb, ltb}
use borrow.Author.Tests.{lt-ltb, le-ltb, eq-eqb, ne_eqb, eqb-true}
use Rattle.xor.specs.Xor.{◌⊕◌, xors}
use Rattle.xor.proofs.Cases.{by_equal, by_less, either, or_left, or_right, not_passed}
use Rattle.xor.proofs.Algebra.{zero_⊕, ⊕_zero, ⊕_equal}
use Rattle.xor.proofs.Sums.{xors_same, xors_zero, xors_one, xors_plus, nothing}
use Rattle.codes.specs.declared.Shape.{Shape}
use Rattle.codes.specs.Shape.{rows, columns, cells, equations, cell_number, WellFormed}
use Rattle.codes.specs.Equations.{Equation, equation}
use Rattle.codes.specs.Encoded.{parity_cell, sums_cell, Solves}
use Rattle.codes.specs.Holders.{holds}
use Rattle.codes.specs.Lines.{sum_where}
use Rattle.codes.proofs.Shapes.{rows_low}
use Rattle.codes.proofs.Positions.{row_is, column_is, cell_is, cell_inside, parity_of, sums_of}
use Rattle.codes.proofs.Solutions.{plus, total_zero, total_holds}

-- the values in the cells of line t, and 0 elsewhere
abbrev along : (ℕ → Bool) → (ℕ → ℕ) → ℕ → ℕ
along t v c = cond (t c) (v c) 0

-- what column j has in row i; 0 where there is no such row
unfoldable pub entry : Shape → (ℕ → ℕ) → ℕ → ℕ → ℕ
entry s v j i = cond (ltb i (rows s)) (v (cell_number s i j)) 0

-- the values in column j, and 0 elsewhere
abbrev only : Shape → ℕ → (ℕ → ℕ) → ℕ → ℕ
only s j v c = cond (eqb (c / rows s) j) (v c) 0

-- line t has the cell in row r of column j, and no other of that column; none, where there is no row r
pub record Crosses (s : Shape) (t : ℕ → Bool) (j r : ℕ) : Type 0 where
  pub there : r < rows s → t (cell_number s r j) ≡ true
  pub nowhere_else : (i : ℕ) → i < rows s → t (cell_number s i j) ≡ true → i ≡ r

-- the same of the cells that equation q holds
abbrev pub Meets : Shape → ℕ → ℕ → ℕ → Type 0
Meets s q j r = Crosses s (holds s q) j r

-- a solution that is 0 off two columns
pub record OnTwo (s : Shape) (v : ℕ → ℕ) (a b : ℕ) : Type 0 where
  pub solves : Solves s v
  pub apart : a ≢ b
  pub off : (c : ℕ) → c < cells s → c / rows s ≢ a → c / rows s ≢ b → v c ≡ 0

entry_in : (s : Shape) (v : ℕ → ℕ) (j i : ℕ) → i < rows s → entry s v j i ≡ v (cell_number s i j)
unfolding entry
entry_in s v j i l = rw (lt-ltb i (rows s) l) refl

pub entry_out : (s : Shape) (v : ℕ → ℕ) (j i : ℕ) → rows s ≤ i → entry s v j i ≡ 0
unfolding entry
entry_out s v j i l = rw (le-ltb i (rows s) l) refl

module _ (s : Shape) (w : WellFormed s) where
  pos : 0 < rows s
  pos = omega (arith, rows_low s w)

  -- ---- where an equation meets a column, by its row, column and test

  module _ (q : ℕ) (e : Equation) (is : equation s q ≡ e) (low : e.row < rows s) where
    pub meets : (j r : ℕ) → (r < rows s → ((r ≡ e.row) × (j ≡ e.column)) ⊎ (e.sums r j ≡ true)) → (j ≡ e.column → e.row ≡ r)
        → ((i : ℕ) → i < rows s → e.sums i j ≡ true → i ≡ r) → Meets s q j r
    unfolding holds
    meets j r here parity summed = record {
      there = λ l. ⊎_elim
          (λ h. or_left (sums_cell s q (cell_number s r j)) (eq-eqb (cell_number s r j) (parity_cell s q) (ap₂ (cell_number s) h.0 h.1 ∙ sym (parity_of s w q e is))))
          (λ h. or_right (eqb (cell_number s r j) (parity_cell s q)) (sums_of s w q e is r j l ∙ h)) (here l);
      nowhere_else = λ i l held. either (eqb (cell_number s i j) (parity_cell s q)) (sums_cell s q (cell_number s i j)) held
          (λ h. let same = eqb-true (cell_number s i j) (parity_cell s q) h ∙ parity_of s w q e is in
          sym (row_is s w i j l) ∙ ap (λ (c : ℕ). c % rows s) same ∙ row_is s w e.row e.column low
          ∙ parity (sym (column_is s w i j l) ∙ ap (λ (c : ℕ). c / rows s) same ∙ column_is s w e.row e.column low))
          (λ h. summed i l (sym (sums_of s w q e is i j l) ∙ h));
    }

  -- ---- values by columns

  module _ (v : ℕ → ℕ) where
    only_in : (j c : ℕ) → c / rows s ≡ j → only s j v c ≡ v c
    only_in j c e = rw (eq-eqb (c / rows s) j e) refl

    only_out : (j c : ℕ) → c / rows s ≢ j → only s j v c ≡ 0
    only_out j c n = rw (ne_eqb (c / rows s) j n) refl

    -- a value that is 0 off columns a and b
    two_columns_only : (a b c : ℕ) → a ≢ b → (c / rows s ≢ a → c / rows s ≢ b → v c ≡ 0) → v c ≡ plus (only s a v) (only s b v) c
    two_columns_only a b c apart off =
        by_equal (c / rows s) a
        (λ e. sym (ap₂ ◌⊕◌ (only_in a c e) (only_out b c (λ k. apart (sym e ∙ k))) ∙ ⊕_zero (v c)))
        (λ n. by_equal (c / rows s) b
        (λ e. sym (ap₂ ◌⊕◌ (only_out a c n) (only_in b c e) ∙ zero_⊕ (v c)))
        (λ m. off n m ∙ sym (ap₂ ◌⊕◌ (only_out a c n) (only_out b c m) ∙ zero_⊕ 0)))

  module _ (v : ℕ → ℕ) where
    -- the part of a line in column j is the one cell in which they cross
    part_is : (t : ℕ → Bool) (j r : ℕ) → j < columns s → Crosses s t j r → xors (cells s) (only s j (along t v)) ≡ entry s v j r
    part_is t j r lj x = by_less r (rows s) hit miss
      where
        -- in another row there is nothing
        other : (c : ℕ) → c % rows s ≢ r → only s j (along t v) c ≡ 0
        other c n =
            by_equal (c / rows s) j
            (λ e. only_in (along t v) j c e
            ∙ ap (λ (b : Bool). cond b (v c) 0) (not_passed (λ h. n (x.nowhere_else (c % rows s) (mod-lt c pos) (ap t (ap (cell_number s (c % rows s)) (sym e) ∙ cell_is s w c) ∙ h)))))
            (only_out (along t v) j c)

        hit : r < rows s → xors (cells s) (only s j (along t v)) ≡ entry s v j r
        hit l =
            xors_one (cells s) (only s j (along t v)) (cell_number s r j) (cell_inside s w r j l lj)
            (λ c lc n. by_equal (c % rows s) r (λ q. only_out (along t v) j c (λ e. n (sym (cell_is s w c) ∙ ap₂ (cell_number s) q e))) (other c))
            ∙ only_in (along t v) j (cell_number s r j) (column_is s w r j l) ∙ ap (λ (b : Bool). cond b (v (cell_number s r j)) 0) (x.there l) ∙ sym (entry_in s v j r l)

        miss : rows s ≤ r → xors (cells s) (only s j (along t v)) ≡ entry s v j r
        miss l = xors_zero (cells s) (only s j (along t v)) (λ c lc. other c (λ e. let small = mod-lt c pos in omega arith)) ∙ sym (entry_out s v j r l)

    module _ (a b : ℕ) (h : OnTwo s v a b) where
      -- the sum of a line is that of its cells in the two columns
      pub crossed : (t : ℕ → Bool) (i k : ℕ) → a < columns s → b < columns s → Crosses s t a i → Crosses s t b k → sum_where s t v ≡ entry s v a i ⊕ entry s v b k
      unfolding sum_where
      crossed t i k la lb xa xb =
          xors_same (cells s) (along t v) (plus (only s a (along t v)) (only s b (along t v)))
          (λ c l. two_columns_only (along t v) a b c h.apart (λ n m. nothing (t c) (v c) (h.off c l n m)))
          ∙ xors_plus (cells s) (only s a (along t v)) (only s b (along t v)) ∙ ap₂ ◌⊕◌ (part_is t a i la xa) (part_is t b k lb xb)

      -- an equation says that its cells in the two columns are equal
      pub balanced : (q i k : ℕ) → q < equations s → a < columns s → b < columns s → Meets s q a i → Meets s q b k → entry s v a i ≡ entry s v b k
      unfolding sum_where
      balanced q i k lq la lb ma mb =
          ⊕_equal (entry s v a i) (entry s v b k) (sym (crossed (holds s q) i k la lb ma mb) ∙ total_holds s w q lq v ∙ total_zero s q v (h.solves q lq))

      -- nothing is left once both columns are 0
      pub all_zero : ((i : ℕ) → i < rows s → entry s v a i ≡ 0) → ((i : ℕ) → i < rows s → entry s v b i ≡ 0) → (c : ℕ) → c < cells s → v c ≡ 0
      all_zero ha hb c l = by_equal (c / rows s) a (λ e. in_column_lem a e ha) (λ n. by_equal (c / rows s) b (λ e. in_column_lem b e hb) (h.off c l n))
        where
          in_column_lem : (j : ℕ) → c / rows s ≡ j → ((i : ℕ) → i < rows s → entry s v j i ≡ 0) → v c ≡ 0
          in_column_lem j e z = ap v (sym (cell_is s w c) ∙ ap (cell_number s (c % rows s)) e) ∙ sym (entry_in s v j (c % rows s) (mod-lt c pos)) ∙ z (c % rows s) (mod-lt c pos)
