-- Which columns explain values: exactly those without which nothing is left of the totals.
use mathlib.Core.Path.{◌≡◌, sym, ap, ap₂, ◌∙◌, subst}
use mathlib.Core.Logic.{◌≢◌}
use mathlib.Core.List.{List}
use mathlib.Core.Bool.{Bool, cond}
use Prim.Native.Nat.{ℕ, ◌+◌, ◌/◌, ◌%◌, ◌<◌}
use native.Mathlib.Nat.{mod-lt}
use native.Mathlib.Omega.{arith}
use lib.Dec.{eqb}
use lib.ListN.{get_or}
use borrow.Author.Tests.{eq-eqb, ne_eqb, eqb-true}
use Rattle.xor.specs.Xor.{◌⊕◌, xors}
use Rattle.xor.proofs.Cases.{by_equal, not_passed}
use Rattle.xor.proofs.Algebra.{⊕_zero, ⊕_self, equal_⊕}
use Rattle.xor.proofs.Sums.{xors_same, nothing, xors_one, Lists, xors_listed}
use Rattle.codes.specs.declared.Shape.{Shape}
use Rattle.codes.specs.Shape.{rows, columns, cells, disks, equations, cell_number, WellFormed}
use Rattle.codes.specs.Geometry.{column_of}
use Rattle.codes.proofs.Geometry.{column_there}
use Rattle.codes.specs.Encoded.{total}
use Rattle.codes.specs.Holders.{holds}
use Rattle.codes.proofs.Shapes.{rows_low}
use Rattle.codes.proofs.Positions.{row_is, column_is, cell_is, cell_inside}
use Rattle.codes.proofs.Solutions.{plus, total_plus, total_zero, zero_total, total_holds}
use Rattle.columns.proofs.Alone.{lowest_there, lowest_alone}
use Rattle.std.specs.Prelude.{None, Some}
use Rattle.bad.specs.Candidate.{Explains, TotalsOf, Without, Candidate}

-- the value of each row in the cells of column c, and 0 elsewhere
abbrev in_column : Shape → ℕ → (ℕ → ℕ) → ℕ → ℕ
in_column s c value k = cond (eqb (k / rows s) c) (value (k % rows s)) 0

-- the part of equation q that lies in column c, where v are the values of its rows
abbrev column_sum : Shape → ℕ → ℕ → (ℕ → ℕ) → ℕ
column_sum s q c v = xors (rows s) (λ i. cond (holds s q (cell_number s i c)) (v i) 0)

-- no column at a place below c explains values with these totals
abbrev pub NoneBelow : Shape → List ℕ → ℕ → Type 0
NoneBelow s totals c = (f : ℕ → ℕ) → TotalsOf s f totals → (d : ℕ) → d < c → Explains s f (column_of s d) → ⊥

module _ (s : Shape) (w : WellFormed s) (c : ℕ) (lc : c < columns s) where
  -- ---- sums over one column

  -- the cells of the column, row by row
  column_cells : Lists (cells s) (λ k. eqb (k / rows s) c) (rows s) (λ i. cell_number s i c)
  column_cells = record {
    below = λ i l. cell_inside s w i c l lc;
    passes = λ i l. eq-eqb (cell_number s i c / rows s) c (column_is s w i c l);
    all = λ k l p. (k % rows s, mod-lt k (omega (arith, rows_low s w)), ap (cell_number s (k % rows s)) (sym (eqb-true (k / rows s) c p)) ∙ cell_is s w k);
    once = λ i j li lj e. sym (row_is s w i c li) ∙ ap (λ (k : ℕ). k % rows s) e ∙ row_is s w j c lj;
  }

  -- the total of values that are 0 off the column
  column_total : (y : ℕ → ℕ) → ((k : ℕ) → k < cells s → k / rows s ≢ c → y k ≡ 0) → (q : ℕ) → q < equations s → total s q y ≡ column_sum s q c (λ i. y (cell_number s i c))
  column_total y off q lq =
      sym (total_holds s w q lq y)
      ∙ xors_same (cells s) part (λ k. cond (eqb (k / rows s) c) (part k) 0)
      (λ k l. by_equal (k / rows s) c
      (λ e. sym (ap (λ (b : Bool). cond b (part k) 0) (eq-eqb (k / rows s) c e)))
      (λ n. nothing (holds s q k) (y k) (off k l n) ∙ sym (ap (λ (b : Bool). cond b (part k) 0) (ne_eqb (k / rows s) c n))))
      ∙ xors_listed (cells s) (λ k. eqb (k / rows s) c) (rows s) (λ i. cell_number s i c) column_cells part
    where
      part : ℕ → ℕ
      part k = cond (holds s q k) (y k) 0

  -- equal values have equal sums
  column_same : (q : ℕ) (v u : ℕ → ℕ) → ((i : ℕ) → i < rows s → v i ≡ u i) → column_sum s q c v ≡ column_sum s q c u
  column_same q v u e =
      xors_same (rows s) (λ i. cond (holds s q (cell_number s i c)) (v i) 0) (λ i. cond (holds s q (cell_number s i c)) (u i) 0)
      (λ i l. ap (λ (x : ℕ). cond (holds s q (cell_number s i c)) x 0) (e i l))

  -- ---- what is left without the column

  module _ (f : ℕ → ℕ) (totals rest : List ℕ) (t : TotalsOf s f totals) (h : Without s totals c (rows s) rest) where
    -- nothing: the column explains the values
    explains_by : ((q : ℕ) → q < equations s → get_or rest q 0 ≡ 0) → Explains s f c
    explains_by zero = record {
      inside = lc;
      mended = plus f y;
      solves = λ q lq. zero_total s q (plus f y)
          (total_plus s q f y
          ∙ ap₂ ◌⊕◌ (sym (t.of q lq)) (column_total y (λ k l. off k) q lq ∙ column_same q (λ i. y (cell_number s i c)) h.value at)
          ∙ sym (h.left q lq) ∙ zero q lq);
      agree = λ k l n. ap (λ (x : ℕ). f k ⊕ x) (off k n) ∙ ⊕_zero (f k);
    }
      where
        y : ℕ → ℕ
        y = in_column s c h.value

        off : (k : ℕ) → k / rows s ≢ c → y k ≡ 0
        off k n = ap (λ (b : Bool). cond b (h.value (k % rows s)) 0) (ne_eqb (k / rows s) c n)

        at : (i : ℕ) → i < rows s → y (cell_number s i c) ≡ h.value i
        at i l = ap₂ (λ (b : Bool) (j : ℕ). cond b (h.value j) 0) (eq-eqb (cell_number s i c / rows s) c (column_is s w i c l)) (row_is s w i c l)

    -- the column explains the values: nothing is left
    explained_zero : Explains s f c → (q : ℕ) → q < equations s → get_or rest q 0 ≡ 0
    explained_zero e q lq =
        h.left q lq ∙ ap₂ ◌⊕◌ (total_is q lq) (column_same q h.value (λ i. y (cell_number s i c)) value_is) ∙ ⊕_self (column_sum s q c (λ i. y (cell_number s i c)))
      where
        y : ℕ → ℕ
        y = plus f e.mended

        -- the totals are those of y, which is 0 off the column
        total_is : (r : ℕ) → r < equations s → get_or totals r 0 ≡ column_sum s r c (λ i. y (cell_number s i c))
        total_is r lr =
            t.of r lr
            ∙ sym (total_plus s r f e.mended ∙ ap (λ (x : ℕ). total s r f ⊕ x) (total_zero s r e.mended (e.solves r lr)) ∙ ⊕_zero (total s r f))
            ∙ column_total y (λ k l n. equal_⊕ (f k) (e.mended k) (sym (e.agree k l n))) r lr

        same_row : (j i : ℕ) → j < rows s → i < rows s → cell_number s j c ≡ cell_number s i c → j ≡ i
        same_row j i lj li e = sym (row_is s w j c lj) ∙ ap (λ (k : ℕ). k % rows s) e ∙ row_is s w i c li

        -- the lowest equation that holds a cell holds no other cell of the column
        value_is : (i : ℕ) → i < rows s → h.value i ≡ y (cell_number s i c)
        value_is i l =
            let by = h.by i l in
            let inside = cell_inside s w i c l lc in
            let there = lowest_there s w (cell_number s i c) inside by.0 by.1 in
            by.2 ∙ total_is by.0 there
            ∙ xors_one (rows s) (λ j. cond (holds s by.0 (cell_number s j c)) (y (cell_number s j c)) 0) i l
            (λ j lj n. ap (λ (b : Bool). cond b (y (cell_number s j c)) 0)
            (not_passed (λ p. n (same_row j i lj l (lowest_alone s w (cell_number s i c) inside by.0 by.1 (cell_number s j c) (column_is s w j c lj ∙ sym (column_is s w i c l)) p)))))
            ∙ ap (λ (b : Bool). cond b (y (cell_number s i c)) 0) (by.1.passes there)

-- ---- the candidate: the column at place c

module _ (s : Shape) (w : WellFormed s) (c : ℕ) (lc : c < disks s) (column : ℕ) (is : column ≡ column_of s c) (totals rest : List ℕ) (h : Without s totals column (rows s) rest) where
  there : column < columns s
  there = omega (arith, column_there s w c lc)

  -- something is left: the column is passed over
  pub none_more : (next q : ℕ) → next ≡ c + 1 → NoneBelow s totals c → q < equations s → get_or rest q 0 ≢ 0 → NoneBelow s totals next
  none_more next q one before lq left f t d l e =
      by_equal d c (λ same. left (explained_zero s w column there f totals rest t h (subst (Explains s f) (ap (column_of s) same ∙ sym is) e) q lq)) (λ n. before f t d (omega arith) e)

  pub candidate_here : (r : ℕ) → r ≡ c → ((q : ℕ) → q < equations s → get_or rest q 0 ≡ 0) → Candidate s totals (Some r)
  candidate_here r same zero =
      subst (λ (d : ℕ). Candidate s totals (Some d)) (sym same) (lc, λ f t. subst (Explains s f) is (explains_by s w column there f totals rest t h zero))

pub candidate_none : (s : Shape) (totals : List ℕ) (c : ℕ) → c ≡ disks s → NoneBelow s totals c → Candidate s totals None
candidate_none s totals c e before f t d ld x = before f t d (omega arith) x
