-- What is left of the totals when the cells of a column take in a value each, one row after the other.
use mathlib.Core.Path.{◌≡◌, refl, sym, ap, ap₂, ◌∙◌, subst}
use mathlib.Core.Logic.{◌≢◌}
use mathlib.Core.List.{List}
use mathlib.Core.Bool.{Bool, true, false, cond, ◌&&◌}
use Prim.Native.Nat.{ℕ, ◌+◌, ◌≤◌, ◌<◌}
use native.Mathlib.Omega.{arith}
use lib.Bits.{bit_xor}
use lib.Dec.{eqb, ltb}
use lib.ListN.{length, get_or, set}
use lib.Seq.{get_or-set_same, get_or-set_other}
use borrow.Author.Tests.{eq-eqb, ne_eqb, lt-ltb, ltb-true}
use Rattle.xor.specs.Xor.{◌⊕◌, xors}
use Rattle.xor.proofs.Cases.{by_test, by_equal, clash, and_left, and_right}
use Rattle.xor.proofs.Algebra.{⊕_is, ⊕_zero, ⊕_assoc}
use Rattle.xor.proofs.Sums.{xors_none, xors_more, xors_same}
use Rattle.bits.specs.Bit.{bit, IsLowest}
use Rattle.bits.proofs.Bits.{bit_zero}
use Rattle.codes.specs.declared.Shape.{Shape}
use Rattle.codes.specs.Shape.{cells, equations, cell_number, WellFormed}
use Rattle.codes.specs.Holders.{holds, HeldBy}
use Rattle.codes.proofs.Depends.{held_some}
use Rattle.solve.specs.Masked.{Added}
use Rattle.solve.proofs.Turns.{added_mask}
use Rattle.bad.specs.Candidate.{Without}

-- ---- one entry

-- the entries below q are those of f, and so is entry q
pub filled_more : (f : ℕ → ℕ) (old : List ℕ) (q x : ℕ) → q < length old → ((k : ℕ) → k < q → get_or old k 0 ≡ f k) → x ≡ f q → (k : ℕ) → k < q + 1 → get_or (set old q x) k 0 ≡ f k
filled_more f old q x l before here k lk =
    by_equal k q (λ e. ap (λ (j : ℕ). get_or (set old q x) j 0) e ∙ get_or-set_same old q x 0 l ∙ here ∙ ap f (sym e)) (λ n. get_or-set_other old q k x 0 n ∙ before k (omega arith))

-- ---- one row

-- x XORed into a number where a test passes
added : (b : Bool) (a x : ℕ) → cond b (bit_xor a x) a ≡ a ⊕ cond b x 0
added true a x = sym (⊕_is a x)
added false a x = sym (⊕_zero a)

module _ (s : Shape) (w : WellFormed s) (c m : ℕ) (inside : c < cells s) (held : HeldBy s c m) where
  -- some equation holds the cell
  pub held_not_none : m ≢ 0
  held_not_none e =
      let some = held_some s w c inside in
      clash (held.bits some.0 ∙ ap₂ ◌&&◌ (lt-ltb some.0 (equations s) some.1) some.2) (ap (bit some.0) e ∙ bit_zero some.0)

  -- the lowest member of the set is the lowest equation that holds the cell
  pub held_lowest : (q : ℕ) → q < 64 → IsLowest 64 (λ k. bit k m) q → IsLowest (equations s) (λ k. holds s k c) q
  held_lowest q lq lowest = record {
    most = omega (arith, below);
    passes = λ l. and_right (ltb q (equations s)) (holds s q c) in_set;
    before = λ k l. by_test (holds s k c) (λ p. clash (held.bits k ∙ ap₂ ◌&&◌ (lt-ltb k (equations s) (omega (arith, below))) p) (lowest.before k l)) (λ p. p);
  }
    where
      in_set : (ltb q (equations s) && holds s q c) ≡ true
      in_set = sym (held.bits q) ∙ lowest.passes lq

      below : q < equations s
      below = ltb-true q (equations s) (and_left (ltb q (equations s)) (holds s q c) in_set)

module _ (s : Shape) (totals : List ℕ) (column : ℕ) where
  pub without_none : Without s totals column 0 totals
  without_none = record {
    value = λ i. 0;
    by = λ i l. absurd (omega arith);
    left = λ q l. sym (⊕_zero (get_or totals q 0)) ∙ ap (λ (x : ℕ). get_or totals q 0 ⊕ x) (sym (xors_none (λ i. cond (holds s q (cell_number s i column)) 0 0)));
  }

  -- the cell in row i takes in x, the total of the lowest equation that holds it
  pub without_more : (i x m low : ℕ) (rest next : List ℕ) → equations s ≤ length rest → Without s totals column i rest → HeldBy s (cell_number s i column) m
      → IsLowest (equations s) (λ k. holds s k (cell_number s i column)) low → x ≡ get_or totals low 0 → Added rest m x next → Without s totals column (i + 1) next
  without_more i x m low rest next few before held lowest total put = record {
    value = value;
    by = λ j l. by_equal j i
        (λ e. (low, subst (λ (k : ℕ). IsLowest (equations s) (λ r. holds s r (cell_number s k column)) low) (sym e) lowest, here j e ∙ total))
        (λ n. let found = before.by j (omega arith) in (found.0, found.1, other j n ∙ found.2));
    left = λ q l.
        added_mask rest m x next put q (omega arith) ∙ added (bit q m) (get_or rest q 0) x
        ∙ ap₂ ◌⊕◌ (before.left q l) (ap (λ (b : Bool). cond b x 0) (held.bits q ∙ ap (λ (b : Bool). b && holds s q (cell_number s i column)) (lt-ltb q (equations s) l)) ∙ own q)
        ∙ ⊕_assoc (get_or totals q 0) (xors i (part q before.value)) (part q value i)
        ∙ ap (λ (y : ℕ). get_or totals q 0 ⊕ y)
        (ap (λ (y : ℕ). y ⊕ part q value i) (xors_same i (part q before.value) (part q value) (λ j lj. ap (λ (y : ℕ). cond (holds s q (cell_number s j column)) y 0) (sym (other j (λ e. omega arith)))))
        ∙ sym (xors_more i (part q value)));
  }
    where
      value : ℕ → ℕ
      value j = cond (eqb j i) x (before.value j)

      here : (j : ℕ) → j ≡ i → value j ≡ x
      here j e = ap (λ (b : Bool). cond b x (before.value j)) (eq-eqb j i e)

      other : (j : ℕ) → j ≢ i → value j ≡ before.value j
      other j n = ap (λ (b : Bool). cond b x (before.value j)) (ne_eqb j i n)

      -- what row j puts into equation q
      part : ℕ → (ℕ → ℕ) → ℕ → ℕ
      part q v j = cond (holds s q (cell_number s j column)) (v j) 0

      own : (q : ℕ) → part q (λ j. x) i ≡ part q value i
      own q = ap (λ (y : ℕ). cond (holds s q (cell_number s i column)) y 0) (sym (here i refl))

  -- all rows
  pub without_all : (i n : ℕ) (rest : List ℕ) → i ≡ n → Without s totals column i rest → Without s totals column n rest
  without_all i n rest e h = subst (λ (k : ℕ). Without s totals column k rest) e h
