-- What broken's tests and its count say of the stripe.
use mathlib.Core.Path.{◌≡◌, refl, sym, ap, ◌∙◌}
use mathlib.Core.List.{List, map}
use mathlib.Core.Bool.{Bool, false, not, cond}
use Prim.Native.Nat.{ℕ, zero, suc, ◌+◌, ◌<◌}
use native.Mathlib.Nat.{zero-add}
use native.Mathlib.Numerals.{add-one}
use lib.Dec.{eqb}
use lib.ListN.{length}
use Rattle.std.specs.List.{filter, range_with_len, count_by}
use Rattle.std.proofs.lemmas.List.{map-id}
use Rattle.std.proofs.lemmas.List.Sums.{length-filter}
use Rattle.std.proofs.lemmas.List.FromFn.{sum_by-map-range_with_len_more}
use borrow.Author.Tests.{eq-eqb, eqb-true, not-false}
use Rattle.xor.specs.Sets.{count}
use Rattle.xor.proofs.Sets.{none_any, any_none, count_same, count_never, count_zero}
use Rattle.codes.specs.declared.Shape.{Shape}
use Rattle.codes.specs.Shape.{equations}
use Rattle.codes.specs.Encoded.{parity_cell, byte_at, parity_byte, Encoded, fails, broken_equations}
use Rattle.equation.specs.declared.Window.{Window}
use Rattle.equation.specs.InWindow.{IsWhole, is_failing}
use Rattle.equation.proofs.Whole.{whole_fails}

-- what a filter keeps of the numbers below n is counted
kept_below : (n : ℕ) (test : ℕ → Bool) → count_by test (map (λ (x : ℕ). x) (range_with_len 0 n)) ≡ count n test
unfolding count
kept_below zero test = refl
kept_below (suc n) test =
    ap (λ (k : ℕ). count_by test (map (λ (x : ℕ). x) (range_with_len 0 k))) (sym (add-one n))
    ∙ sum_by-map-range_with_len_more (λ (x : ℕ). cond (test x) 1 0) (λ (x : ℕ). x) 0 n n (zero-add n) ∙ ap (λ (k : ℕ). k + cond (test n) 1 0) (kept_below n test)

pub kept_counted : (n : ℕ) (test : ℕ → Bool) → length (filter test (range_with_len 0 n)) ≡ count n test
kept_counted n test = length-filter test (range_with_len 0 n) ∙ ap (count_by test) (sym (map-id (range_with_len 0 n))) ∙ kept_below n test

module _ (s : Shape) (stripe : List ℕ) where
  -- an equation that does not fail holds in every byte
  pub not_failing : (q : ℕ) → fails s stripe q ≡ false → (t : ℕ) → t < s.cell → byte_at s stripe (parity_cell s q) t ≡ parity_byte s stripe q t
  unfolding fails
  not_failing q p t l =
      eqb-true (byte_at s stripe (parity_cell s q) t) (parity_byte s stripe q t)
      (not-false (eqb (byte_at s stripe (parity_cell s q) t) (parity_byte s stripe q t)) (any_none s.cell (λ u. not (eqb (byte_at s stripe (parity_cell s q) u) (parity_byte s stripe q u))) p t l))

  -- and one that holds in every byte does not fail
  pub holds_everywhere : (q : ℕ) → ((t : ℕ) → t < s.cell → byte_at s stripe (parity_cell s q) t ≡ parity_byte s stripe q t) → fails s stripe q ≡ false
  unfolding fails
  holds_everywhere q h =
      none_any s.cell (λ t. not (eqb (byte_at s stripe (parity_cell s q) t) (parity_byte s stripe q t)))
      (λ t l. ap not (eq-eqb (byte_at s stripe (parity_cell s q) t) (parity_byte s stripe q t) (h t l)))

  -- all equations are counted, where the window is the whole stripe
  pub counted_all : (w : Window) → IsWhole w s stripe → (n : ℕ) → n ≡ count (equations w.shape) (is_failing w) → n ≡ broken_equations s stripe
  unfolding broken_equations
  counted_all w h n e = e ∙ ap (λ (z : Shape). count (equations z) (is_failing w)) h.shape ∙ count_same (equations s) (is_failing w) (fails s stripe) (λ q l. whole_fails w s stripe h q)

  -- the count is 0 exactly where the stripe is encoded
  pub broken_zero : (broken_equations s stripe ≡ 0 → Encoded s stripe) × (Encoded s stripe → broken_equations s stripe ≡ 0)
  unfolding broken_equations
  broken_zero = (
    λ none. record { holds = λ q l. not_failing q (count_zero (equations s) (fails s stripe) none q l) },
    λ encoded. count_never (equations s) (fails s stripe) (λ q l. holds_everywhere q (encoded.holds q l)),
  )
