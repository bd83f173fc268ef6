-- Laws of `xors`, the XOR of a row of numbers.
use mathlib.Core.Path.{◌≡◌, refl, sym, ap, ap₂, ◌∙◌}
use mathlib.Core.Logic.{◌≢◌}
use mathlib.Core.Bool.{Bool, true, false, cond, not, ◌&&◌}
use Prim.Native.Nat.{ℕ, zero, suc, ◌+◌, ◌^◌, ◌<◌}
use native.Mathlib.Numerals.{add-one}
use native.Mathlib.Omega.{arith}
use lib.Pow.{pow_pos}
use lib.Dec.{eqb}
use borrow.Author.Tests.{eq-eqb, ne_eqb}
use Rattle.xor.specs.Xor.{◌⊕◌, xors}
use Rattle.xor.proofs.Cases.{by_test, by_equal, clash, and_left, and_right, not_passed}
use Rattle.xor.proofs.Algebra.{zero_⊕, ⊕_zero, ⊕_comm, ⊕_assoc, ⊕_bits, swap_middle}

-- one number more
pub xors_more : (n : ℕ) (f : ℕ → ℕ) → xors (n + 1) f ≡ xors n f ⊕ f n
unfolding xors
xors_more n f = rw add-one refl

pub xors_none : (f : ℕ → ℕ) → xors 0 f ≡ 0
unfolding xors
xors_none f = refl

-- equal numbers have equal sums
pub xors_same : (n : ℕ) (f g : ℕ → ℕ) → ((k : ℕ) → k < n → f k ≡ g k) → xors n f ≡ xors n g
unfolding xors
xors_same zero f g h = refl
xors_same (suc n) f g h = ap₂ ◌⊕◌ (xors_same n f g (λ k l. h k (omega arith))) (h n (omega arith))

-- numbers of b bits have a sum of b bits
pub xors_bits : (b n : ℕ) (f : ℕ → ℕ) → ((k : ℕ) → k < n → f k < 2 ^ b) → xors n f < 2 ^ b
unfolding xors
xors_bits b zero f h = pow_pos b
xors_bits b (suc n) f h = ⊕_bits b (xors n f) (f n) (xors_bits b n f (λ k l. h k (omega arith))) (h n (omega arith))

-- a number that is 0, or nothing
pub nothing : (b : Bool) (x : ℕ) → x ≡ 0 → cond b x 0 ≡ 0
nothing true x e = e
nothing false x e = refl

pub xors_zero : (n : ℕ) (f : ℕ → ℕ) → ((k : ℕ) → k < n → f k ≡ 0) → xors n f ≡ 0
unfolding xors
xors_zero zero f h = refl
xors_zero (suc n) f h = ap₂ ◌⊕◌ (xors_zero n f (λ k l. h k (omega arith))) (h n (omega arith)) ∙ zero_⊕ 0

-- a sum in which all but one are 0
pub xors_one : (n : ℕ) (f : ℕ → ℕ) (d : ℕ) → d < n → ((k : ℕ) → k < n → k ≢ d → f k ≡ 0) → xors n f ≡ f d
unfolding xors
xors_one zero f d l h = absurd (omega arith)
xors_one (suc n) f d l h =
    by_equal d n
    (λ e. ap₂ ◌⊕◌ (xors_zero n f (λ k lk. h k (omega arith) (λ q. omega arith))) (ap f (sym e)) ∙ zero_⊕ (f d))
    (λ e. ap₂ ◌⊕◌ (xors_one n f d (omega arith) (λ k lk. h k (omega arith))) (h n (omega arith) (λ q. e (sym q))) ∙ ⊕_zero (f d))

-- sums are added number by number
pub xors_plus : (n : ℕ) (f g : ℕ → ℕ) → xors n (λ k. f k ⊕ g k) ≡ xors n f ⊕ xors n g
unfolding xors
xors_plus zero f g = sym (zero_⊕ 0)
xors_plus (suc n) f g = ap (λ (x : ℕ). x ⊕ (f n ⊕ g n)) (xors_plus n f g) ∙ swap_middle (xors n f) (xors n g) (f n) (g n)

-- ---- sums over the numbers that pass a test

-- the numbers that pass a test, without d
abbrev without : ℕ → (ℕ → Bool) → ℕ → Bool
without d e c = e c && not (eqb c d)

without_same : (d : ℕ) (e : ℕ → Bool) → without d e d ≡ false
without_same d e = by_test (e d) (λ h. rw (h, eq-eqb d d refl) refl) (λ h. rw h refl)

without_other : (d : ℕ) (e : ℕ → Bool) (c : ℕ) → c ≢ d → without d e c ≡ e c
without_other d e c n = by_test (e c) (λ h. rw (h, ne_eqb c d n) refl) (λ h. rw h refl)

-- one number that passes is set apart
pub set_apart : (n : ℕ) (e : ℕ → Bool) (f : ℕ → ℕ) (d : ℕ) → d < n → e d ≡ true
    → xors n (λ c. cond (e c) (f c) 0) ≡ xors n (λ c. cond (without d e c) (f c) 0) ⊕ f d
unfolding xors
set_apart zero e f d l h = absurd (omega arith)
set_apart (suc n) e f d l h =
    by_equal d n
    (λ q. ap₂ ◌⊕◌
    (xors_same n (λ c. cond (e c) (f c) 0) (λ c. cond (without d e c) (f c) 0) (λ c lc. ap (λ (b : Bool). cond b (f c) 0) (sym (without_other d e c (λ k. omega arith)))))
    (ap (λ (b : Bool). cond b (f n) 0) (ap e (sym q) ∙ h) ∙ ap f (sym q))
    ∙ ap (λ (x : ℕ). x ⊕ f d) (sym (⊕_zero (xors n (λ c. cond (without d e c) (f c) 0)))
    ∙ ap (λ (b : Bool). xors n (λ c. cond (without d e c) (f c) 0) ⊕ cond b (f n) 0) (sym (ap (without d e) (sym q) ∙ without_same d e))))
    (λ q. ap₂ ◌⊕◌ (set_apart n e f d (omega arith) h) (ap (λ (b : Bool). cond b (f n) 0) (sym (without_other d e n (λ k. q (sym k)))))
    ∙ swap_last (xors n (λ c. cond (without d e c) (f c) 0)) (f d) (cond (without d e n) (f n) 0))
  where
    swap_last : (a b c : ℕ) → (a ⊕ b) ⊕ c ≡ (a ⊕ c) ⊕ b
    swap_last a b c = ⊕_assoc a b c ∙ ap (λ (x : ℕ). a ⊕ x) (⊕_comm b c) ∙ sym (⊕_assoc a c b)

-- g 0 to g (count - 1) are the numbers below n that pass the test, each once
pub record Lists (n : ℕ) (e : ℕ → Bool) (count : ℕ) (g : ℕ → ℕ) : Type 0 where
  pub below : (k : ℕ) → k < count → g k < n
  pub passes : (k : ℕ) → k < count → e (g k) ≡ true
  pub all : (c : ℕ) → c < n → e c ≡ true → (k : ℕ) × (k < count) × (g k ≡ c)
  pub once : (j k : ℕ) → j < count → k < count → g j ≡ g k → j ≡ k

shorter_list : (n : ℕ) (e : ℕ → Bool) (count : ℕ) (g : ℕ → ℕ) → Lists n e (suc count) g → Lists n (without (g count) e) count g
shorter_list n e count g h = record {
  below = λ k l. h.below k (omega arith);
  passes = λ k l. without_other (g count) e (g k) (λ q. apart k l (h.once k count (omega arith) (omega arith) q)) ∙ h.passes k (omega arith);
  all = λ c l p.
      let found = h.all c l (and_left (e c) (not (eqb c (g count))) p) in
      (found.0, left c found.0 found.1 found.2 (and_right (e c) (not (eqb c (g count))) p), found.2);
  once = λ j k lj lk q. h.once j k (omega arith) (omega arith) q;
}
  where
    apart : (k : ℕ) → k < count → k ≢ count
    apart k l q = omega arith

    left : (c k : ℕ) → k < suc count → g k ≡ c → not (eqb c (g count)) ≡ true → k < count
    left c k l q p = by_equal k count (λ z. clash p (rw (eq-eqb c (g count) (sym q ∙ ap g z)) refl)) (λ z. omega arith)

-- the sum over a list is the sum over the test
pub xors_listed : (n : ℕ) (e : ℕ → Bool) (count : ℕ) (g : ℕ → ℕ) → Lists n e count g → (f : ℕ → ℕ) → xors n (λ c. cond (e c) (f c) 0) ≡ xors count (λ k. f (g k))
unfolding xors
xors_listed n e zero g h f = xors_zero n (λ c. cond (e c) (f c) 0) (λ c l. ap (λ (b : Bool). cond b (f c) 0) (not_passed (λ p. absurd (let k = (h.all c l p).1 in omega arith))))
xors_listed n e (suc count) g h f =
    set_apart n e f (g count) (h.below count (omega arith)) (h.passes count (omega arith))
    ∙ ap (λ (x : ℕ). x ⊕ f (g count)) (xors_listed n (without (g count) e) count g (shorter_list n e count g h) f)
