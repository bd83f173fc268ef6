-- Laws of `over`, the XOR of the values that pass a test: it is linear in the test and in the values.
use mathlib.Core.Path.{◌≡◌, refl, sym, ap, ap₂, ◌∙◌}
use mathlib.Core.Logic.{◌≢◌}
use mathlib.Core.Bool.{Bool, true, false, cond, not, ◌&&◌, xor}
use Prim.Native.Nat.{ℕ, ◌^◌, ◌<◌}
use lib.Dec.{eqb}
use lib.Pow.{pow_pos}
use borrow.Author.Tests.{eq-eqb, ne_eqb}
use Rattle.xor.specs.Xor.{◌⊕◌, xors}
use Rattle.xor.proofs.Cases.{by_test, by_equal, clash}
use Rattle.xor.proofs.Algebra.{zero_⊕, ⊕_zero, ⊕_self}
use Rattle.xor.proofs.Sums.{xors_same, xors_zero, xors_one, xors_plus, xors_bits}
use Rattle.elimination.specs.Solution.{over}
use Rattle.bits.proofs.Tests.{split_by}

-- ---- sums of numbers

-- one number is x, the others are zero
xors_single : (n d x : ℕ) → d < n → xors n (λ k. cond (eqb k d) x 0) ≡ x
xors_single n d x l = xors_one n (λ k. cond (eqb k d) x 0) d l (λ k lk e. rw (ne_eqb k d e) refl) ∙ rw (eq-eqb d d refl) refl

-- ---- the values

-- equal values where the test passes
pub over_values : (n : ℕ) (e : ℕ → Bool) (f g : ℕ → ℕ) → ((c : ℕ) → c < n → e c ≡ true → f c ≡ g c) → over n e f ≡ over n e g
over_values n e f g h =
    xors_same n (λ c. cond (e c) (f c) 0) (λ c. cond (e c) (g c) 0)
    (λ c l. by_test (e c) (λ p. ap (λ (x : ℕ). cond (e c) x 0) (h c l p)) (λ p. rw p refl))

pub over_zero : (n : ℕ) (e : ℕ → Bool) (f : ℕ → ℕ) → ((c : ℕ) → c < n → e c ≡ true → f c ≡ 0) → over n e f ≡ 0
over_zero n e f h = xors_zero n (λ c. cond (e c) (f c) 0) (λ c l. by_test (e c) (λ p. rw p (h c l p)) (λ p. rw p refl))

-- one value, and zeros
pub over_one : (n : ℕ) (e : ℕ → Bool) (f : ℕ → ℕ) (d : ℕ) → d < n → e d ≡ true → ((c : ℕ) → c < n → c ≢ d → e c ≡ true → f c ≡ 0) → over n e f ≡ f d
over_one n e f d l p h =
    xors_same n (λ c. cond (e c) (f c) 0) (λ c. cond (eqb c d) (f d) 0)
    (λ c lc. by_equal c d
    (λ q. ap₂ (λ (b : Bool) (x : ℕ). cond b x 0) (ap e q ∙ p ∙ sym (eq-eqb c d q)) (ap f q))
    (λ q. by_test (e c) (λ t. rw (t, ne_eqb c d q) (h c lc q t)) (λ t. rw (t, ne_eqb c d q) refl)))
    ∙ xors_single n d (f d) l

pub over_bits : (b n : ℕ) (e : ℕ → Bool) (f : ℕ → ℕ) → ((c : ℕ) → c < n → e c ≡ true → f c < 2 ^ b) → over n e f < 2 ^ b
over_bits b n e f h = xors_bits b n (λ c. cond (e c) (f c) 0) (λ c l. by_test (e c) (λ p. rw p (h c l p)) (λ p. rw p (pow_pos b)))

-- ---- the test

-- equal tests
pub over_tests : (n : ℕ) (e e' : ℕ → Bool) (f : ℕ → ℕ) → ((c : ℕ) → c < n → e c ≡ e' c) → over n e f ≡ over n e' f
over_tests n e e' f h = xors_same n (λ c. cond (e c) (f c) 0) (λ c. cond (e' c) (f c) 0) (λ c l. ap (λ (b : Bool). cond b (f c) 0) (h c l))

cond_xor : (a b : Bool) (x : ℕ) → cond (xor a b) x 0 ≡ cond a x 0 ⊕ cond b x 0
unfolding xor
cond_xor true true x = sym (⊕_self x)
cond_xor true false x = sym (⊕_zero x)
cond_xor false true x = sym (zero_⊕ x)
cond_xor false false x = sym (zero_⊕ 0)

-- the cells in exactly one of two equations
pub over_xor : (n : ℕ) (e e' : ℕ → Bool) (f : ℕ → ℕ) → over n (λ c. xor (e c) (e' c)) f ≡ over n e f ⊕ over n e' f
over_xor n e e' f =
    xors_same n (λ c. cond (xor (e c) (e' c)) (f c) 0) (λ c. cond (e c) (f c) 0 ⊕ cond (e' c) (f c) 0) (λ c l. cond_xor (e c) (e' c) (f c))
    ∙ xors_plus n (λ c. cond (e c) (f c) 0) (λ c. cond (e' c) (f c) 0)

-- all of an equation's cells, or none
pub over_part : (n : ℕ) (b : Bool) (e : ℕ → Bool) (f : ℕ → ℕ) → over n (λ c. b && e c) f ≡ cond b (over n e f) 0
over_part n true e f = refl
over_part n false e f = over_zero n (λ c. false) f (λ c l p. clash p refl)

-- the cells of an equation that fail a second test, and those that pass it
pub over_split : (n : ℕ) (e s : ℕ → Bool) (f : ℕ → ℕ) → over n e f ≡ over n (λ c. e c && not (s c)) f ⊕ over n (λ c. e c && s c) f
over_split n e s f = over_tests n e (λ c. xor (e c && not (s c)) (e c && s c)) f (λ c l. split_by (e c) (s c)) ∙ over_xor n (λ c. e c && not (s c)) (λ c. e c && s c) f

-- leaving cells out of the test, or putting zeros in them
pub over_kept : (n : ℕ) (e lost : ℕ → Bool) (f : ℕ → ℕ) → over n (λ c. e c && not (lost c)) f ≡ over n e (λ c. cond (lost c) 0 (f c))
over_kept n e lost f =
    xors_same n (λ c. cond (e c && not (lost c)) (f c) 0) (λ c. cond (e c) (cond (lost c) 0 (f c)) 0) (λ c l. by_both (e c) (lost c) (f c))
  where
    by_both : (a b : Bool) (x : ℕ) → cond (a && not b) x 0 ≡ cond a (cond b 0 x) 0
    by_both true true x = refl
    by_both true false x = refl
    by_both false b x = refl
