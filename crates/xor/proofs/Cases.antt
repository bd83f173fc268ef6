-- Going by cases: on a test, on whether two numbers are equal, on the numbers below a bound.
use mathlib.Core.Path.{◌≡◌, refl, sym, ◌∙◌, subst}
use mathlib.Core.Logic.{◌≢◌}
use mathlib.Core.Bool.{Bool, true, false, ◌&&◌, ◌||◌, xor, true≢false}
use Prim.Native.Nat.{ℕ, ◌≤◌, ◌<◌}
use native.Mathlib.Decide.{ℕ_discrete, dec_lt}
use native.Mathlib.Omega.{arith}

-- a test passes or fails
pub by_test : {A : Type 0} (b : Bool) → (b ≡ true → A) → (b ≡ false → A) → A
by_test true yes' no' = yes' refl
by_test false yes' no' = no' refl

-- a test that passes and fails
pub clash : {A : Type 0} {b : Bool} → b ≡ true → b ≡ false → A
clash p q = absurd (true≢false (sym p ∙ q))

-- two numbers are equal or not
pub by_equal : {A : Type 0} (m n : ℕ) → (m ≡ n → A) → (m ≢ n → A) → A
by_equal {A} m n same other = go (ℕ_discrete m n)
  where
    go : Dec (m ≡ n) → A
    go (yes e) = same e
    go (no e) = other e

-- a number is below another or not
pub by_less : {A : Type 0} (m n : ℕ) → (m < n → A) → (n ≤ m → A) → A
by_less {A} m n less other = go (dec_lt m n)
  where
    go : Dec (m < n) → A
    go (yes l) = less l
    go (no l) = other (omega arith)

-- both tests of a conjunction
pub and_left : (a b : Bool) → (a && b) ≡ true → a ≡ true
and_left true b h = refl
and_left false b h = h

pub and_right : (a b : Bool) → (a && b) ≡ true → b ≡ true
and_right true b h = h
and_right false b h = clash h refl

pub and_both : {a b : Bool} → a ≡ true → b ≡ true → (a && b) ≡ true
and_both {b = b} p q = subst (λ (x : Bool). (x && b) ≡ true) (sym p) q

-- one of two tests of a disjunction
pub either : {A : Type 0} (a b : Bool) → (a || b) ≡ true → (a ≡ true → A) → (b ≡ true → A) → A
either true b h f g = f refl
either false b h f g = g h

pub or_left : {a : Bool} (b : Bool) → a ≡ true → (a || b) ≡ true
or_left b p = subst (λ (x : Bool). (x || b) ≡ true) (sym p) refl

pub or_right : (a : Bool) {b : Bool} → b ≡ true → (a || b) ≡ true
or_right true p = refl
or_right false p = p

-- a test that does not pass fails
pub not_passed : {b : Bool} → (b ≡ true → ⊥) → b ≡ false
not_passed {b} h = by_test b (λ p. absurd (h p)) (λ p. p)

-- tests that pass together are equal
pub same_test : {a b : Bool} → (a ≡ true → b ≡ true) → (b ≡ true → a ≡ true) → a ≡ b
same_test {a} there back = by_test a (λ p. p ∙ sym (there p)) (λ p. p ∙ sym (not_passed (λ q. clash (back q) p)))

-- tests that differ nowhere are the same
pub not_xor : (a b : Bool) → xor a b ≡ false → a ≡ b
unfolding xor
not_xor true true h = refl
not_xor true false h = h
not_xor false true h = sym h
not_xor false false h = refl
