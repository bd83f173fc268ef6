-- Laws of masks: a set of at most 64 equations, each a bit of a number, under the steps that elimination takes.
use mathlib.Core.Path.{◌≡◌, refl, sym, ap, ap₂, ◌∙◌}
use mathlib.Core.Logic.{◌≢◌}
use mathlib.Core.Bool.{Bool, true, false, not, ◌&&◌, xor, and-false}
use Prim.Native.Nat.{ℕ, zero, suc, ◌-◌, ◌/◌, ◌%◌, ◌^◌, ◌<◌}
use native.Mathlib.Nat.{lt_of_le_of_lt}
use native.Mathlib.Omega.{arith}
use lib.Bits.{bit_xor, bit_and, and_le_r}
use lib.Dec.{eqb, eqb-suc-suc}
use lib.Pow.{pow-lt}
use borrow.Author.Tests.{eq-eqb, ne_eqb, eqb-true, not-true, not-false}
use Rattle.xor.proofs.Cases.{by_test, by_equal, clash}
use Rattle.bits.specs.Bit.{bit, IsLowest}
use Rattle.bits.proofs.Bits.{bit_first, bit_next, bit_xor_lem, bit_and_lem, bit_zero, bit_power, no_bits}
use Rattle.bits.proofs.Tests.{take_out}

-- ---- the test of one bit
pub and_power : (q m : ℕ) → eqb (bit_and m (2 ^ q)) 0 ≡ not (bit q m)
and_power q m = by_test (bit q m) (λ p. ne_eqb (bit_and m (2 ^ q)) 0 (some p) ∙ rw p refl) (λ p. eq-eqb (bit_and m (2 ^ q)) 0 (none p) ∙ rw p refl)
  where
    some : bit q m ≡ true → bit_and m (2 ^ q) ≡ 0 → ⊥
    some p e = clash (bit_and_lem q m (2 ^ q) ∙ ap₂ ◌&&◌ p (bit_power q q ∙ eq-eqb q q refl)) (ap (bit q) e ∙ bit_zero q)

    off : bit q m ≡ false → (k : ℕ) → (bit k m && eqb k q) ≡ false
    off p k = by_equal k q (λ e. ap (λ (b : Bool). b && eqb k q) (ap (λ (j : ℕ). bit j m) e ∙ p)) (λ e. ap (◌&&◌ (bit k m)) (ne_eqb k q e) ∙ and-false (bit k m))

    none : bit q m ≡ false → bit_and m (2 ^ q) ≡ 0
    none p =
        no_bits (suc q) (bit_and m (2 ^ q)) (lt_of_le_of_lt (and_le_r m (2 ^ q)) (pow-lt (omega arith)))
        (λ k l. bit_and_lem k m (2 ^ q) ∙ ap (◌&&◌ (bit k m)) (bit_power k q) ∙ off p k)

-- as the code does it
pub bit_clear : (q m one : ℕ) → one ≡ 2 ^ q → bit_and m one ≡ 0 → bit q m ≡ false
bit_clear q m one e z = not-true (bit q m) (sym (and_power q m) ∙ eq-eqb (bit_and m (2 ^ q)) 0 (ap (bit_and m) (sym e) ∙ z))

pub bit_set : (q m one : ℕ) → one ≡ 2 ^ q → bit_and m one ≢ 0 → bit q m ≡ true
bit_set q m one e n = not-false (bit q m) (sym (and_power q m) ∙ ne_eqb (bit_and m (2 ^ q)) 0 (λ z. n (ap (bit_and m) e ∙ z)))

-- ---- the lowest member taken out

-- one less: the bits above the lowest set one stay, and that one goes
less_one : (t k m : ℕ) → bit t m ≡ true → ((j : ℕ) → j < t → bit j m ≡ false) → (bit k m && bit k (m - 1)) ≡ (bit k m && not (eqb k t))
less_one zero zero m p before = ap (◌&&◌ (bit 0 m)) (bit_first (m - 1) ∙ ne_eqb ((m - 1) % 2) 1 even)
  where
    even : (m - 1) % 2 ≡ 1 → ⊥
    even e = let odd : m % 2 ≡ 1 = eqb-true (m % 2) 1 (sym (bit_first m) ∙ p) in omega arith
less_one zero (suc k) m p before =
    let odd : m % 2 ≡ 1 = eqb-true (m % 2) 1 (sym (bit_first m) ∙ p) in
    let same : (m - 1) / 2 ≡ m / 2 = omega arith in
    ap (◌&&◌ (bit (suc k) m)) (bit_next k (m - 1) ∙ ap (bit k) same ∙ sym (bit_next k m))
    ∙ kept (bit (suc k) m) ∙ ap (λ (b : Bool). bit (suc k) m && not b) (sym (ne_eqb (suc k) 0 (λ e. omega arith)))
  where
    kept : (b : Bool) → (b && b) ≡ (b && true)
    kept true = refl
    kept false = refl
less_one (suc t) zero m p before = rw (before 0 (omega arith)) refl
less_one (suc t) (suc k) m p before =
    let odd : m % 2 ≢ 1 = λ e. clash (bit_first m ∙ ap (λ (x : ℕ). eqb x 1) e) (before 0 (omega arith)) in
    let half : (m - 1) / 2 ≡ m / 2 - 1 = omega arith in
    ap₂ ◌&&◌ (bit_next k m) (bit_next k (m - 1) ∙ ap (bit k) half)
    ∙ less_one t k (m / 2) (sym (bit_next t m) ∙ p) (λ j l. sym (bit_next j m) ∙ before (suc j) (omega arith))
    ∙ ap₂ (λ (x y : Bool). x && not y) (sym (bit_next k m)) (sym (eqb-suc-suc k t))

pub clear_lowest : (n m t : ℕ) → IsLowest n (λ k. bit k m) t → t < n → (k : ℕ) → bit k (bit_and m (m - 1)) ≡ (bit k m && not (eqb k t))
clear_lowest n m t h l k = bit_and_lem k m (m - 1) ∙ less_one t k m (h.passes l) h.before

-- ---- a choice, in masks

-- the other members of a set that q is in
pub bit_others : (q r m : ℕ) → bit q m ≡ true → bit r (bit_xor m (2 ^ q)) ≡ (not (eqb r q) && bit r m)
bit_others q r m p =
    bit_xor_lem r m (2 ^ q) ∙ ap (xor (bit r m)) (bit_power r q)
    ∙ take_out (bit r m) (eqb r q) (λ e. ap (λ (k : ℕ). bit k m) (eqb-true r q e) ∙ p)
