-- Sets of numbers below p turned by so many places: a set beside itself p places on, and what is moved down from that.
use mathlib.Core.Path.{◌≡◌, sym, ap, ap₂, ◌∙◌}
use mathlib.Core.Bool.{false, ◌||◌, or-false}
use Prim.Native.Nat.{ℕ, zero, suc, ◌+◌, ◌-◌, ◌*◌, ◌/◌, ◌%◌, ◌^◌, ◌≤◌, ◌<◌}
use native.Mathlib.Nat.{add_comm, mul_assoc, pow-suc, mul-div_cancel, mul-mod_left, mod-eq_of_lt, add-mod_right, lt_of_lt_of_le, zero-lt-suc}
use native.Mathlib.Omega.{arith}
use lib.Bits.{bit_or}
use lib.Dec.{eqb}
use lib.Pow.{pow_pos, pow_mono, shr-shr}
use Rattle.xor.proofs.Cases.{by_less}
use Rattle.bits.specs.Bit.{bit}
use Rattle.bits.proofs.Bits.{bit_first, bit_next, bit_above, bit_or_lem}

-- ---- moved down and up

pub bit_down : (k q m : ℕ) → bit k (m / 2 ^ q) ≡ bit (k + q) m
unfolding bit
bit_down k q m = ap (λ (x : ℕ). eqb (x % 2) 1) (shr-shr m q k ∙ ap (λ (n : ℕ). m / 2 ^ n) (add_comm q k))

pub bit_up : (k q m : ℕ) → bit (k + q) (m * 2 ^ q) ≡ bit k m
bit_up k q m = sym (bit_down k q (m * 2 ^ q)) ∙ ap (bit k) (mul-div_cancel m (pow_pos q))

twofold : (q m : ℕ) → m * 2 ^ suc q ≡ m * 2 ^ q * 2
twofold q m = ap (◌*◌ m) (pow-suc 2 q) ∙ sym (mul_assoc m (2 ^ q) 2)

-- what is moved up leaves nothing below
pub bit_up_below : (k q m : ℕ) → k < q → bit k (m * 2 ^ q) ≡ false
bit_up_below k zero m l = absurd (omega arith)
bit_up_below zero (suc q) m l = bit_first (m * 2 ^ suc q) ∙ ap (λ (x : ℕ). eqb x 1) (ap (λ (x : ℕ). x % 2) (twofold q m) ∙ mul-mod_left (m * 2 ^ q) 2)
bit_up_below (suc k) (suc q) m l =
    bit_next k (m * 2 ^ suc q) ∙ ap (bit k) (ap (λ (x : ℕ). x / 2) (twofold q m) ∙ mul-div_cancel (m * 2 ^ q) (zero-lt-suc 1)) ∙ bit_up_below k q m (omega arith)

-- ---- a set beside itself

module _ (p n m up : ℕ) (few : m < 2 ^ n) (l : n ≤ p) (e : up ≡ m * 2 ^ p) where
  pub bit_twice : (i : ℕ) → i < p + p → bit i (bit_or m up) ≡ bit (i % p) m
  bit_twice i li = bit_or_lem i m up ∙ by_less i p near far
    where
      near : i < p → (bit i m || bit i up) ≡ bit (i % p) m
      near k = ap (◌||◌ (bit i m)) (ap (bit i) e ∙ bit_up_below i p m k) ∙ or-false (bit i m) ∙ ap (λ (x : ℕ). bit x m) (sym (mod-eq_of_lt k))

      far : p ≤ i → (bit i m || bit i up) ≡ bit (i % p) m
      far k =
          ap₂ ◌||◌ (bit_above i m (lt_of_lt_of_le few (pow_mono (omega arith)))) (ap₂ bit (sym again) e ∙ bit_up (i - p) p m)
          ∙ ap (λ (x : ℕ). bit x m) (sym (ap (λ (x : ℕ). x % p) (sym again) ∙ add-mod_right (i - p) p ∙ mod-eq_of_lt (omega arith)))
        where
          again : i - p + p ≡ i
          again = omega arith

  -- moved down by so many places it is the set turned
  pub bit_turned : (i turn : ℕ) → i + turn < p + p → bit i (bit_or m up / 2 ^ turn) ≡ bit ((i + turn) % p) m
  bit_turned i turn li = bit_down i turn (bit_or m up) ∙ bit_twice (i + turn) li
