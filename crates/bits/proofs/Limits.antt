-- Sets whose members are all below a number.
use mathlib.Core.Path.{◌≡◌, refl, sym, ap, ◌∙◌}
use mathlib.Core.Bool.{Bool, true, false, xor}
use Prim.Native.Nat.{ℕ, ◌-◌, ◌^◌, ◌<◌}
use native.Mathlib.Nat.{lt_of_lt_of_le}
use native.Mathlib.Omega.{arith}
use lib.Pow.{pow_mono}
use lib.Bits.{bit_xor, bit_and}
use borrow.Author.Tests.{eqb-true, ltb-true}
use Rattle.xor.proofs.Cases.{by_less, clash, and_left}
use Rattle.bits.specs.Bit.{bit, Within}
use Rattle.bits.proofs.Bits.{bit_xor_lem, bit_and_lem, bit_power, bit_ones, bit_above}

-- any 64 bits
pub within_all : (set : ℕ) → set < 2 ^ 64 → Within 64 set
within_all set l = record { below = λ r p. by_less r 64 (λ low. low) (λ high. clash p (bit_above r set (lt_of_lt_of_le l (pow_mono high)))) }

pub within_power : (n q one : ℕ) → one ≡ 2 ^ q → q < n → Within n one
within_power n q one e l = record { below = λ r p. omega (arith, eqb-true r q (sym (bit_power r q) ∙ ap (bit r) (sym e) ∙ p)) }

pub within_ones : (n one : ℕ) → one ≡ 2 ^ n → Within n (one - 1)
within_ones n one e = record { below = λ r p. ltb-true r n (sym (bit_ones r n) ∙ ap (λ (x : ℕ). bit r (x - 1)) (sym e) ∙ p) }

pub within_and : (n a b : ℕ) → Within n a → Within n (bit_and a b)
within_and n a b h = record { below = λ r p. h.below r (and_left (bit r a) (bit r b) (sym (bit_and_lem r a b) ∙ p)) }

-- one of two tests that differ passes
one_passes : {P : Type 0} (a b : Bool) → xor a b ≡ true → (a ≡ true → P) → (b ≡ true → P) → P
unfolding xor
one_passes true b e f g = f refl
one_passes false true e f g = g refl
one_passes false false e f g = clash e refl

pub within_xor : (n a b : ℕ) → Within n a → Within n b → Within n (bit_xor a b)
within_xor n a b ha hb = record { below = λ r p. one_passes (bit r a) (bit r b) (sym (bit_xor_lem r a b) ∙ p) (ha.below r) (hb.below r) }
