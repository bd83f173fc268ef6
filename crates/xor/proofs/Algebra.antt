-- XOR is a group in which every number is its own inverse.
use mathlib.Core.Path.{◌≡◌, refl, sym, ap, ap₂, ◌∙◌}
use Prim.Native.Nat.{ℕ, zero, suc, ◌+◌, ◌*◌, ◌/◌, ◌%◌, ◌^◌, ◌<◌}
use native.Mathlib.Nat.{mod-lt, zero-lt-suc}
use native.Mathlib.Omega.{arith}
use lib.Arith.{bin_ind, digits_div, digits_mod}
use lib.Bits.{bit_xor, bit_or, differ, xor_step, xor_zero_l, xor_zero_r, xor_comm, xor_self, xor_lt, or_add_and, and_le_l, and_le_r}
use Rattle.xor.specs.Xor.{◌⊕◌}

-- what the code's `^` computes
pub ⊕_is : (a b : ℕ) → a ⊕ b ≡ bit_xor a b
unfolding ◌⊕◌
⊕_is a b = refl

pub zero_⊕ : (a : ℕ) → 0 ⊕ a ≡ a
unfolding ◌⊕◌
zero_⊕ a = xor_zero_l a

pub ⊕_zero : (a : ℕ) → a ⊕ 0 ≡ a
unfolding ◌⊕◌
⊕_zero a = xor_zero_r a

pub ⊕_comm : (a b : ℕ) → a ⊕ b ≡ b ⊕ a
unfolding ◌⊕◌
⊕_comm a b = xor_comm a b

pub ⊕_self : (a : ℕ) → a ⊕ a ≡ 0
unfolding ◌⊕◌
⊕_self a = xor_self a

pub ⊕_bits : (k a b : ℕ) → a < 2 ^ k → b < 2 ^ k → a ⊕ b < 2 ^ k
unfolding ◌⊕◌
⊕_bits k a b la lb = xor_lt k a b la lb

-- ---- associativity, by the last binary digit

pub digit : (a : ℕ) → a % 2 < 2
digit a = mod-lt a (zero-lt-suc 1)

differ_digit : (x y : ℕ) → x < 2 → y < 2 → differ x y < 2
differ_digit zero y lx ly = ly
differ_digit (suc x) zero lx ly = lx
differ_digit (suc zero) (suc zero) lx ly = omega arith
differ_digit (suc zero) (suc (suc y)) lx ly = absurd (omega arith)
differ_digit (suc (suc x)) (suc y) lx ly = absurd (omega arith)

differ_assoc : (x y z : ℕ) → x < 2 → y < 2 → z < 2 → differ (differ x y) z ≡ differ x (differ y z)
differ_assoc zero y z lx ly lz = refl
differ_assoc (suc zero) zero z lx ly lz = refl
differ_assoc (suc zero) (suc zero) zero lx ly lz = refl
differ_assoc (suc zero) (suc zero) (suc zero) lx ly lz = refl
differ_assoc (suc zero) (suc zero) (suc (suc z)) lx ly lz = absurd (omega arith)
differ_assoc (suc zero) (suc (suc y)) z lx ly lz = absurd (omega arith)
differ_assoc (suc (suc x)) y z lx ly lz = absurd (omega arith)

-- the digits of a XOR but the last, and the last
halves : (a b : ℕ) → bit_xor a b / 2 ≡ bit_xor (a / 2) (b / 2)
halves a b = rw (xor_step a b) (digits_div (bit_xor (a / 2) (b / 2)) (differ_digit (a % 2) (b % 2) (digit a) (digit b)))

last : (a b : ℕ) → bit_xor a b % 2 ≡ differ (a % 2) (b % 2)
last a b = rw (xor_step a b) (digits_mod (bit_xor (a / 2) (b / 2)) (differ_digit (a % 2) (b % 2) (digit a) (digit b)))

assoc_step : (a b c : ℕ) → bit_xor (bit_xor (a / 2) (b / 2)) (c / 2) ≡ bit_xor (a / 2) (bit_xor (b / 2) (c / 2))
    → bit_xor (bit_xor a b) c ≡ bit_xor a (bit_xor b c)
assoc_step a b c h =
    xor_step (bit_xor a b) c
    ∙ ap₂ (λ (x y : ℕ). x * 2 + y)
    (ap (λ (x : ℕ). bit_xor x (c / 2)) (halves a b) ∙ h ∙ ap (bit_xor (a / 2)) (sym (halves b c)))
    (ap (λ (x : ℕ). differ x (c % 2)) (last a b) ∙ differ_assoc (a % 2) (b % 2) (c % 2) (digit a) (digit b) (digit c) ∙ ap (differ (a % 2)) (sym (last b c)))
    ∙ sym (xor_step a (bit_xor b c))

pub ⊕_assoc : (a b c : ℕ) → (a ⊕ b) ⊕ c ≡ a ⊕ (b ⊕ c)
unfolding ◌⊕◌
⊕_assoc =
    bin_ind (λ (a : ℕ). (b c : ℕ) → bit_xor (bit_xor a b) c ≡ bit_xor a (bit_xor b c)) (λ b c. refl)
    (λ a half b c. assoc_step a b c (half (b / 2) (c / 2)))

-- ---- what follows

-- what is XORed in twice is gone
pub ⊕_cancel : (a b : ℕ) → a ⊕ (a ⊕ b) ≡ b
⊕_cancel a b = sym (⊕_assoc a a b) ∙ rw (⊕_self a) (zero_⊕ b)

-- two numbers whose XOR is 0 are equal
pub ⊕_equal : (a b : ℕ) → a ⊕ b ≡ 0 → a ≡ b
⊕_equal a b e = sym (⊕_zero a) ∙ ap (λ (x : ℕ). a ⊕ x) (sym e) ∙ ⊕_cancel a b

pub equal_⊕ : (a b : ℕ) → a ≡ b → a ⊕ b ≡ 0
equal_⊕ a b e = ap (λ (x : ℕ). x ⊕ b) e ∙ ⊕_self b

-- (a XOR b) XOR (c XOR d), with b and c changed over
pub swap_middle : (a b c d : ℕ) → (a ⊕ b) ⊕ (c ⊕ d) ≡ (a ⊕ c) ⊕ (b ⊕ d)
swap_middle a b c d =
    ⊕_assoc a b (c ⊕ d)
    ∙ ap (λ (x : ℕ). a ⊕ x) (sym (⊕_assoc b c d) ∙ ap (λ (x : ℕ). x ⊕ d) (⊕_comm b c) ∙ ⊕_assoc c b d)
    ∙ sym (⊕_assoc a c (b ⊕ d))

-- ---- bits gathered by the code's `|`: none is set only where none was

or_zero : (a b : ℕ) → bit_or a b ≡ 0 → (a ≡ 0) × (b ≡ 0)
or_zero a b e = (omega (arith, or_add_and a b, and_le_r a b, e), omega (arith, or_add_and a b, and_le_l a b, e))

pub or_none_left : (a b : ℕ) → bit_or a b ≡ 0 → a ≡ 0
or_none_left a b e = (or_zero a b e).0

pub or_none_right : (a b : ℕ) → bit_or a b ≡ 0 → b ≡ 0
or_none_right a b e = (or_zero a b e).1
