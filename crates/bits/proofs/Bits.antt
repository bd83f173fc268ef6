-- Laws of the bits of a number: halving, the code's `^`, `&` and `|`, and its counts of ones and of trailing zeros.
use mathlib.Core.Path.{◌≡◌, refl, sym, ap, ap₂, ◌∙◌}
use mathlib.Core.Logic.{◌≢◌}
use mathlib.Core.Bool.{Bool, false, cond, ◌&&◌, ◌||◌, xor}
use Prim.Native.Nat.{ℕ, zero, suc, ◌+◌, ◌-◌, ◌/◌, ◌%◌, ◌^◌, ◌<◌}
use native.Mathlib.Nat.{zero-lt-suc, pow-suc, div-one, mul-div_cancel, mul-mod_left, div-lt_iff_lt-mul, div-eq_of_lt}
use native.Mathlib.Numerals.{one-add}
use native.Mathlib.Omega.{arith}
use lib.Arith.{lt-one}
use lib.Bits.{bit_xor, bit_and, bit_or, xor_shr, xor_mod, and_shr, and_mod, or_shr, or_mod}
use lib.Count.{ones, ones_step, count_trailing_zeros, under}
use lib.Dec.{eqb, ltb, eqb-suc-suc, leb-suc-suc}
use lib.Pow.{pow_pos, shr-shr}
use borrow.Author.Tests.{eq-eqb, ne_eqb, lt-ltb, le-ltb}
use Rattle.xor.specs.Sets.{count}
use Rattle.xor.proofs.Cases.{by_equal}
use Rattle.xor.proofs.Algebra.{digit}
use Rattle.xor.proofs.Sets.{count_same, count_first}
use Rattle.bits.specs.Bit.{bit, IsLowest}
use Rattle.bits.proofs.Lowest.{lowest_here, lowest_above, lowest_alike}

-- ---- the lowest bit, and the others

pub bit_first : (m : ℕ) → bit 0 m ≡ eqb (m % 2) 1
unfolding bit
bit_first m = ap (λ (x : ℕ). eqb (x % 2) 1) (div-one m)

pub bit_next : (k m : ℕ) → bit (suc k) m ≡ bit k (m / 2)
unfolding bit
bit_next k m = ap (λ (x : ℕ). eqb (x % 2) 1) (ap (λ (x : ℕ). m / 2 ^ x) (sym (one-add k)) ∙ sym (shr-shr m 1 k))

half : (k m : ℕ) → m < 2 ^ suc k → m / 2 < 2 ^ k
half k m l = (div-lt_iff_lt-mul (zero-lt-suc 1)).1 (rw pow-suc at l)

-- no bit from k on
pub bit_above : (k m : ℕ) → m < 2 ^ k → bit k m ≡ false
unfolding bit
bit_above k m l = ap (λ (x : ℕ). eqb (x % 2) 1) (div-eq_of_lt l)

-- a digit is 1 or 0 as it is set or not
digit_one : (d : ℕ) → d < 2 → cond (eqb d 1) 1 0 ≡ d
digit_one zero l = refl
digit_one (suc zero) l = refl
digit_one (suc (suc d)) l = absurd (omega arith)

lowest_digit : (m : ℕ) → cond (bit 0 m) 1 0 ≡ m % 2
lowest_digit m = ap (λ (b : Bool). cond b 1 0) (bit_first m) ∙ digit_one (m % 2) (digit m)

-- a number below a power of two is known by its bits
pub same_bits : (k a b : ℕ) → a < 2 ^ k → b < 2 ^ k → ((q : ℕ) → q < k → bit q a ≡ bit q b) → a ≡ b
same_bits zero a b la lb h = lt-one la ∙ sym (lt-one lb)
same_bits (suc k) a b la lb h =
    let halves : a / 2 ≡ b / 2 = same_bits k (a / 2) (b / 2) (half k a la) (half k b lb) (λ q lq. sym (bit_next q a) ∙ h (suc q) (omega arith) ∙ bit_next q b) in
    let ends : a % 2 ≡ b % 2 = sym (lowest_digit a) ∙ ap (λ (x : Bool). cond x 1 0) (h 0 (omega arith)) ∙ lowest_digit b in
    omega arith

-- the code's count of ones is the number of set bits
pub ones_bits : (k m : ℕ) → m < 2 ^ k → ones m ≡ count k (λ q. bit q m)
unfolding ones count
ones_bits zero m l = ap ones (lt-one l)
ones_bits (suc k) m l =
    ones_step m
    ∙ ap₂ ◌+◌ (sym (lowest_digit m)) (ones_bits k (m / 2) (half k m l) ∙ count_same k (λ q. bit q (m / 2)) (λ q. bit (suc q) m) (λ q lq. sym (bit_next q m)))
    ∙ sym (count_first k (λ q. bit q m))

-- ---- the code's operations

-- what holds of the four pairs of digits holds of any two
two_digits : (P : ℕ → ℕ → Type 0) → P 0 0 → P 0 1 → P 1 0 → P 1 1 → (x y : ℕ) → x < 2 → y < 2 → P x y
two_digits P a b c d zero zero lx ly = a
two_digits P a b c d zero (suc zero) lx ly = b
two_digits P a b c d (suc zero) zero lx ly = c
two_digits P a b c d (suc zero) (suc zero) lx ly = d
two_digits P a b c d zero (suc (suc y)) lx ly = absurd (omega arith)
two_digits P a b c d (suc zero) (suc (suc y)) lx ly = absurd (omega arith)
two_digits P a b c d (suc (suc x)) y lx ly = absurd (omega arith)

xor_digits : (x y : ℕ) → x < 2 → y < 2 → eqb (bit_xor x y) 1 ≡ xor (eqb x 1) (eqb y 1)
unfolding xor
xor_digits = two_digits (λ x y. eqb (bit_xor x y) 1 ≡ xor (eqb x 1) (eqb y 1)) refl refl refl refl

and_digits : (x y : ℕ) → x < 2 → y < 2 → eqb (bit_and x y) 1 ≡ (eqb x 1 && eqb y 1)
and_digits = two_digits (λ x y. eqb (bit_and x y) 1 ≡ (eqb x 1 && eqb y 1)) refl refl refl refl

pub bit_xor_lem : (k a b : ℕ) → bit k (bit_xor a b) ≡ xor (bit k a) (bit k b)
unfolding bit
bit_xor_lem k a b =
    ap (λ (x : ℕ). eqb (x % 2) 1) (xor_shr a b k) ∙ ap (λ (x : ℕ). eqb x 1) (xor_mod (a / 2 ^ k) (b / 2 ^ k) 1)
    ∙ xor_digits (a / 2 ^ k % 2) (b / 2 ^ k % 2) (digit (a / 2 ^ k)) (digit (b / 2 ^ k))

pub bit_and_lem : (k a b : ℕ) → bit k (bit_and a b) ≡ (bit k a && bit k b)
unfolding bit
bit_and_lem k a b =
    ap (λ (x : ℕ). eqb (x % 2) 1) (and_shr a b k) ∙ ap (λ (x : ℕ). eqb x 1) (and_mod (a / 2 ^ k) (b / 2 ^ k) 1)
    ∙ and_digits (a / 2 ^ k % 2) (b / 2 ^ k % 2) (digit (a / 2 ^ k)) (digit (b / 2 ^ k))

or_digits : (x y : ℕ) → x < 2 → y < 2 → eqb (bit_or x y) 1 ≡ (eqb x 1 || eqb y 1)
or_digits = two_digits (λ x y. eqb (bit_or x y) 1 ≡ (eqb x 1 || eqb y 1)) refl refl refl refl

pub bit_or_lem : (k a b : ℕ) → bit k (bit_or a b) ≡ (bit k a || bit k b)
unfolding bit
bit_or_lem k a b =
    ap (λ (x : ℕ). eqb (x % 2) 1) (or_shr a b k) ∙ ap (λ (x : ℕ). eqb x 1) (or_mod (a / 2 ^ k) (b / 2 ^ k) 1)
    ∙ or_digits (a / 2 ^ k % 2) (b / 2 ^ k % 2) (digit (a / 2 ^ k)) (digit (b / 2 ^ k))

-- ---- the empty set, and the sets of one member

pub bit_zero : (k : ℕ) → bit k 0 ≡ false
bit_zero zero = bit_first 0
bit_zero (suc k) = bit_next k 0 ∙ bit_zero k

-- a set of bits below k with no member
pub no_bits : (k m : ℕ) → m < 2 ^ k → ((q : ℕ) → q < k → bit q m ≡ false) → m ≡ 0
no_bits k m l h = same_bits k m 0 l (pow_pos k) (λ q lq. h q lq ∙ sym (bit_zero q))

pub bit_power : (k q : ℕ) → bit k (2 ^ q) ≡ eqb k q
bit_power zero zero = bit_first 1
bit_power zero (suc q) =
    bit_first (2 ^ suc q) ∙ ap (λ (x : ℕ). eqb x 1) (ap (λ (x : ℕ). x % 2) (pow-suc 2 q) ∙ mul-mod_left (2 ^ q) 2) ∙ sym (ne_eqb 0 (suc q) (λ e. omega arith))
bit_power (suc k) zero = bit_next k 1 ∙ bit_zero k ∙ sym (ne_eqb (suc k) 0 (λ e. omega arith))
bit_power (suc k) (suc q) =
    bit_next k (2 ^ suc q) ∙ ap (bit k) (ap (λ (x : ℕ). x / 2) (pow-suc 2 q) ∙ mul-div_cancel (2 ^ q) (zero-lt-suc 1)) ∙ bit_power k q ∙ sym (eqb-suc-suc k q)

-- the set of all below n
pub bit_ones : (k n : ℕ) → bit k (2 ^ n - 1) ≡ ltb k n
bit_ones k zero = bit_zero k ∙ sym (le-ltb k 0 (omega arith))
bit_ones zero (suc n) =
    let some = pow_pos n in
    bit_first (2 ^ suc n - 1) ∙ eq-eqb ((2 ^ suc n - 1) % 2) 1 (omega arith) ∙ sym (lt-ltb 0 (suc n) (omega arith))
bit_ones (suc k) (suc n) =
    let some = pow_pos n in
    bit_next k (2 ^ suc n - 1) ∙ ap (bit k) (let half : (2 ^ suc n - 1) / 2 ≡ 2 ^ n - 1 = omega arith in half) ∙ bit_ones k n ∙ sym (leb-suc-suc (suc k) n)

-- ---- the code's count of trailing zeros is the lowest set bit

under_is : (k m d t : ℕ) → m % 2 ≡ d → d < 2 → IsLowest k (λ q. bit q (m / 2)) t → IsLowest (suc k) (λ q. bit q m) (under d t)
under_is k m zero t e l h = lowest_above k (λ q. bit q m) t (bit_first m ∙ ap (λ (x : ℕ). eqb x 1) e) (lowest_alike k (λ q. bit q (m / 2)) (λ q. bit (suc q) m) t (λ q lq. sym (bit_next q m)) h)
under_is k m (suc zero) t e l h = lowest_here k (λ q. bit q m) (bit_first m ∙ ap (λ (x : ℕ). eqb x 1) e)
under_is k m (suc (suc d)) t e l h = absurd (omega arith)

pub trailing_lowest : (k m : ℕ) → IsLowest k (λ q. bit q m) (count_trailing_zeros k m)
unfolding count_trailing_zeros
trailing_lowest zero m = record { most = omega arith; passes = λ l. absurd (omega arith); before = λ q l. absurd (omega arith) }
trailing_lowest (suc k) m = under_is k m (m % 2) (count_trailing_zeros k (m / 2)) refl (digit m) (trailing_lowest k (m / 2))

-- a set that is not empty has a lowest member
pub some_bit : (k m : ℕ) → m < 2 ^ k → m ≢ 0 → count_trailing_zeros k m < k
some_bit k m l h =
    let found = trailing_lowest k m in
    by_equal (count_trailing_zeros k m) k (λ e. absurd (h (no_bits k m l (λ q lq. found.before q (omega arith))))) (λ e. let most = found.most in omega arith)
