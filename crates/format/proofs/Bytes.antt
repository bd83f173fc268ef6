-- Bytes that begin with a field: its tag, its content and what follows are determined. Numbers in two bytes each.
use mathlib.Core.Path.{◌≡◌, refl, ap, ◌∙◌}
use mathlib.Core.List.{List, [], ◌∷◌, ◌++◌, head-eq_of_cons-eq, tail-eq_of_cons-eq}
use Prim.Native.Nat.{ℕ, suc, ◌+◌, ◌*◌, ◌/◌, ◌%◌, ◌<◌}
use native.Mathlib.Omega.{arith}
use lib.ListN.{length, get_or}
use Rattle.format.specs.Format.{two_bytes_of, field, numbers}

-- two lists that begin with parts of one length have the same part and the same rest
same_parts : (a b x y : List ℕ) → length a ≡ length b → a ++ x ≡ b ++ y → (a ≡ b) × (x ≡ y)
same_parts [] [] x y l e = (refl, e)
same_parts [] (m ∷ b) x y l e = absurd (omega arith)
same_parts (n ∷ a) [] x y l e = absurd (omega arith)
same_parts (n ∷ a) (m ∷ b) x y l e =
    let rest = same_parts a b x y (omega arith) (tail-eq_of_cons-eq e) in
    ((λ i. head-eq_of_cons-eq e i ∷ rest.0 i), rest.1)

-- a number is determined by its two bytes
same_number : (m n : ℕ) → m / 256 ≡ n / 256 → m % 256 ≡ n % 256 → m ≡ n
same_number m n high low = omega arith

pub same_two : (m n : ℕ) → two_bytes_of m ≡ two_bytes_of n → m ≡ n
unfolding two_bytes_of
same_two m n e = same_number m n (head-eq_of_cons-eq e) (head-eq_of_cons-eq (tail-eq_of_cons-eq e))

pub length_two : (n : ℕ) → length (two_bytes_of n) ≡ 2
unfolding two_bytes_of
length_two n = refl

-- the number of two bytes has these bytes
pub two_bytes : (high low : ℕ) → low < 256 → two_bytes_of (high * 256 + low) ≡ high ∷ low ∷ []
unfolding two_bytes_of
two_bytes high low l =
    let h : (high * 256 + low) / 256 ≡ high = omega arith in
    let k : (high * 256 + low) % 256 ≡ low = omega arith in
    λ i. h i ∷ k i ∷ []

pub number_there : (b : List ℕ) → length b ≡ 2 → get_or b 1 0 < 256 → (n : ℕ) → n ≡ get_or b 0 0 * 256 + get_or b 1 0 → two_bytes_of n ≡ b
number_there [] l small n e = absurd (omega arith)
number_there (high ∷ []) l small n e = absurd (omega arith)
number_there (high ∷ low ∷ []) l small n e = ap two_bytes_of e ∙ two_bytes high low small
number_there (high ∷ low ∷ b ∷ more) l small n e = absurd (omega arith)

-- bytes that begin with a field: its tag, its content and what follows
pub same_field : (t u : ℕ) (a b x y : List ℕ) → field t a ++ x ≡ field u b ++ y → (t ≡ u) × (a ≡ b) × (x ≡ y)
unfolding field two_bytes_of
same_field t u a b x y e =
    let one = tail-eq_of_cons-eq e in
    let two = tail-eq_of_cons-eq one in
    let parts = same_parts a b x y (same_number (length a) (length b) (head-eq_of_cons-eq one) (head-eq_of_cons-eq two)) (tail-eq_of_cons-eq two) in
    (head-eq_of_cons-eq e, parts.0, parts.1)

-- a field has three bytes besides its content
pub length_field : (t : ℕ) (a : List ℕ) → length (field t a) ≡ 3 + length a
unfolding field two_bytes_of
length_field t a = omega arith

-- numbers are determined by their bytes
pub same_numbers : (k l : List ℕ) → numbers k ≡ numbers l → k ≡ l
unfolding numbers two_bytes_of
same_numbers [] [] e = refl
same_numbers [] (n ∷ l) e = let z : ◌≡◌ {A = ℕ} 0 1 = cc in absurd (omega arith)
same_numbers (m ∷ k) [] e = let z : ◌≡◌ {A = ℕ} 0 1 = cc in absurd (omega arith)
same_numbers (m ∷ k) (n ∷ l) e =
    let one = tail-eq_of_cons-eq e in
    let here = same_number m n (head-eq_of_cons-eq e) (head-eq_of_cons-eq one) in
    let rest = same_numbers k l (tail-eq_of_cons-eq one) in
    λ i. here i ∷ rest i

-- two bytes for each number
pub length_numbers : (l : List ℕ) → length (numbers l) ≡ 2 * length l
unfolding numbers two_bytes_of
length_numbers [] = refl
length_numbers (n ∷ l) = omega (arith, length_numbers l)

-- an even number of bytes are the bytes of numbers
pub even_numbers : (b : List ℕ) → length b % 2 ≡ 0 → ((i : ℕ) → get_or b i 0 < 256) → (l : List ℕ) × (numbers l ≡ b)
unfolding numbers
even_numbers [] even small = ([], refl)
even_numbers (n ∷ []) even small = absurd (omega arith)
even_numbers (high ∷ low ∷ b) even small =
    let rest = even_numbers b (omega arith) (λ i. small (suc (suc i))) in
    ((high * 256 + low) ∷ rest.0, λ i. two_bytes high low (small 1) i ++ rest.1 i)
