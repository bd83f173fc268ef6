-- Laws of residues: sums and differences mod p.
use mathlib.Core.Path.{◌≡◌, sym, ap, ◌∙◌}
use Prim.Native.Nat.{ℕ, ◌+◌, ◌-◌, ◌*◌, ◌%◌, ◌≤◌, ◌<◌}
use native.Mathlib.Nat.{mod-lt, mod-eq_of_lt, mod-eq-sub-mod, mod-add-mod, add-mod-mod, add-mod_right, mul-add-mod_self_right, mul_comm, add-mul, one-mul}
use native.Mathlib.Omega.{arith}

-- a sum that goes past p once
pub wrapped : (p n : ℕ) → p ≤ n → n < p + p → n - p ≡ n % p
wrapped p n lo hi = sym (mod-eq_of_lt {n = n - p} {m = p} (omega arith)) ∙ sym (mod-eq-sub-mod lo)

-- what is taken mod p, moved on by x and then back by p - x, is as it was
pub there_and_back : (p n x y : ℕ) → n < p → x + y ≡ p → ((n + x) % p + y) % p ≡ n
there_and_back p n x y l e =
    mod-add-mod (n + x) p y ∙ ap (λ (z : ℕ). z % p) whole ∙ add-mod_right n p ∙ mod-eq_of_lt l
  where
    whole : n + x + y ≡ n + p
    whole = omega arith

-- a residue with its rest to p
pub rest : (p a : ℕ) → 0 < p → a % p + (p - a % p) ≡ p
rest p a l = omega (arith, mod-lt a l)

-- residues that a shift makes equal are equal
pub shift_once : (p i r a : ℕ) → i < p → r < p → (i + a) % p ≡ (r + a) % p → i ≡ r
shift_once p i r a li lr e = sym (back i li) ∙ ap (λ (n : ℕ). (n + (p - a % p)) % p) e ∙ back r lr
  where
    back : (n : ℕ) → n < p → ((n + a) % p + (p - a % p)) % p ≡ n
    back n l = ap (λ (k : ℕ). (k + (p - a % p)) % p) (sym (add-mod-mod n a p)) ∙ there_and_back p n (a % p) (p - a % p) l (rest p a (omega arith))

-- k steps of p - 1 columns are k columns back
pub steps_back : (p k : ℕ) → 0 < p → k + (p - 1) * k ≡ k * p
steps_back p k l =
    ap (λ (x : ℕ). x + (p - 1) * k) (sym (one-mul k)) ∙ sym (add-mul 1 (p - 1) k) ∙ ap (λ (x : ℕ). x * k) whole ∙ mul_comm p k
  where
    whole : 1 + (p - 1) ≡ p
    whole = omega arith

-- whole turns change nothing
pub turns : (p k n : ℕ) → (k * p + n) % p ≡ n % p
turns p k n = mul-add-mod_self_right k p n
