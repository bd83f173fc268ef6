-- The path lemma: steps of d lead through all residues mod p. What each step carries along, both ways, except the step out of one residue,
-- holds at every residue as soon as it holds at one.
use mathlib.Core.Path.{◌≡◌, refl, sym, ap, ◌∙◌, subst}
use mathlib.Core.Logic.{◌≢◌}
use mathlib.Core.Bool.{Bool, true, false, not, ◌&&◌}
use Prim.Native.Nat.{ℕ, zero, suc, ◌+◌, ◌-◌, ◌*◌, ◌/◌, ◌%◌, ◌^◌, ◌<◌}
use native.Mathlib.Nat.{mod-lt, mod-eq_of_lt, mod-add-mod, add-mod-mod, add-mod_right, div-add-mod', mul_assoc, mul_comm, mul_right_comm, add-mul, one-mul, zero-mul, suc-mul}
use native.Mathlib.Omega.{arith}
use lib.Dec.{eqb, ltb}
use borrow.Author.Tests.{lt-ltb, eqb-true}
use Rattle.xor.specs.Sets.{any}
use Rattle.xor.proofs.Cases.{by_test, by_equal, clash}
use Rattle.xor.proofs.Sets.{any_none}
use Rattle.codes.specs.Shape.{listed}
use Rattle.codes.proofs.Shapes.{each_prime}
use Rattle.codes.proofs.Residues.{there_and_back, turns, rest}
pub use Rattle.codes.proofs.Residues.{shift_once}

-- ---- residues

-- a shift by a leads to every residue
pub shift_from : (p a r : ℕ) → r < p → (i : ℕ) × (i < p) × ((i + a) % p ≡ r)
shift_from p a r l = (
  (r + (p - a % p)) % p,
  mod-lt (r + (p - a % p)) (omega arith),
  sym (add-mod-mod ((r + (p - a % p)) % p) a p) ∙ there_and_back p r (p - a % p) (a % p) l (omega (arith, rest p a (omega arith))),
)

-- a shift that leads from n to a leads from n + (b - a) to b
pub shift_on : (p n x a b : ℕ) → a < b → b < p → (n + x) % p ≡ a → ((n + (b - a)) % p + x) % p ≡ b
shift_on p n x a b ab lb e =
    mod-add-mod (n + (b - a)) p x ∙ ap (λ (k : ℕ). k % p) swap ∙ sym (mod-add-mod (n + x) p (b - a)) ∙ ap (λ (k : ℕ). (k + (b - a)) % p) e ∙ ap (λ (k : ℕ). k % p) whole ∙ mod-eq_of_lt lb
  where
    swap : n + (b - a) + x ≡ n + x + (b - a)
    swap = omega arith

    whole : a + (b - a) ≡ b
    whole = omega arith

-- a factor may be taken mod p
factor : (p x y : ℕ) → (x % p * y) % p ≡ (x * y) % p
factor p x y = sym (turns p (x / p * y) (x % p * y)) ∙ ap (λ (n : ℕ). n % p) whole
  where
    whole : x / p * y * p + x % p * y ≡ x * y
    whole = ap (λ (n : ℕ). n + x % p * y) (mul_right_comm (x / p) y p) ∙ sym (add-mul (x / p * p) (x % p) y) ∙ ap (λ (n : ℕ). n * y) (div-add-mod' x p)

-- ---- inverses: Fermat's d ^ (p - 2), computed for the ten primes

not_inverse : ℕ → ℕ → Bool
not_inverse p d = ltb 0 d && not (eqb ((d ^ (p - 2) * d) % p) 1)

all_inverses : (p : ℕ) → listed p ≡ true → any p (not_inverse p) ≡ false
unfolding not_inverse any
all_inverses = each_prime (λ p. any p (not_inverse p) ≡ false) refl refl refl refl refl refl refl refl refl refl

inverse : (p d : ℕ) → listed p ≡ true → 0 < d → d < p → (d ^ (p - 2) * d) % p ≡ 1
unfolding not_inverse
inverse p d h lo hi =
    by_test (eqb ((d ^ (p - 2) * d) % p) 1) (eqb-true ((d ^ (p - 2) * d) % p) 1)
    (λ no. clash (rw (lt-ltb 0 d lo, no) refl) (any_none p (not_inverse p) (all_inverses p h) d hi))

-- (x - r) * e steps of d lead from r to x, where e is the inverse of d
steps : (p d e r x : ℕ) → (e * d) % p ≡ 1 → r < p → x < p → (r + (x + (p - r)) * e * d) % p ≡ x
steps p d e r x inv lr lx =
    sym (add-mod-mod r (n * e * d) p) ∙ ap (λ (k : ℕ). (r + k) % p) undone ∙ add-mod-mod r n p ∙ ap (λ (k : ℕ). k % p) whole ∙ add-mod_right x p ∙ mod-eq_of_lt lx
  where
    n : ℕ
    n = x + (p - r)

    undone : (n * e * d) % p ≡ n % p
    undone = ap (λ (k : ℕ). k % p) (mul_assoc n e d ∙ mul_comm n (e * d)) ∙ sym (factor p (e * d) n) ∙ ap (λ (k : ℕ). (k * n) % p) inv ∙ ap (λ (k : ℕ). k % p) (one-mul n)

    whole : r + n ≡ x + p
    whole = omega arith

-- ---- the path lemma

-- P is a property of residues, and x the residue out of which a step need not carry it
module _ (p d x : ℕ) (P : ℕ → Type 0) where
  -- m + 1 steps lead from r to x: so do m steps from the residue after r
  next : (m r : ℕ) → (r + suc m * d) % p ≡ x → ((r + d) % p + m * d) % p ≡ x
  next m r e = mod-add-mod (r + d) p (m * d) ∙ ap (λ (n : ℕ). n % p) same ∙ e
    where
      same : r + d + m * d ≡ r + suc m * d
      same = omega (arith, suc-mul m d)

  last : (r : ℕ) → r < p → (r + zero * d) % p ≡ x → r ≡ x
  last r l e = sym (mod-eq_of_lt l) ∙ ap (λ (n : ℕ). n % p) none ∙ e
    where
      none : r ≡ r + zero * d
      none = omega (arith, zero-mul d)

  -- m steps lead from r to x: P is carried along them, as far as where they first meet x
  on_to_x : ((r : ℕ) → r < p → r ≢ x → P r → P ((r + d) % p)) → (m r : ℕ) → r < p → (r + m * d) % p ≡ x → P r → P x
  on_to_x on zero r l e h = subst P (last r l e) h
  on_to_x on (suc m) r l e h = by_equal r x (λ q. subst P q h) (λ n. on_to_x on m ((r + d) % p) (mod-lt (r + d) (omega arith)) (next m r e) (on r l n h))

  -- and the same way back
  back_from_x : ((r : ℕ) → r < p → r ≢ x → P ((r + d) % p) → P r) → (m r : ℕ) → r < p → (r + m * d) % p ≡ x → P x → P r
  back_from_x back zero r l e h = subst P (sym (last r l e)) h
  back_from_x back (suc m) r l e h =
      by_equal r x (λ q. subst P (sym q) h) (λ n. back r l n (back_from_x back m ((r + d) % p) (mod-lt (r + d) (omega arith)) (next m r e) h))

  -- from z on to x, and from x back to r
  pub along_path : listed p ≡ true → 0 < d → d < p → x < p
      → ((r : ℕ) → r < p → r ≢ x → P r → P ((r + d) % p))
      → ((r : ℕ) → r < p → r ≢ x → P ((r + d) % p) → P r)
      → (z : ℕ) → z < p → P z → (r : ℕ) → r < p → P r
  along_path hp lo hi lx on back z lz h r lr =
      back_from_x back ((x + (p - r)) * e) r lr (steps p d e r x (inverse p d hp lo hi) lr lx)
      (on_to_x on ((x + (p - z)) * e) z lz (steps p d e z x (inverse p d hp lo hi) lz lx) h)
    where
      e : ℕ
      e = d ^ (p - 2)
