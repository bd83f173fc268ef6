-- The primes for which balanced plans are offered.
use mathlib.Core.Path.{◌≡◌, refl, sym, ap, ◌∙◌, subst}
use mathlib.Core.Logic.{◌≢◌, ◌⊎◌, inl, inr, ⊎_elim}
use mathlib.Core.Bool.{true, false}
use Prim.Native.Nat.{ℕ, ◌+◌, ◌≤◌, ◌<◌}
use native.Mathlib.Omega.{arith}
use lib.Dec.{eqb}
use borrow.Author.Tests.{eqb-true, ne_eqb}
use Rattle.xor.proofs.Cases.{either, not_passed}
use Rattle.balance.specs.Balance.{offered}
use Rattle.balance.specs.Table.{plans_before}

-- what holds of each of the six primes holds of one for which plans are offered
pub each_offered : (P : ℕ → Type 0) → P 3 → P 7 → P 11 → P 19 → P 23 → P 31 → (p : ℕ) → offered p ≡ true → P p
unfolding offered
each_offered P x3 x7 x11 x19 x23 x31 p h =
    either _ (eqb p 31) h
    (λ h. either _ (eqb p 23) h
    (λ h. either _ (eqb p 19) h
    (λ h. either _ (eqb p 11) h
    (λ h. either (eqb p 3) (eqb p 7) h (at 3 x3) (at 7 x7)) (at 11 x11)) (at 19 x19)) (at 23 x23)) (at 31 x31)
  where
    at : (n : ℕ) → P n → eqb p n ≡ true → P p
    at n x e = subst P (sym (eqb-true p n e)) x

-- one of the six, as the code's `match` tells them
abbrev OneOfSix : ℕ → Type 0
OneOfSix p = (p ≡ 3) ⊎ ((p ≡ 7) ⊎ ((p ≡ 11) ⊎ ((p ≡ 19) ⊎ ((p ≡ 23) ⊎ (p ≡ 31)))))

pub one_of : (p : ℕ) → OneOfSix p → offered p ≡ true
unfolding offered
one_of p h = ⊎_elim (at 3 refl) (λ h. ⊎_elim (at 7 refl) (λ h. ⊎_elim (at 11 refl) (λ h. ⊎_elim (at 19 refl) (λ h. ⊎_elim (at 23 refl) (at 31 refl) h) h) h) h) h
  where
    at : (n : ℕ) → offered n ≡ true → p ≡ n → offered p ≡ true
    at n x e = subst (λ (m : ℕ). offered m ≡ true) (sym e) x

pub none_of : (p : ℕ) → (OneOfSix p → ⊥) → offered p ≡ false
none_of p none =
    not_passed (λ h. none (each_offered OneOfSix (inl refl) (inr (inl refl)) (inr (inr (inl refl))) (inr (inr (inr (inl refl)))) (inr (inr (inr (inr (inl refl)))))
    (inr (inr (inr (inr (inr refl))))) p h))

-- ---- where the plans of a prime start

pub starts_at_lem : {p n m : ℕ} → p ≡ n → plans_before n ≡ m → m ≡ plans_before p
starts_at_lem e starts = sym (ap plans_before e ∙ starts)

pub starts_last : {p : ℕ} → p ≢ 3 → p ≢ 7 → p ≢ 11 → p ≢ 19 → p ≢ 23 → 63 ≡ plans_before p
unfolding plans_before
starts_last {p} n3 n7 n11 n19 n23 = rw (ne_eqb p 3 n3, ne_eqb p 7 n7, ne_eqb p 11 n11, ne_eqb p 19 n19, ne_eqb p 23 n23) refl

-- those of each prime end inside the table
pub ends_inside : (p k : ℕ) → offered p ≡ true → k < p → plans_before p + k < 94
unfolding plans_before
ends_inside p k h = each_offered (λ p. k < p → plans_before p + k < 94) (λ l. omega arith) (λ l. omega arith) (λ l. omega arith) (λ l. omega arith) (λ l. omega arith) (λ l. omega arith) p h

-- ---- what is small

pub offered_bounds : (p : ℕ) → offered p ≡ true → (3 ≤ p) × (p ≤ 31)
offered_bounds =
    each_offered (λ p. (3 ≤ p) × (p ≤ 31)) (omega arith, omega arith) (omega arith, omega arith) (omega arith, omega arith) (omega arith, omega arith)
    (omega arith, omega arith) (omega arith, omega arith)
