-- Laws of the lowest number that passes a test.
use mathlib.Core.Path.{◌≡◌, sym, ap, ◌∙◌}
use mathlib.Core.Bool.{Bool, true, false}
use Prim.Native.Nat.{ℕ, zero, suc, ◌≤◌, ◌<◌}
use native.Mathlib.Omega.{arith}
use lib.Dec.{eqb}
use borrow.Author.Tests.{eq-eqb, ne_eqb}
use Rattle.xor.proofs.Cases.{by_test, by_less, clash}
use Rattle.bits.specs.Bit.{lowest, IsLowest}

-- one number more, below all the others: it passes, or the lowest of the others is one higher
pub lowest_here : (n : ℕ) (test : ℕ → Bool) → test 0 ≡ true → IsLowest (suc n) test 0
lowest_here n test p = record { most = omega arith; passes = λ l. p; before = λ k l. absurd (omega arith) }

pub lowest_above : (n : ℕ) (test : ℕ → Bool) (r : ℕ) → test 0 ≡ false → IsLowest n (λ k. test (suc k)) r → IsLowest (suc n) test (suc r)
lowest_above n test r p h = record { most = let m = h.most in omega arith; passes = λ l. h.passes (omega arith); before = below }
  where
    below : (k : ℕ) → k < suc r → test k ≡ false
    below zero l = p
    below (suc k) l = h.before k (omega arith)

pub lowest_is : (n : ℕ) (test : ℕ → Bool) → IsLowest n test (lowest n test)
unfolding lowest
lowest_is zero test = record { most = omega arith; passes = λ l. absurd (omega arith); before = λ k l. absurd (omega arith) }
lowest_is (suc n) test =
    by_test (test 0) (λ p. rw p (lowest_here n test p)) (λ p. rw p (lowest_above n test (lowest n (λ k. test (suc k))) p (lowest_is n (λ k. test (suc k)))))

-- there is only one
pub lowest_one : (n : ℕ) (test : ℕ → Bool) (r r' : ℕ) → IsLowest n test r → IsLowest n test r' → r ≡ r'
lowest_one n test r r' h h' = meet (order r r' h h') (order r' r h' h)
  where
    order : (a b : ℕ) → IsLowest n test a → IsLowest n test b → a < b → ⊥
    order a b ha hb l = clash (ha.passes (let m = hb.most in omega arith)) (hb.before a l)

    meet : (r < r' → ⊥) → (r' < r → ⊥) → r ≡ r'
    meet p q = omega arith

-- where none below k passes, k is the lowest exactly if it passes
pub lowest_at : (n : ℕ) (test : ℕ → Bool) (k : ℕ) → k < n → ((j : ℕ) → j < k → test j ≡ false) → eqb (lowest n test) k ≡ test k
lowest_at n test k l none =
    let found = lowest_is n test in
    by_test (test k)
    (λ p. eq-eqb (lowest n test) k (lowest_one n test (lowest n test) k found (record { most = omega arith; passes = λ _. p; before = none })) ∙ sym p)
    (λ p. ne_eqb (lowest n test) k (λ e. clash (ap test (sym e) ∙ found.passes (omega arith)) p) ∙ sym p)

-- it depends on the tests below n alone
pub lowest_alike : (n : ℕ) (test test' : ℕ → Bool) (r : ℕ) → ((k : ℕ) → k < n → test k ≡ test' k) → IsLowest n test r → IsLowest n test' r
lowest_alike n test test' r h found = record {
  most = found.most;
  passes = λ l. sym (h r l) ∙ found.passes l;
  before = λ k l. sym (h k (let m = found.most in omega arith)) ∙ found.before k l;
}

-- no number from n' on passes, so they need not be looked at
pub lowest_within : (n n' : ℕ) (test : ℕ → Bool) (r : ℕ) → n' ≤ n → ((k : ℕ) → n' ≤ k → k < n → test k ≡ false) → r < n → IsLowest n test r → (r < n') × IsLowest n' test r
lowest_within n n' test r l none lr found =
    let below : r < n' = by_less r n' (λ k. k) (λ k. clash (found.passes lr) (none r k lr)) in
    (below, record { most = omega arith; passes = λ k. found.passes lr; before = found.before })

-- none passes
pub lowest_none : (n : ℕ) (test : ℕ → Bool) → n ≤ lowest n test → (k : ℕ) → k < n → test k ≡ false
lowest_none n test e k l = (lowest_is n test).before k (omega arith)

pub none_lowest : (n : ℕ) (test : ℕ → Bool) → ((k : ℕ) → k < n → test k ≡ false) → n ≤ lowest n test
none_lowest n test h =
    let found = lowest_is n test in
    by_less (lowest n test) n (λ l. clash (found.passes l) (h (lowest n test) l)) (λ l. l)
