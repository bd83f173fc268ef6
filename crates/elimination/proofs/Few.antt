-- Each lost cell takes an equation of its own: where the method passes there are no more lost cells than equations.
use mathlib.Core.Path.{◌≡◌, refl, subst}
use mathlib.Core.Bool.{Bool, false, not, cond}
use Prim.Native.Nat.{ℕ, zero, suc, ◌+◌, ◌≤◌}
use native.Mathlib.Omega.{arith}
use lib.Dec.{ltb}
use borrow.Author.Tests.{ltb-true, not-true}
use Rattle.xor.specs.Sets.{count}
use Rattle.xor.proofs.Cases.{by_test, and_left}
use Rattle.xor.proofs.Sets.{count_insert, count_most, count_never}
use Rattle.elimination.specs.Method.{State, free, Outcome, passed, stopped, turn, next, run}
use Rattle.bits.specs.Bit.{lowest}
use Rattle.bits.proofs.Lowest.{lowest_is}

module _ (E : ℕ) (equation : ℕ → ℕ → Bool) (lost : ℕ → Bool) where
  -- where the method passed, n equations are used
  abbrev UsedBy : ℕ → Outcome → Type 0
  UsedBy n (passed s) = count E s.used ≡ n
  UsedBy n (stopped d s) = n ≡ n

  turn_uses : (n c : ℕ) (s : State) → count E s.used ≡ n → UsedBy (n + 1) (turn E s c)
  turn_uses n c s h =
      let q = lowest E (free s c) in
      by_test (ltb q E)
      (λ t. rw t (let l = ltb-true q E t in
      let fresh = not-true (s.used q) (and_left (not (s.used q)) (s.row q c) ((lowest_is E (free s c)).passes l)) in
      omega (arith, count_insert E s.used q l fresh)))
      (λ t. rw t refl)

  next_uses : (n c : ℕ) (o : Outcome) → UsedBy n o → UsedBy (n + cond (lost c) 1 0) (next E lost o c)
  next_uses n c (passed s) h = by_test (lost c) (λ e. rw e (turn_uses n c s h)) (λ e. rw e (omega (arith, h)))
  next_uses n c (stopped d s) h = refl

  run_uses : (c : ℕ) → UsedBy (count c lost) (run E equation lost c)
  unfolding run count
  run_uses zero = count_never E (λ q. false) (λ q l. refl)
  run_uses (suc c) = next_uses (count c lost) c (run E equation lost c) (run_uses c)

  pub passed_few : (n : ℕ) (s : State) → run E equation lost n ≡ passed s → count n lost ≤ E
  passed_few n s e = let used : count E s.used ≡ count n lost = subst (UsedBy (count n lost)) e (run_uses n) in omega (arith, used, count_most E s.used)
