-- How many additions the method makes: for each lost cell at most one less than there are equations.
use mathlib.Core.Path.{refl}
use mathlib.Core.Bool.{Bool, cond}
use Prim.Native.Nat.{ℕ, zero, suc, ◌+◌, ◌-◌, ◌*◌, ◌≤◌}
use native.Mathlib.Omega.{arith}
use lib.Dec.{ltb}
use borrow.Author.Tests.{eq-eqb, ltb-true}
use Rattle.xor.specs.Sets.{count}
use Rattle.xor.proofs.Cases.{by_test}
use Rattle.xor.proofs.Sets.{count_fails}
use Rattle.elimination.specs.Method.{State, free, joins, Outcome, passed, stopped, turn, next, run, state_of}
use Rattle.bits.specs.Bit.{lowest}

turn_additions : (E : ℕ) (s : State) (c : ℕ) → (state_of (turn E s c)).additions ≤ s.additions + (E - 1)
turn_additions E s c =
    let q = lowest E (free s c) in
    by_test (ltb q E)
    (λ t. rw t (let few = count_fails E (joins s c q) q (ltb-true q E t) (rw (eq-eqb q q refl) refl) in omega arith)) (λ t. rw t (omega arith))

next_additions : (E : ℕ) (lost : ℕ → Bool) (o : Outcome) (c : ℕ) → (state_of (next E lost o c)).additions ≤ (state_of o).additions + cond (lost c) 1 0 * (E - 1)
next_additions E lost (passed s) c = by_test (lost c) (λ e. rw e (let few = turn_additions E s c in omega arith)) (λ e. rw e (omega arith))
next_additions E lost (stopped d s) c = omega arith

-- u lost cells and E equations: at most u (E - 1), wherever the method stops
pub additions_most : (E : ℕ) (equation : ℕ → ℕ → Bool) (lost : ℕ → Bool) (n : ℕ) → (state_of (run E equation lost n)).additions ≤ count n lost * (E - 1)
unfolding run count
additions_most E equation lost zero = omega arith
additions_most E equation lost (suc n) =
    let before = additions_most E equation lost n in
    let step = next_additions E lost (run E equation lost n) n in
    omega arith
