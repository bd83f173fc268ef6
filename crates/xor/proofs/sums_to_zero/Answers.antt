-- `xor::sums_to_zero` meets its contract. The loop's invariant: the XOR of the runs is zero in the blocks that were given.
use mathlib.Core.Path.{◌≡◌, sym, ◌∙◌}
use mathlib.Core.Bool.{Bool}
use mathlib.Core.List.{List}
use Prim.Native.Nat.{ℕ, ◌+◌, ◌<◌}
use native.Mathlib.Omega.{arith}
use lib.ListN.{get_or}
use Rattle.xor.specs.Runs.{sum_at, Says}
use Rattle.xor.proofs.Runs.{zero_more, zero_on, zero_not, says_zero}
use Rattle.xor.proofs.sums_to_zero.Goals as goal

-- what is said of a block that was summed, `next` bytes on
block_says : (sum : ℕ → ℕ) (block : List ℕ) (at next : ℕ) (r : Bool) → ((t : ℕ) → t < 128 → get_or block t 0 ≡ sum (at + next + t))
    → Says ((t : ℕ) → t < 128 → get_or block t 0 ≡ 0) r → Says ((t : ℕ) → t < 128 → sum (at + (next + t)) ≡ 0) r
block_says sum block at next r same h = zero_on sum at next 128 r (says_zero 128 (λ t. get_or block t 0) (λ t. sum (at + next + t)) r same h)

pub returns-then-not-all_zero : goal.returns-then-not-all_zero
returns-then-not-all_zero c =
    let a = c.args in
    let sum = sum_at a.s.now a.places.now in
    let step = c.in-Some.ensures.steps in
    let inv = c.loop-next.invariant in
    zero_not (λ t. sum (a.at + t)) a.n _ 128 _ (omega (arith, step.0, step.1, inv.0, inv.1)) (block_says sum _ a.at _ _ c.sum_runs-sum.ensures c.all_zero-in-loop-next.ensures) c.if-not-all_zero.true

pub loop-next-preserved : goal.loop-next-preserved
loop-next-preserved c =
    let a = c.args in
    let sum = sum_at a.s.now a.places.now in
    let step = c.in-Some.ensures.steps in
    let inv = c.loop-next.invariant in
    (step.2 ∙ inv.0, (omega (arith, step.0, step.1, inv.0, inv.1)), zero_more (λ t. sum (a.at + t)) _ 128 _ _ (omega (arith, step.0, step.1, inv.0, inv.1)) (sym step.1) inv.2 ((block_says sum _ a.at _ _ c.sum_runs-sum.ensures c.all_zero-in-loop-next.ensures).yes c.if-not-all_zero.false))
