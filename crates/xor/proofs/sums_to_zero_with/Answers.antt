-- `xor::sums_to_zero_with` meets its contract. The loop's invariant: the XOR of the runs and of the other bytes is zero in the blocks that were given.
use mathlib.Core.Path.{◌≡◌, ap, ◌∙◌, sym}
use mathlib.Core.Bool.{Bool}
use mathlib.Core.List.{List}
use Prim.Native.Nat.{ℕ, ◌+◌, ◌<◌}
use native.Mathlib.Nat.{add_assoc}
use native.Mathlib.Omega.{arith}
use lib.ListN.{get_or}
use Rattle.xor.specs.Xor.{◌⊕◌}
use Rattle.xor.specs.Runs.{sum_at, Added, Says}
use Rattle.xor.proofs.Runs.{zero_more, says_zero}
use Rattle.xor.proofs.sums_to_zero_with.Goals as goal

-- what is said of n bytes that were summed, `next` bytes on, and then had others XORed in
both_say : (sum more : ℕ → ℕ) (own both : List ℕ) (at next n : ℕ) (r : Bool) → ((t : ℕ) → t < n → get_or own t 0 ≡ sum (at + next + t)) → Added own n (λ t. more (next + t)) both
    → Says ((t : ℕ) → t < n → get_or both t 0 ≡ 0) r → Says ((t : ℕ) → t < n → sum (at + (next + t)) ⊕ more (next + t) ≡ 0) r
both_say sum more own both at next n r same added =
    says_zero n (λ t. get_or both t 0) (λ t. sum (at + (next + t)) ⊕ more (next + t)) r
    (λ t l. added.inner t l ∙ ap (λ (x : ℕ). x ⊕ more (next + t)) (same t l ∙ ap sum (add_assoc at next t)))

pub loop-next-preserved : goal.loop-next-preserved
loop-next-preserved c =
    let a = c.args in
    let sum = sum_at a.s.now a.places.now in
    let more : ℕ → ℕ = λ (t : ℕ). get_or a.other.now t 0 in
    let step = c.in-Some.ensures.steps in
    let inv = c.loop-next.invariant in (
      step.2 ∙ inv.0,
      (omega (arith, step.0, step.1, inv.0, inv.1)),
      zero_more (λ t. sum (a.at + t) ⊕ more t) _ 128 _ _ (omega (arith, step.0, step.1, inv.0, inv.1)) (sym step.1) inv.2
          ((both_say sum more _ _ a.at _ 128 _ c.sum_runs-own-in-loop-next.ensures c.add_bytes-both.ensures c.all_zero-in-loop-next.ensures).yes c.if-not-all_zero.false),
    )
