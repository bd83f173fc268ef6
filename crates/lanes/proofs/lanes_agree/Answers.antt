-- `lanes::lanes_agree` meets its contract. The loop's invariant: the sets so far sum to zero.
use mathlib.Core.Path.{◌≡◌, refl, sym, ◌∙◌}
use mathlib.Core.Bool.{true, false}
use Prim.Native.Nat.{ℕ, ◌+◌, ◌<◌}
use lib.Bits.{bit_and}
use lib.ListN.{get_or, length}
use Rattle.lanes.specs.Lanes.{lane_sum}
use Rattle.lanes.proofs.Lanes.{lanes_inside, lanes_say, no_lanes, all_more, says_not, says_all}
use native.Mathlib.Omega.{arith}
use Rattle.lanes.proofs.lanes_agree.Goals as goal

pub loop-check-preserved-then-set-eq0 : goal.loop-check-preserved-then-set-eq0
loop-check-preserved-then-set-eq0 c =
    let a = c.args in
    let turn = c.loop-check in
    all_more (λ k. (i : ℕ) → i < a.n → lane_sum a.lanes.now (bit_and (get_or a.checks.now k 0) a.failing) i ≡ 0) turn.check-index turn.invariant (λ i l. no_lanes _ _ i c.if-set-eq0.true)

pub nonzero_at-requires : goal.nonzero_at-requires
nonzero_at-requires c = (lanes_inside c.args.lanes.now _ _ c.list_members-places.ensures (0 + c.args.n) _ (omega (arith, c.requires.1)) c.requires.0, omega (arith, c.requires.1))

pub returns-then-is_some : goal.returns-then-is_some
returns-then-is_some c =
    let a = c.args in
    let turn = c.loop-check in
    says_not (λ k. (i : ℕ) → i < a.n → lane_sum a.lanes.now (bit_and (get_or a.checks.now k 0) a.failing) i ≡ 0) (length a.checks.now) turn.check-index _ c.loop-check-test.true
    (lanes_say a.lanes.now _ _ c.list_members-places.ensures a.n _ false (sym c.is_some.ensures ∙ c.if-is_some.true) c.nonzero_at.ensures) refl

pub loop-check-preserved : goal.loop-check-preserved
loop-check-preserved c =
    let a = c.args in
    let turn = c.loop-check in
    all_more (λ k. (i : ℕ) → i < a.n → lane_sum a.lanes.now (bit_and (get_or a.checks.now k 0) a.failing) i ≡ 0) turn.check-index turn.invariant
    ((lanes_say a.lanes.now _ _ c.list_members-places.ensures a.n _ true (sym c.is_some.ensures ∙ c.if-is_some.false) c.nonzero_at.ensures).yes refl)

pub returns : goal.returns
returns c =
    let a = c.args in
    says_all (λ k. (i : ℕ) → i < a.n → lane_sum a.lanes.now (bit_and (get_or a.checks.now k 0) a.failing) i ≡ 0) (length a.checks.now) _ (omega arith) c.loop-check.invariant
