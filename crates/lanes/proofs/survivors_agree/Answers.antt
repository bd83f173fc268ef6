-- `lanes::survivors_agree` meets its contract. The loop's invariant: of n bytes from `at` on the first `done` pass.
use Rattle.lanes.proofs.Lanes.{passes_more, passes_not, passes_all}
use native.Mathlib.Omega.{arith}
use Rattle.lanes.proofs.survivors_agree.Goals as goal

pub loop-done-init : goal.loop-done-init
loop-done-init c = (λ i l ln. absurd (omega arith), c.requires.1)

pub invariant_of-part : goal.invariant_of-part
invariant_of-part c = let w = c.args.window.now.inside in record { inside = record { formed = w.formed; long = w.long; ends = omega (arith, w.ends) } }

pub lane_agrees-requires : goal.lane_agrees-requires
lane_agrees-requires c = (record { few = omega arith; space = c.loop-done.invariant.1 }, c.requires.0, c.union-set.ensures)

pub returns-then-not-lane_agrees : goal.returns-then-not-lane_agrees
returns-then-not-lane_agrees c =
    let a = c.args in
    let turn = c.loop-done in
    (passes_not a.window.now.shape a.window.now.stripe.now _ a.checks.now a.window.now.at a.window.now.n turn.done _ _ (omega arith) c.lane_agrees.ensures.0 c.if-not-lane_agrees.true, c.lane_agrees.ensures.1)

pub loop-done-preserved : goal.loop-done-preserved
loop-done-preserved c =
    let a = c.args in
    let turn = c.loop-done in
    (passes_more a.window.now.shape a.window.now.stripe.now _ a.checks.now a.window.now.at a.window.now.n turn.done _ _ (omega arith) turn.invariant.0 (c.lane_agrees.ensures.0.yes c.if-not-lane_agrees.false), c.lane_agrees.ensures.1)

pub returns-else-is_empty : goal.returns-else-is_empty
returns-else-is_empty c =
    let a = c.args in
    (passes_all a.window.now.shape a.window.now.stripe.now _ a.checks.now a.window.now.at a.window.now.n _ (omega arith) c.loop-done.invariant.0, c.loop-done.invariant.1)

pub returns-else-not-lane_agrees : goal.returns-else-not-lane_agrees
returns-else-not-lane_agrees c =
    let a = c.args in
    let turn = c.loop-done in
    let passed = passes_more a.window.now.shape a.window.now.stripe.now _ a.checks.now a.window.now.at a.window.now.n turn.done a.window.now.n c.min.result (omega arith) turn.invariant.0 (c.lane_agrees.ensures.0.yes c.if-not-lane_agrees.false) in
    (passes_all a.window.now.shape a.window.now.stripe.now _ a.checks.now a.window.now.at a.window.now.n a.window.now.n (omega arith) passed, c.lane_agrees.ensures.1)
