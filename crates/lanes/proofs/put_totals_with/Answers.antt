-- `lanes::put_totals_with` meets its contract. The loop's invariant: the lanes of the members that are not still to come are done, and those of
-- them that fail are known.
use mathlib.Core.Path.{◌≡◌, refl, sym, ap, ◌∙◌}
use mathlib.Core.Bool.{not}
use Rattle.xor.proofs.Runs.{summed_says}
use Rattle.equation.proofs.Windows.{fails_by}
use Rattle.lanes.proofs.Lanes.{totals_none, totals_more, totals_all, failing_none, failing_not, failing_more, failing_all}
use native.Mathlib.Omega.{arith}
use Rattle.lanes.proofs.put_totals_with.Goals as goal

pub loop-q-init : goal.loop-q-init
loop-q-init c =
    let whole : c.into_iter-q-iterator.result.rest ≡ c.args.set = cc c.into_iter-q-iterator.ensures.into_iter_gives in
    (totals_none _ _ _ _ _ _ _ whole c.requires.0.space, failing_none _ _ _ _ _ _ whole)

pub put_total-requires : goal.put_total-requires
put_total-requires c =
    let took = c.in-Some.ensures.steps in
    let lane = c.requires.0 in
    (c.requires.1.below _ (c.loop-q.invariant.0.within _ (took.1.passes took.0)), omega (arith, lane.few, took.0, c.loop-q.invariant.0.long), c.requires.2)

pub loop-q-preserved-then-not-put_total : goal.loop-q-preserved-then-not-put_total
loop-q-preserved-then-not-put_total c =
    let a = c.args in
    let turn = c.loop-q in
    let took = c.in-Some.ensures.steps in
    let total = c.put_total in
    let fails = fails_by a.window.now.shape a.window.now.stripe.now _ a.window.now.at a.window.now.n _ (λ i l. refl) total.result (summed_says _ _ _ a.window.now.n _ total.result total.ensures) in (
      totals_more a.window.now.shape a.window.now.stripe.now a.window.now.at a.window.now.n a.set _ _ _ _ _ c.requires.0.few took turn.invariant.0 total.ensures.put,
      failing_more a.window.now.shape a.window.now.stripe.now a.window.now.at a.window.now.n a.set _ _ _ turn.failing took turn.invariant.1 _ c.one_bit-failing.ensures (sym fails ∙ ap not c.if-not-put_total.true),
    )

pub loop-q-preserved : goal.loop-q-preserved
loop-q-preserved c =
    let a = c.args in
    let turn = c.loop-q in
    let took = c.in-Some.ensures.steps in
    let total = c.put_total in
    let fails = fails_by a.window.now.shape a.window.now.stripe.now _ a.window.now.at a.window.now.n _ (λ i l. refl) total.result (summed_says _ _ _ a.window.now.n _ total.result total.ensures) in (
      totals_more a.window.now.shape a.window.now.stripe.now a.window.now.at a.window.now.n a.set _ _ _ _ _ c.requires.0.few took turn.invariant.0 total.ensures.put,
      failing_not a.window.now.shape a.window.now.stripe.now a.window.now.at a.window.now.n a.set _ _ _ turn.failing took turn.invariant.1 (sym fails ∙ ap not c.if-not-put_total.false),
    )

pub returns : goal.returns
returns c =
    let none = c.in-None.ensures.steps.0 in
    (totals_all _ _ _ _ _ _ _ none c.loop-q.invariant.0, failing_all _ _ _ _ _ _ _ none c.loop-q.invariant.1)
