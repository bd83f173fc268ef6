-- `lanes::put_totals_with` meets its contract. The loop's invariant: the lanes of the members that are not still to come are done, and those of
-- them that fail are known.
use Rattle.lanes.proofs.Lanes.{TotalsTo, FailingTo}
use Rattle.lanes.proofs.put_totals_with.Given as goal

abbrev pub invariant-loop-q : goal.invariant-loop-q
invariant-loop-q l =
    let w = l.window in TotalsTo w.shape w.stripe.now w.at w.n l.set l.q-iterator.rest l.lanes × FailingTo w.shape w.stripe.now w.at w.n l.set l.q-iterator.rest l.failing
