-- `lanes::mend` meets its contract. Nothing is filled unless the survivors pass.
use Rattle.lanes.proofs.Lanes.{passes_whole, mends_done, mends_kept}
use Rattle.lanes.proofs.mend.Goals as goal

pub returns-then-agree : goal.returns-then-agree
returns-then-agree c = mends_done _ _ _ _ _ _ _ _ _ (passes_whole _ _ _ c.whole.ensures _ _ _ c.survivors_agree-agree.ensures.0) c.if-agree.true c.fill.ensures

pub returns-else-agree : goal.returns-else-agree
returns-else-agree c = mends_kept _ _ _ _ _ _ _ _ (passes_whole _ _ _ c.whole.ensures _ _ _ c.survivors_agree-agree.ensures.0) c.if-agree.false
