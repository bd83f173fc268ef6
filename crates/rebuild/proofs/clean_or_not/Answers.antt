-- `rebuild::clean_or_not` meets its contract. No equation fails, or one does.
use Rattle.rebuild.proofs.Rebuilding.{clean_zero, clean_twelve}
use Rattle.rebuild.proofs.clean_or_not.Goals as goal

pub returns-in-None : goal.returns-in-None
returns-in-None c = clean_zero _ _ _ c.whole.ensures c.in-None.ensures

pub returns-in-Some : goal.returns-in-Some
returns-in-Some c = clean_twelve _ _ _ c.whole.ensures _ c.in-Some.ensures.0 c.in-Some.ensures.1
