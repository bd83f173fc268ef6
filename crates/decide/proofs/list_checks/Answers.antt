-- `decide::list_checks` meets its contract. The loop's invariant: the sources of the members that are not still to come are listed.
use Rattle.decide.proofs.Lists.{checks_more, checks_all}
use Rattle.decide.proofs.list_checks.Goals as goal

pub loop-q-preserved : goal.loop-q-preserved
loop-q-preserved c = checks_more _ _ _ _ _ _ _ c.in-Some.ensures.steps c.loop-q.invariant

pub returns : goal.returns
returns c = checks_all _ _ _ _ _ c.in-None.ensures.steps.0 c.loop-q.invariant
