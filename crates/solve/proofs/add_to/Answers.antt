-- `solve::add_to` meets its contract. The loop's invariant: the values of the members that are not still to come are done.
use Rattle.solve.proofs.Turns.{added_none, added_more, added_all}
use Rattle.solve.proofs.add_to.Goals as goal

pub loop-r-init : goal.loop-r-init
loop-r-init g c = added_none _ _ _ _ _ (cc c.into_iter-r-iterator.ensures.into_iter_gives)

pub loop-r-preserved : goal.loop-r-preserved
loop-r-preserved g c =
    let next = c.in-Some.ensures.steps in
    added_more _ _ _ _ _ _ _ _ _ _ next (c.requires.inside.below c.in-Some.r (c.loop-r.invariant.within c.in-Some.r (next.1.passes next.0))) c.index-values-r.is c.bitxor.ensures c.loop-r.invariant

pub returns : goal.returns
returns g c = added_all _ _ _ _ _ _ c.in-None.ensures.steps.0 c.loop-r.invariant
