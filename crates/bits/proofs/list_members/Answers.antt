-- `bits::list_members` meets its contract. The loop's invariant: the members that are not still to come are listed.
use Rattle.bits.proofs.Listing.{members_none, members_more, members_all}
use Rattle.bits.proofs.list_members.Goals as goal

pub loop-r-init : goal.loop-r-init
loop-r-init c = members_none _ _ _ _ (cc c.into_iter-r-iterator.ensures.into_iter_gives) c.told-list

pub loop-r-preserved : goal.loop-r-preserved
loop-r-preserved c = let next = c.in-Some.ensures.steps in members_more _ _ _ _ _ _ _ next.0 next.1 next.2 c.loop-r.invariant

pub returns : goal.returns
returns c = members_all _ _ _ _ _ c.in-None.ensures.steps.0 c.loop-r.invariant
