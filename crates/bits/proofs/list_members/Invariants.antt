-- `bits::list_members` meets its contract. The loop's invariant: the members that are not still to come are listed.
use Rattle.bits.proofs.Listing.{MembersTo}
use Rattle.bits.proofs.list_members.Given as goal

abbrev pub invariant-loop-r : goal.invariant-loop-r
invariant-loop-r l = MembersTo l.set l.apart l.n l.r-iterator.rest l.list
