-- `bits::union` meets its contract.
use borrow.Author.Rules.{rules}
use Rattle.bits.proofs.Listing.{union_is}
use Rattle.bits.proofs.union.Goals as goal

pub returns : goal.returns
returns c = union_is _ _ (search rules)
