-- `lanes::union_of` meets its contract.
use mathlib.Core.Path.{◌≡◌, ◌∙◌, sym}
use lib.Bits.{bit_or}
use borrow.Author.Rules.{rules}
use Rattle.std.specs.List.{fold}
use Rattle.std.proofs.lemmas.List.Folds.{fold-map}
use Rattle.bits.proofs.Listing.{union_is}
use Rattle.lanes.proofs.union_of.Goals as goal

pub returns : goal.returns
returns c =
    let e : c.fold.result ≡ fold (λ all x. bit_or all x.set) 0 c.args.lost.now = search rules in
    union_is _ _ (e ∙ sym (fold-map bit_or (λ x. x.set) 0 c.args.lost.now))
