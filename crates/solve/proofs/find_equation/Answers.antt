-- `solve::find_equation` meets its contract: what the search among the unused equations finds.
use mathlib.Core.Path.{sym, ap, ◌∙◌, subst}
use mathlib.Core.Bool.{◌&&◌}
use Prim.Native.Nat.{ℕ}
use lib.Dec.{eqb}
use lib.ListN.{get_or}
use borrow.Author.Rules.{rules}
use Rattle.bits.specs.Bit.{bit, FindsLowest}
use Rattle.bits.proofs.Finding.{find_asks, find_gives}
use Rattle.solve.specs.Masked.{first_cell}
use Rattle.solve.proofs.find_equation.Goals as goal

pub find-requires-clause-callable : goal.find-requires-clause-callable
find-requires-clause-callable c =
    find_asks (λ s. s.rest) _ _ (λ x b q call. search rules) _
    (λ x p. let inside = c.requires.below x (ap (bit x) (sym c.members.ensures) ∙ p) in search rules)

pub returns : goal.returns
returns c =
    let test = λ (q : ℕ). eqb (first_cell (get_or c.args.rows.now q 0)) c.args.k in
    subst (λ (m : ℕ). FindsLowest (λ q. bit q m && test q) c.find.result) c.members.ensures
    (find_gives (λ s. s.rest) _ _ (λ x b q call. search rules) test (λ x b q call. search rules) _ _ _ c.find.ensures.ran)
