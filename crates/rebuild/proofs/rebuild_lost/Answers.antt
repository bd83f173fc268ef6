-- `rebuild::rebuild_lost` meets its contract. Undetermined; or nothing is lost; or the lost cells are mended.
use mathlib.Core.Path.{◌≡◌, refl, sym, ap, ◌∙◌, subst}
use mathlib.Core.List.{List}
use mathlib.Core.Bool.{Bool}
use Prim.Native.Nat.{ℕ}
use native.Mathlib.Omega.{arith}
use lib.ListN.{length}
use borrow.Author.Rules.{rules}
use Rattle.codes.specs.declared.Shape.{Shape}
use Rattle.codes.specs.Shape.{stripe_length}
use Rattle.lanes.specs.Lanes.{Mends}
use Rattle.rebuild.specs.Rebuild.{undetermined}
use Rattle.rebuild.proofs.Rebuilding.{decides_mended, decides_kept, decides_clean}
use Rattle.rebuild.proofs.rebuild_lost.Goals as goal

-- the way is that of the stripe's shape
of_shape : {s way : Shape} {list sets : List ℕ} {u : ℕ} {checks : List ℕ} {v : ℕ} {old : List ℕ} {agree : Bool} {new : List ℕ} → way ≡ s
    → Mends way list sets u checks v old agree new → Mends s list sets u checks v old agree new
of_shape {list = list} {sets = sets} {u = u} {checks = checks} {v = v} {old = old} {agree = agree} {new = new} e = subst (λ (s : Shape). Mends s list sets u checks v old agree new) e

pub returns-in_default : goal.returns-in_default
returns-in_default c = undetermined c.in_default.ensures refl refl

pub returns-then-is_empty : goal.returns-then-is_empty
returns-then-is_empty c =
    let none : length c.in-Some.way.lost.now ≡ 0 = search rules in
    decides_clean c.args.shape c.requires.0 _ _ _ _ _ _ c.in-Some.ensures.1 c.args.stripe.now _ c.requires.1 (search rules) none refl _ c.clean_or_not.ensures

pub mend-agree-requires : goal.mend-agree-requires
mend-agree-requires c = c.requires.1 ∙ ap stripe_length (sym c.in-Some.ensures.0)

pub returns-then-agree : goal.returns-then-agree
returns-then-agree c =
    decides_mended c.args.shape c.requires.0 _ _ _ _ _ _ c.in-Some.ensures.1 c.args.stripe.now _ c.requires.1 (λ i. omega (arith, c.type_inv.stripe i))
    (of_shape c.in-Some.ensures.0 c.if-agree.ensures)

pub returns-else-agree : goal.returns-else-agree
returns-else-agree c =
    decides_kept c.args.shape c.requires.0 _ _ _ _ _ _ c.in-Some.ensures.1 c.args.stripe.now _ c.requires.1 (λ i. omega (arith, c.type_inv.stripe i))
    (of_shape c.in-Some.ensures.0 c.if-agree.ensures)
