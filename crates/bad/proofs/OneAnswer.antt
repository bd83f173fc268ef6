-- Any two answers that bad column's contract allows are equal.
use mathlib.Core.Path.{◌≡◌, refl, ap}
use mathlib.Core.List.{List}
use Prim.Native.Nat.{ℕ}
use lib.ListN.{length}
use Rattle.codes.specs.declared.Shape.{Shape}
use Rattle.codes.specs.Shape.{WellFormed}
use Rattle.std.specs.Prelude.{Result}
use Rattle.refusals.specs.declared.reason.Refusal.{Refusal}
use Rattle.refusals.specs.Refusals.{stripe_faults}
use Rattle.refusals.proofs.Answer.{one_told}
use Rattle.refusals.proofs.Refused.{accepted}
use Rattle.bad.specs.declared.BadColumn.{BadColumn}
use Rattle.bad.specs.declared.BadColumn.TheVariants.{Clean, Column, Unexplained}
use Rattle.bad.specs.Bad.{Finding, Finds}
use Rattle.bad.proofs.OneBad.{one_bad_column}

module _ (s : Shape) (stripe : List ℕ) where
  found_one : WellFormed s → (a b : BadColumn) → Finding s stripe a → Finding s stripe b → a ≡ b
  found_one w Clean Clean x y = refl
  found_one w Clean (Column d) x y = absurd (y.0 x)
  found_one w Clean Unexplained x y = absurd (y.0 x)
  found_one w (Column c) Clean x y = absurd (x.0 y)
  found_one w (Column c) (Column d) x y = ap Column (one_bad_column s w stripe x.0 c d x.1 y.1)
  found_one w (Column c) Unexplained x y = absurd (y.1 c x.1)
  found_one w Unexplained Clean x y = absurd (x.0 y)
  found_one w Unexplained (Column d) x y = absurd (x.1 d y.1)
  found_one w Unexplained Unexplained x y = refl

pub bad_one : (s : Shape) (stripe : List ℕ) (a b : Result BadColumn Refusal) → Finds s stripe a → Finds s stripe b → a ≡ b
bad_one s stripe = one_told (stripe_faults s (length stripe)) (Finding s stripe) (λ z. found_one s stripe (accepted s (length stripe) z).0)
