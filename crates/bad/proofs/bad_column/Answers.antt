-- `bad::bad_column` meets its contract. A stripe that is not refused is well formed and of the right length, and the whole of its cells is looked at.
use mathlib.Core.Path.{sym}
use mathlib.Core.List.{List}
use Prim.Native.Nat.{ℕ}
use native.Mathlib.Omega.{arith}
use Rattle.refusals.proofs.Refused.{accepted}
use Rattle.codes.specs.declared.Shape.{Shape}
use Rattle.equation.proofs.Whole.{of_whole}
use Rattle.bad.specs.Candidate.{FindingIn}
use Rattle.bad.proofs.Naming.{finding_whole}
use Rattle.bad.proofs.bad_column.Goals as goal

pub whole-requires : goal.whole-requires
whole-requires c = accepted _ _ (sym c.in_ok-check_stripe.ensures)

pub returns : goal.returns
returns c =
    let right = accepted c.args.shape _ (sym c.in_ok-check_stripe.ensures) in (
      c.in_ok-check_stripe.ensures,
      finding_whole c.args.shape right.0 c.args.stripe.now right.1 (λ i. omega (arith, c.type_inv.stripe i)) c.find.result
          (of_whole _ _ _ c.whole.ensures (λ (s : Shape) (stripe : List ℕ) (at n : ℕ). FindingIn s stripe at n c.find.result) c.find.ensures),
    )
