-- The refusals of plan, and of a shape that must be RDP's: which faults come after which, and what holds where there is none.
use mathlib.Core.Path.{◌≡◌, refl}
use mathlib.Core.List.{[], ◌∷◌}
use Prim.Native.Nat.{ℕ, ◌<◌}
use borrow.Author.Tests.{eqb-true, leb-false, not-false}
use Rattle.codes.specs.declared.Shape.{Shape}
use Rattle.codes.specs.Shape.{disks, WellFormed}
use Rattle.refusals.specs.Refusals.{outside, order, refusal, code_faults, size_faults}
use Rattle.refusals.proofs.Order.{After, after}
use Rattle.refusals.proofs.Refused.{well_formed}
use Rattle.plan.specs.Refusals.{not_rdp, rdp_faults, plan_faults}

-- ---- a shape that must be RDP's

module _ (s : Shape) where
  pub rdp_after : After (code_faults s) (not_rdp s ∷ size_faults s) (rdp_faults s)
  unfolding order
  rdp_after = after (code_faults s) (not_rdp s ∷ size_faults s) refl refl

  -- a shape that is not refused is RDP's, and well formed
  pub rdp_accepted : refusal (rdp_faults s) ≡ 0 → WellFormed s × (s.code ≡ 1)
  rdp_accepted none = let n = rdp_after.none none in (well_formed s n.0 n.1.1, eqb-true s.code 1 (not-false _ n.1.0))

-- ---- a plan

module _ (s : Shape) (k : ℕ) where
  pub plan_after : After (rdp_faults s) (outside k (disks s) ∷ []) (plan_faults s k)
  unfolding plan_faults order
  plan_after = after (rdp_faults s) _ refl refl

  -- a plan that is not refused is for a place where a column of RDP lies
  pub plan_accepted : refusal (plan_faults s k) ≡ 0 → WellFormed s × (s.code ≡ 1) × (k < disks s)
  plan_accepted none =
      let n = plan_after.none none in
      let formed = rdp_accepted s n.0 in
      (formed.0, formed.1, leb-false (disks s) k n.1.0)
