-- The refusals of a run: which faults it has after which, and what holds where there is none.
use mathlib.Core.Path.{◌≡◌, refl}
use mathlib.Core.List.{[], ◌∷◌}
use mathlib.Core.Bool.{not}
use Prim.Native.Nat.{ℕ, ◌*◌, ◌<◌}
use borrow.Author.Tests.{eqb-true, leb-false, not-false}
use Rattle.codes.specs.declared.Shape.{Shape}
use Rattle.codes.specs.Shape.{rows, disks, stripe_length, WellFormed}
use Rattle.codes.specs.Geometry.{column_of}
use Rattle.refusals.specs.Refusals.{fault, other_length, outside, order, refusal}
use Rattle.refusals.proofs.Order.{After, after}
use Rattle.plan.specs.Plan.{is_accepted}
use Rattle.plan.specs.Refusals.{rdp_faults}
use Rattle.plan.proofs.Column.{lying}
use Rattle.plan.proofs.Refused.{rdp_accepted}
use Rattle.spare.specs.Refusals.{spare_faults, run_faults}
use Rattle.spare.specs.Right.{SpareRight, RunRight}

-- ---- a stripe and a spare

module _ (s : Shape) (bytes spare : ℕ) where
  pub spare_after : After (rdp_faults s) (other_length bytes (stripe_length s) ∷ other_length spare (rows s * s.cell) ∷ []) (spare_faults s bytes spare)
  unfolding spare_faults order
  spare_after = after (rdp_faults s) _ refl refl

  -- a stripe and a spare that are not refused are of RDP, and of the right length
  pub spare_accepted : refusal (spare_faults s bytes spare) ≡ 0 → WellFormed s × (s.code ≡ 1) × (bytes ≡ stripe_length s) × (spare ≡ rows s * s.cell)
  spare_accepted none =
      let n = spare_after.none none in
      let formed = rdp_accepted s n.0 in
      (formed.0, formed.1, eqb-true bytes (stripe_length s) (not-false _ n.1.0), eqb-true spare (rows s * s.cell) (not-false _ n.1.1.0))

  -- the column that lies at a place inside such a stripe
  pub buffers_right : (k : ℕ) → refusal (spare_faults s bytes spare) ≡ 0 → k < disks s → SpareRight s bytes spare (column_of s k)
  buffers_right k none l =
      let a = spare_accepted none in
      record { of = lying s k (a.0, a.1, l); long = a.2; whole = a.3 }

-- ---- a run by plan

module _ (s : Shape) (bytes spare k plan first : ℕ) where
  pub run_after : After (spare_faults s bytes spare) (outside k (disks s) ∷ outside first s.p ∷ fault 9 (not (is_accepted s (column_of s k) plan)) ∷ [])
      (run_faults s bytes spare k plan first)
  unfolding run_faults spare_faults order
  run_after = after (spare_faults s bytes spare) _ refl refl

  module _ (none : refusal (run_faults s bytes spare k plan first) ≡ 0) where
    -- a run that is not refused is for a place where a column lies
    pub run_asked : k < disks s
    run_asked = let n = run_after.none none in leb-false (disks s) k n.1.0

    -- and it is right for that column
    pub run_accepted : RunRight s bytes spare (column_of s k) plan first
    run_accepted =
        let n = run_after.none none in
        record {
          buffers = buffers_right s bytes spare k n.0 run_asked;
          accepted = not-false (is_accepted s (column_of s k) plan) n.1.1.1.0;
          start = leb-false s.p first n.1.1.0;
        }
