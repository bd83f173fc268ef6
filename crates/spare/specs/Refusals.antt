-- The refusals of run and show, which are for RDP alone: document 01, "Refusal numbers", and document 02.
use Rattle.std.specs.Prelude.{List, [], ◌∷◌, ◌++◌, not, ℕ, ◌*◌}
use Rattle.codes.specs.declared.Shape.{Shape}
use Rattle.codes.specs.Shape.{rows, disks, stripe_length}
use Rattle.codes.specs.Geometry.{column_of}
use Rattle.refusals.specs.Refusals.{Fault, fault, other_length, outside}
use Rattle.plan.specs.Plan.{is_accepted}
use Rattle.plan.specs.Refusals.{rdp_faults}

-- the refusals of every call on a lent stripe and a lent spare of so many bytes
unfoldable pub spare_faults : Shape → ℕ → ℕ → List Fault
spare_faults s bytes spare = rdp_faults s ++ other_length bytes (stripe_length s) ∷ other_length spare (rows s * s.cell) ∷ []

-- the refusals of a run for the column at place k by a plan from a first row on; first row p-1 is inside
unfoldable pub run_faults : Shape → ℕ → ℕ → ℕ → ℕ → ℕ → List Fault
run_faults s bytes spare k plan first =
    spare_faults s bytes spare ++ outside k (disks s) ∷ outside first s.p ∷ fault 9 (not (is_accepted s (column_of s k) plan)) ∷ []
