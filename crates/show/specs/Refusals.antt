-- The refusals of show: document 01, "Refusal numbers", and document 02.
use Rattle.std.specs.Prelude.{List, [], ◌∷◌, ◌++◌, ◌&&◌, ℕ, eqb, leb}
use Rattle.codes.specs.declared.Shape.{Shape}
use Rattle.codes.specs.Shape.{rows, disks}
use Rattle.refusals.specs.Refusals.{Fault, fault, outside}
use Rattle.spare.specs.Refusals.{spare_faults}

-- the refusals of a show of a row and a column while the one at place k is being rebuilt; rows done p-1 is inside
unfoldable pub show_faults : Shape → ℕ → ℕ → ℕ → ℕ → ℕ → ℕ → List Fault
show_faults s bytes spare k done row column =
    spare_faults s bytes spare
    ++ outside row (rows s) ∷ outside column (disks s) ∷ outside k (disks s) ∷ outside done s.p ∷ fault 10 (eqb column k && leb done row) ∷ []
