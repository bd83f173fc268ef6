-- The refusals of plan, and of every call that is for RDP alone: document 01, "Refusal numbers", and document 02.
use Rattle.std.specs.Prelude.{List, [], ◌∷◌, ◌++◌, not, ℕ, eqb}
use Rattle.codes.specs.declared.Shape.{Shape}
use Rattle.codes.specs.Shape.{disks}
use Rattle.refusals.specs.Refusals.{Fault, fault, code_faults, size_faults, outside}

-- another code than RDP
abbrev pub not_rdp : Shape → Fault
not_rdp s = fault 3 (not (eqb s.code 1))

-- the refusals of a shape that must be RDP's
abbrev pub rdp_faults : Shape → List Fault
rdp_faults s = code_faults s ++ not_rdp s ∷ size_faults s

-- the refusals of a plan for the column at place k
unfoldable pub plan_faults : Shape → ℕ → List Fault
plan_faults s k = rdp_faults s ++ outside k (disks s) ∷ []
