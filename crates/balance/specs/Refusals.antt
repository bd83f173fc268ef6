-- The refusals of a balanced plan: document 02, request 04.
use Rattle.std.specs.Prelude.{List, [], ◌∷◌, ◌++◌, not, ℕ}
use Rattle.codes.specs.declared.Shape.{Shape}
use Rattle.refusals.specs.Refusals.{Fault, fault, code_faults, not_full, size_faults, outside}
use Rattle.plan.specs.Refusals.{not_rdp}
use Rattle.balance.specs.Balance.{offered}

-- another prime than those of balanced plans
abbrev pub not_offered : Shape → Fault
not_offered s = fault 15 (not (offered s.p))

-- the refusals of a balanced plan for column k, which has to be below p
unfoldable pub balance_faults : Shape → ℕ → List Fault
balance_faults s k = code_faults s ++ not_full s ∷ not_rdp s ∷ not_offered s ∷ size_faults s ++ outside k s.p ∷ []
