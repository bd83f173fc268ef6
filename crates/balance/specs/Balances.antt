-- What the balanced plan promises: document 02, request 04.
use Rattle.std.specs.Prelude.{Result, ℕ}
use Rattle.codes.specs.declared.Shape.{Shape}
use Rattle.refusals.specs.declared.reason.Refusal.{Refusal}
use Rattle.plan.specs.declared.ReadPlan.{ReadPlan}
use Rattle.plan.specs.Plans.{PlansBy}
use Rattle.balance.specs.Balance.{by_balance}
use Rattle.balance.specs.Refusals.{balance_faults}

-- the call answers the balanced plan for column k with its reads, or the refusal
abbrev pub Balances : Shape → ℕ → Result ReadPlan Refusal → Type 0
Balances s k = PlansBy s k (by_balance s) (balance_faults s k)
