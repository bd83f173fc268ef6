-- What a call that plans promises, and plan: document 01, "What each call gives".
use Rattle.std.specs.Prelude.{◌≡◌, List, Result, Bool, ℕ}
use Rattle.codes.specs.declared.Shape.{Shape}
use Rattle.codes.specs.Geometry.{column_of}
use Rattle.refusals.specs.declared.reason.Refusal.{Refusal}
use Rattle.refusals.specs.Refusals.{Fault}
use Rattle.refusals.specs.Answer.{Tells}
use Rattle.plan.specs.declared.ReadPlan.{ReadPlan}
use Rattle.plan.specs.Plan.{cells_read, by_rule, TakesRows}
use Rattle.plan.specs.Refusals.{plan_faults}

-- the plan for column k, as the equations number it, with the rows by diagonal that a rule says, and how many distinct cells it reads
pub record GivesPlan (s : Shape) (k : ℕ) (rule : ℕ → Bool) (plan : ReadPlan) : Type 0 where
  pub taken : TakesRows s rule plan.rows
  pub reads : plan.reads ≡ cells_read s k plan.rows

-- a call with these faults answers the plan by a rule for the column at place k with its reads, or the refusal
abbrev pub PlansBy : Shape → ℕ → (ℕ → ℕ → Bool) → List Fault → Result ReadPlan Refusal → Type 0
PlansBy s k rule faults = Tells faults (GivesPlan s (column_of s k) (rule (column_of s k)))

-- plan answers the plan by its rule
abbrev pub Plans : Shape → ℕ → Result ReadPlan Refusal → Type 0
Plans s k = PlansBy s k (by_rule s) (plan_faults s k)
