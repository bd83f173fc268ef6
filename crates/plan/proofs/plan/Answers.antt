-- `plan::plan` meets its contract. It is the refusal, or the plan by the rule with its reads.
use mathlib.Core.Path.{◌≡◌, sym, subst}
use Prim.Native.Nat.{ℕ}
use Rattle.codes.specs.declared.Shape.{Shape}
use Rattle.codes.specs.Geometry.{column_of}
use Rattle.refusals.specs.Refusals.{refusal}
use Rattle.plan.specs.Plan.{by_rule}
use Rattle.plan.specs.Refusals.{plan_faults}
use Rattle.plan.specs.Right.{RdpColumn}
use Rattle.plan.proofs.Refused.{plan_accepted}
use Rattle.plan.proofs.Column.{lying}
use Rattle.plan.proofs.PlanFacts.{rule_accepted}
use Rattle.plan.proofs.Planning.{plan_given}
use Rattle.plan.proofs.plan.Goals as goal

-- the column that lies at a place which is not refused is one for which there are plans
lost : (s : Shape) (k j : ℕ) → refusal (plan_faults s k) ≡ 0 → j ≡ column_of s k → RdpColumn s j
lost s k j none e = subst (RdpColumn s) (sym e) (lying s k (plan_accepted s k none))

pub column_of-column-requires : goal.column_of-column-requires
column_of-column-requires c = let asked = plan_accepted c.args.shape c.args.k (sym c.in_ok-check_plan.ensures) in (asked.0, asked.2)

pub rule_rows-rows-requires : goal.rule_rows-rows-requires
rule_rows-rows-requires c = lost c.args.shape c.args.k _ (sym c.in_ok-check_plan.ensures) c.column_of-column.ensures

pub invariant_of-lost : goal.invariant_of-lost
invariant_of-lost c =
    let column = lost c.args.shape c.args.k _ (sym c.in_ok-check_plan.ensures) c.column_of-column.ensures in
    record { column = column; accepted = rule_accepted _ _ _ column c.rule_rows-rows.ensures }

pub returns : goal.returns
returns c =
    let a = c.args in
    plan_given a.shape a.k (by_rule a.shape) (plan_faults a.shape a.k) _ _ _ (sym c.in_ok-check_plan.ensures) c.column_of-column.ensures c.rule_rows-rows.ensures c.reads-reads.ensures
