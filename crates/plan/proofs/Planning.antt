-- What a call that plans answers meets its contract, and any two answers that the contract allows are equal: of plan, and of any other rule.
use mathlib.Core.Path.{◌≡◌, sym, ap, ◌∙◌, subst}
use mathlib.Core.List.{List}
use mathlib.Core.Bool.{Bool}
use Prim.Native.Nat.{ℕ}
use Rattle.bits.proofs.Bits.{same_bits}
use Rattle.codes.specs.declared.Shape.{Shape}
use Rattle.codes.specs.Shape.{rows}
use Rattle.codes.specs.Geometry.{column_of}
use Rattle.std.specs.Prelude.{Result, Ok}
use Rattle.refusals.specs.declared.reason.Refusal.{Refusal}
use Rattle.refusals.specs.Refusals.{Fault, refusal}
use Rattle.refusals.proofs.Answer.{one_told}
use Rattle.plan.specs.declared.ReadPlan.{ReadPlan}
use Rattle.plan.specs.Plan.{cells_read, by_rule, TakesRows}
use Rattle.plan.specs.Refusals.{plan_faults}
use Rattle.plan.specs.Plans.{GivesPlan, PlansBy, Plans}

-- two plans that take the same rows are the same
pub same_rows : (s : Shape) (test : ℕ → Bool) (a b : ℕ) → TakesRows s test a → TakesRows s test b → a ≡ b
same_rows s test a b ra rb = same_bits (rows s) a b ra.low rb.low (λ i l. ra.rule i l ∙ sym (rb.rule i l))

-- two plans by one rule are the same
same_plan : (s : Shape) (k : ℕ) (rule : ℕ → Bool) (x y : ReadPlan) → GivesPlan s k rule x → GivesPlan s k rule y → x ≡ y
same_plan s k rule x y gx gy = λ i. record { rows = same i; reads = reads i }
  where
    same : x.rows ≡ y.rows
    same = same_rows s rule x.rows y.rows gx.taken gy.taken

    reads : x.reads ≡ y.reads
    reads = gx.reads ∙ ap (cells_read s k) same ∙ sym gy.reads

module _ (s : Shape) (k : ℕ) (rule : ℕ → ℕ → Bool) (faults : List Fault) where
  pub plan_given : (j taken reads : ℕ) → refusal faults ≡ 0 → j ≡ column_of s k → TakesRows s (rule j) taken
      → reads ≡ cells_read s j taken → PlansBy s k rule faults (Ok (record { rows = taken; reads = reads }))
  plan_given j taken reads none lies ruled e = (
    sym none,
    record {
      taken = subst (λ (x : ℕ). TakesRows s (rule x) taken) lies ruled;
      reads = e ∙ ap (λ (x : ℕ). cells_read s x taken) lies;
    },
  )

  -- any two answers are equal
  pub plans_one : (a b : Result ReadPlan Refusal) → PlansBy s k rule faults a → PlansBy s k rule faults b → a ≡ b
  plans_one = one_told faults (GivesPlan s (column_of s k) (rule (column_of s k))) (λ z. same_plan s (column_of s k) (rule (column_of s k)))

-- any two answers that plan may give are equal
pub plan_one : (s : Shape) (k : ℕ) (a b : Result ReadPlan Refusal) → Plans s k a → Plans s k b → a ≡ b
plan_one s k = plans_one s k (by_rule s) (plan_faults s k)
