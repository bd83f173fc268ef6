-- A run by its budget: how many rows it rebuilds, and what it answers.
use mathlib.Core.Path.{◌≡◌, ap, ◌∙◌, subst}
use mathlib.Core.List.{List}
use Prim.Native.Nat.{ℕ, ◌-◌, min}
use lib.ListN.{length}
use Rattle.codes.specs.declared.Shape.{Shape}
use Rattle.std.specs.Prelude.{Ok}
use Rattle.codes.specs.Shape.{rows, WellFormed}
use Rattle.codes.specs.Geometry.{column_of}
use Rattle.refusals.specs.Refusals.{refusal}
use Rattle.codes.proofs.Lines.{rdp_rows}
use Rattle.spare.specs.Refusals.{run_faults}
use Rattle.spare.specs.Run.{rows_run, RowsRebuilt, RunsByPlan}

-- ---- the smaller of the budget and of the rows left

module _ (s : Shape) (w : WellFormed s) (rdp : s.code ≡ 1) (first : ℕ) where
  pub left_is : s.p - 1 - first ≡ rows s - first
  left_is = ap (λ (n : ℕ). n - first) (rdp_rows s w rdp)

-- ---- what a run answers

module _ (s : Shape) (k plan first budget : ℕ) (stripe old : List ℕ) (none : 0 ≡ refusal (run_faults s (length stripe) (length old) k plan first)) where
  pub run_done : (left n j : ℕ) (new : List ℕ) → left ≡ rows s - first → n ≡ min budget left → j ≡ column_of s k → RowsRebuilt s j plan first n stripe old new
      → RunsByPlan s k plan first budget stripe old new (Ok n)
  unfolding rows_run
  run_done left n j new el e lies h =
      (none, (same, subst (λ (m : ℕ). RowsRebuilt s (column_of s k) plan first m stripe old new) same (subst (λ (x : ℕ). RowsRebuilt s x plan first n stripe old new) lies h)))
    where
      same : n ≡ min budget (rows s - first)
      same = e ∙ ap (λ (m : ℕ). min budget m) el
