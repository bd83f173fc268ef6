-- What a job's cell size means for its stripe, whether field 03 gives it or not.
use mathlib.Core.Path.{◌≡◌, refl, sym, ap, ◌∙◌}
use mathlib.Core.Logic.{◌≢◌}
use mathlib.Core.List.{List, []}
use mathlib.Core.Bool.{not}
use Prim.Native.Nat.{ℕ, ◌-◌, ◌*◌, ◌≤◌, ◌<◌}
use native.Mathlib.Nat.{mul-pos, mul-le-mul, eq_of_mul-eq-mul_left}
use native.Mathlib.Omega.{arith}
use lib.ListN.{length}
use borrow.Author.Tests.{ne_eqb, le-ltb}
use Rattle.codes.specs.declared.Shape.{Shape}
use Rattle.codes.specs.Shape.{most_cell, rows, disks, existing, stripe_length, WellFormed}
use Rattle.refusals.specs.Refusals.{refusal, code_faults, shape_faults, cells_faults}
use Rattle.codes.proofs.Shapes.{of_code, rows_low, few_columns, missing_low, disks_is, full_missing, length_of}
use Rattle.refusals.proofs.Order.{hit, miss, right}
use Rattle.refusals.proofs.Refused.{shape_after, shape_accepted, stripe_after, cells_after}
use Rattle.format.specs.Format.{absent_cell, absent, Job, cell_size, job_bytes, Fits, shape_of, answer_bytes}
use Rattle.jobs.specs.Answer.{Answers, carried, no_job}
use Rattle.jobs.proofs.OneAnswer.{carried_this}

-- the one answer to job j is refusal 5
abbrev pub RefusedFive : Job → Type 0
RefusedFive j = (output : List ℕ) → Answers (job_bytes j) output → output ≡ answer_bytes 5 []

module _ (j : Job) (fits : Fits j) where
  -- a stripe of another length than its shape's
  other_length_refused : refusal (shape_faults (shape_of j)) ≡ 0 → length j.stripe ≢ stripe_length (shape_of j) → RefusedFive j
  unfolding answer_bytes
  other_length_refused good other output (carried i _ ei ci) =
      let c = carried_this i j (job_bytes j) output ei refl ci in
      c.says ∙ ap (λ (r : ℕ). answer_bytes r c.stripe) ((c.rebuilds.refused (λ z. omega (arith, five))).0 ∙ sym five)
    where
      five : 5 ≡ refusal (cells_faults (shape_of j) (length j.stripe) j.lost)
      five =
          (cells_after (shape_of j) (length j.stripe) j.lost).earlier
          ((stripe_after (shape_of j) (length j.stripe)).own good (hit (ap not (ne_eqb (length j.stripe) (stripe_length (shape_of j)) other))))
          (λ z. omega arith)
  other_length_refused good other output (no_job none _) = absurd (none j fits refl)

  -- ---- a stripe that was cut into cells of another size than the job's, given or absent

  pub other_cells_refused : refusal (shape_faults (shape_of j)) ≡ 0 → (n : ℕ) → n ≢ (shape_of j).cell → length j.stripe ≡ existing (shape_of j) * n → RefusedFive j
  unfolding existing stripe_length
  other_cells_refused good n other long = other_length_refused good (λ e. other (eq_of_mul-eq-mul_left (existing s) some n s.cell (sym long ∙ e)))
    where
      s : Shape
      s = shape_of j

      w : WellFormed s
      w = shape_accepted s good

      some : 0 < existing s
      some = mul-pos (omega (arith, disks_is s w, missing_low s w, few_columns s w)) (omega (arith, rows_low s w))

  -- ---- a job without field 03

  module _ (none : j.cell ≡ absent) (good : refusal (code_faults (shape_of j)) ≡ 0) where
    size : (shape_of j).cell ≡ absent_cell
    size = ap cell_size none

    shaped : 0 ≡ refusal (shape_faults (shape_of j))
    shaped = (shape_after (shape_of j)).own good (miss (ne_eqb (shape_of j).cell 0 (λ e. omega (arith, size))) (miss (le-ltb most_cell (shape_of j).cell (omega (arith, size))) right))

    -- a kit that forgets the field and has cells of 512 bytes
    pub forgetting_refused : length j.stripe ≡ existing (shape_of j) * 512 → RefusedFive j
    forgetting_refused long = other_cells_refused (sym shaped) 512 (λ e. omega (arith, size)) long

    -- p of 7 or more: the stripe would not fit into a job
    pub large_refused : 7 ≤ j.p → RefusedFive j
    unfolding existing rows
    large_refused large = other_length_refused (sym shaped) (λ e. omega (arith, e, mul-le-mul across down, whole, fits.short))
      where
        w : WellFormed (shape_of j)
        w = shape_accepted (shape_of j) (sym shaped)

        across : 7 ≤ disks (shape_of j)
        across = omega (arith, few_columns (shape_of j) w, disks_is (shape_of j) w, full_missing (shape_of j) refl)

        down : 6 ≤ rows (shape_of j)
        down = let tall : j.p - 1 ≤ rows (shape_of j) = of_code (λ c. j.p - 1 ≤ c.rows) (shape_of j) w (omega arith) (omega arith) (omega arith) (omega arith) in omega arith

        whole : existing (shape_of j) * absent_cell ≡ stripe_length (shape_of j)
        whole = ap (λ (n : ℕ). existing (shape_of j) * n) (sym size) ∙ length_of (shape_of j) (existing (shape_of j)) refl
