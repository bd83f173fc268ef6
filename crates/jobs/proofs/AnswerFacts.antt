-- What follows from the job's contract: the longest answer, and a stripe that comes back.
use mathlib.Core.Path.{◌≡◌, refl, ap, ap₂, ◌∙◌}
use mathlib.Core.List.{List, []}
use Prim.Native.Nat.{ℕ, zero, suc, ◌+◌, ◌≤◌}
use native.Mathlib.Omega.{arith}
use lib.ListN.{length, drop, length-append}
use Rattle.xor.proofs.Cases.{by_equal}
use Rattle.codes.specs.declared.Shape.{Shape}
use Rattle.refusals.specs.Refusals.{refusal, cells_faults}
use Rattle.refusals.proofs.Refused.{cells_accepted}
use Rattle.decide.specs.Survivors.{Undetermined, Restores, named}
use Rattle.rebuild.specs.Rebuild.{RebuildsCells}
use Rattle.rebuild.proofs.Calls.{decided_long}
use Rattle.rebuild.proofs.Facts.{cells_come_back}
use Rattle.format.specs.Format.{most_stripe, no_job_refusal, two_bytes_of, field, Job, job_bytes, Fits, shape_of, answer_bytes}
use Rattle.jobs.specs.Answer.{Answers, carried, no_job, AnswersInto}
use Rattle.jobs.proofs.Storing.{length_done}
use Rattle.jobs.proofs.OneAnswer.{carried_this}

-- ---- an answer has at most 32,775 bytes

-- a rebuild keeps the length of the stripe
same_long : (s : Shape) (lost old : List ℕ) (answer : ℕ) (new : List ℕ) → RebuildsCells s lost old answer new → length new ≡ length old
same_long s lost old answer new r =
    by_equal (refusal (cells_faults s (length old) lost)) 0
    (λ e. decided_long s (named s lost) old answer new (cells_accepted s (length old) lost e).1 (r.decides e))
    (λ n. ap (λ (x : List ℕ). length x) (r.refused n).1)

bytes_most : (answer : ℕ) (stripe : List ℕ) → length stripe ≤ most_stripe → length (answer_bytes answer stripe) ≤ 7 + most_stripe
unfolding answer_bytes field two_bytes_of
bytes_most zero stripe l = omega (arith, length_done stripe)
bytes_most (suc n) stripe l = omega arith

pub output_most : (input output : List ℕ) → Answers input output → length output ≤ 7 + most_stripe
output_most input output (carried j fits _ c) =
    let long = same_long (shape_of j) j.lost j.stripe c.answer c.stripe c.rebuilds in
    omega (arith, ap (λ (x : List ℕ). length x) c.says, bytes_most c.answer c.stripe (omega (arith, fits.short)))
output_most input output (no_job _ says) = omega (arith, ap (λ (x : List ℕ). length x) says, bytes_most no_job_refusal [] (omega arith))

pub answer_longest : (input old : List ℕ) (size : ℕ) (new : List ℕ) → AnswersInto input old size new → size ≤ 7 + most_stripe
answer_longest input old size new h = omega (arith, h.put.long, output_most input h.output h.answers)

-- bytes as many as these have room for it
pub answer_inside : (input old : List ℕ) (size : ℕ) (new : List ℕ) → AnswersInto input old size new → length old ≡ 7 + most_stripe → size ≤ length new
answer_inside input old size new h long =
    let most = answer_longest input old size new h in
    omega (arith, h.put.long, ap (λ (x : List ℕ). length x) (h.put.room (omega arith)), length-append h.output (drop size old))

-- ---- a job whose lost cells the survivors determine is answered 0 with the encoded stripe that agrees with them

pub job_comes_back : (j : Job) → Fits j → refusal (cells_faults (shape_of j) (length j.stripe) j.lost) ≡ 0 → (Undetermined (shape_of j) (named (shape_of j) j.lost) → ⊥)
    → (x : List ℕ) → Restores (shape_of j) (named (shape_of j) j.lost) j.stripe x → (output : List ℕ) → Answers (job_bytes j) output → output ≡ answer_bytes 0 x
job_comes_back j fits right determined x restores output (carried i _ ei ci) =
    let c = carried_this i j (job_bytes j) output ei refl ci in
    let back = cells_come_back (shape_of j) j.lost j.stripe x right determined restores c.answer c.stripe c.rebuilds in
    c.says ∙ ap₂ answer_bytes back.0 back.1
job_comes_back j fits right determined x restores output (no_job none _) = absurd (none j fits refl)
