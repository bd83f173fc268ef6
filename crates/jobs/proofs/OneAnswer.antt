-- Any two results that the job's contract allows are equal: the length of the answer, and every lent byte.
use mathlib.Core.Path.{◌≡◌, sym, ap, ap₂, ◌∙◌, subst}
use mathlib.Core.List.{List, ◌++◌}
use Prim.Native.Nat.{ℕ}
use native.Mathlib.Omega.{arith}
use lib.ListN.{length, drop}
use Rattle.xor.proofs.Cases.{by_less}
use Rattle.rebuild.proofs.OneAnswer.{cells_one}
use Rattle.format.specs.Format.{Job, job_bytes, shape_of, answer_bytes}
use Rattle.jobs.specs.Answer.{Carried, Answers, carried, no_job, AnswersInto}
use Rattle.format.proofs.OneJob.{one_job}

-- what is carried out is the job whose bytes are the input
pub carried_this : (i j : Job) (input output : List ℕ) → job_bytes i ≡ input → job_bytes j ≡ input → Carried i output → Carried j output
carried_this i j input output ei ej c = subst (λ (k : Job). Carried k output) (one_job i j (ei ∙ sym ej)) c

carried_one : (j : Job) (a b : List ℕ) → Carried j a → Carried j b → a ≡ b
carried_one j a b ca cb =
    let same = cells_one (shape_of j) j.lost j.stripe ca.answer cb.answer ca.stripe cb.stripe ca.rebuilds cb.rebuilds in
    ca.says ∙ ap₂ answer_bytes same.0 same.1 ∙ sym cb.says

outputs_one : (input a b : List ℕ) → Answers input a → Answers input b → a ≡ b
outputs_one input a b (carried i fi ei ca) (carried j fj ej cb) = carried_one j a b (carried_this i j input a ei ej ca) cb
outputs_one input a b (carried i fi ei ca) (no_job none eb) = absurd (none i fi ei)
outputs_one input a b (no_job none ea) (carried j fj ej cb) = absurd (none j fj ej)
outputs_one input a b (no_job _ ea) (no_job _ eb) = ea ∙ sym eb

pub answer_one : (input old : List ℕ) (m n : ℕ) (x y : List ℕ) → AnswersInto input old m x → AnswersInto input old n y → (m ≡ n) × (x ≡ y)
answer_one input old m n x y hx hy = (
  size,
  by_less (length old) m
      (λ l. hx.put.narrow l ∙ sym (hy.put.narrow (omega (arith, size))))
      (λ l. hx.put.room l ∙ ap₂ (λ (o : List ℕ) (k : ℕ). o ++ drop k old) same size ∙ sym (hy.put.room (omega (arith, size)))),
)
  where
    same : hx.output ≡ hy.output
    same = outputs_one input hx.output hy.output hx.answers hy.answers

    size : m ≡ n
    size = hx.put.long ∙ ap (λ (o : List ℕ). length o) same ∙ sym hy.put.long
