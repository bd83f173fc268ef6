-- Laws of a job that is carried out: the rebuild works on what the job holds, and what it gives is the job's answer.
use mathlib.Core.Path.{◌≡◌, refl, sym, ap, ◌∙◌, subst}
use mathlib.Core.List.{List, []}
use Prim.Native.Nat.{ℕ}
use lib.ListN.{length, take}
use Rattle.std.specs.Prelude.{Result, Ok, Err}
use Rattle.std.specs.Result.{IsErrAnd}
use Rattle.std.specs.Borrow.{Bor}
use Rattle.codes.specs.declared.Shape.{Shape}
use Rattle.refusals.specs.declared.reason.Refusal.{Refusal}
use Rattle.refusals.specs.Number.{number_of}
use Rattle.rebuild.specs.Rebuild.{RebuildsCells}
use Rattle.format.specs.declared.Fields.{Fields}
use Rattle.format.specs.Format.{Job, job_bytes, shape_of, answer_bytes}
use Rattle.format.specs.Reading.{Holds}
use Rattle.jobs.specs.Answer.{bytes_of, Carried, Answers, carried}
use Rattle.jobs.specs.Carrying.{Lists}
use Rattle.format.proofs.Bytes.{same_numbers}
use Rattle.jobs.proofs.Storing.{bytes_refused}

-- the rebuild works on what the job holds
pub rebuilt : (f : Fields) (j : Job) → Holds j f → (copy list : List ℕ) (answer : ℕ) (new : List ℕ) → copy ≡ f.stripe.now → Lists f.lost.now list
    → RebuildsCells f.shape (take (length f.lost.now) list) copy answer new → RebuildsCells (shape_of j) j.lost j.stripe answer new
rebuilt f j h copy list answer new same lists r =
    subst (λ (x : List ℕ). RebuildsCells (shape_of j) j.lost x answer new) (same ∙ h.stripe)
    (subst (λ (x : List ℕ). RebuildsCells (shape_of j) x copy answer new) (same_numbers (take (length f.lost.now) list) j.lost (lists.says ∙ h.lost))
    (subst (λ (x : Shape). RebuildsCells x (take (length f.lost.now) list) copy answer new) h.shape r))

-- what the rebuild gives, or its refusal, is the job's answer
pub carried_given : (j : Job) (stripe : List ℕ) → RebuildsCells (shape_of j) j.lost j.stripe 0 stripe → Carried j (answer_bytes 0 stripe)
carried_given j stripe r = record { answer = 0; stripe = stripe; rebuilds = r; says = refl }

pub carried_refused : (j : Job) (stripe : List ℕ) (why : Refusal) → RebuildsCells (shape_of j) j.lost j.stripe (number_of why) stripe
    → (r : Result (Bor (List ℕ)) Refusal) → IsErrAnd r (λ e. e ≡ why) → Carried j (bytes_of r)
carried_refused j stripe why rebuilds (Ok _) said = absurd said
carried_refused j stripe why rebuilds (Err other) said = record {
  answer = number_of why;
  stripe = stripe;
  rebuilds = rebuilds;
  says = ap (λ (e : Refusal). answer_bytes (number_of e) []) said ∙ bytes_refused why [] ∙ sym (bytes_refused why stripe);
}

-- the answer to the bytes of a job is what carrying it out answers
pub answers_job : (input : List ℕ) (f : Fields) → (j : Job) × (job_bytes j ≡ input) × Holds j f → (output : List ℕ) → ((j : Job) → Holds j f → Carried j output) → Answers input output
answers_job input f job output c = carried job.0 job.2.fits job.1 (c job.0 job.2)
