-- What reading a job finds.
use Rattle.std.specs.Prelude.{◌≡◌, List, ℕ, Option, Some, None, length}
use Rattle.std.specs.List.{concat}
use Rattle.format.specs.declared.Fields.{Fields}
use Rattle.format.specs.Format.{numbers, Job, job_bytes, Fits, shape_of}

-- f has the shape of job j's stripe and the contents of its fields 04 and 05
pub record Holds (j : Job) (f : Fields) : Type 0 where
  pub fits : Fits j
  pub shape : f.shape ≡ shape_of j
  pub lost : concat f.lost.now ≡ numbers j.lost
  pub count : length f.lost.now ≡ length j.lost
  pub stripe : f.stripe.now ≡ j.stripe

-- reading finds the job, or that there is none
abbrev pub Reads : List ℕ → Option Fields → Type 0
Reads input (Some f) = (j : Job) × (job_bytes j ≡ input) × Holds j f
Reads input None = (j : Job) → Fits j → job_bytes j ≡ input → ⊥
