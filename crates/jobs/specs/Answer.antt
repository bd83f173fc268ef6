-- What a job is answered: document 01, "The job program".
use Rattle.std.specs.Prelude.{◌≡◌, List, [], ◌++◌, ℕ, ◌≤◌, ◌<◌, length, drop, Result, Ok, Err}
use Rattle.std.specs.Borrow.{Bor}
use Rattle.refusals.specs.declared.reason.Refusal.{Refusal}
use Rattle.refusals.specs.Number.{number_of}
use Rattle.rebuild.specs.Rebuild.{RebuildsCells}
use Rattle.format.specs.Format.{no_job_refusal, Job, Fits, job_bytes, shape_of, answer_bytes}

-- the bytes of an answer: with the stripe that is given, or of a refusal
abbrev pub bytes_of : Result (Bor (List ℕ)) Refusal → List ℕ
bytes_of (Ok stripe) = answer_bytes 0 stripe.now
bytes_of (Err refusal) = answer_bytes (number_of refusal) []

-- the output is the answer to job j: what the rebuild of its lost cells answers, and after 0 the stripe that it leaves
pub record Carried (j : Job) (output : List ℕ) : Type 0 where
  pub answer : ℕ
  pub stripe : List ℕ
  pub rebuilds : RebuildsCells (shape_of j) j.lost j.stripe answer stripe
  pub says : output ≡ answer_bytes answer stripe

-- the output is the answer to the input: to the job whose bytes these are; or no_job_refusal where they are no job's
pub data Answers (input output : List ℕ) : Type 0 where
  carried : (j : Job) → Fits j → job_bytes j ≡ input → Carried j output → Answers input output
  no_job : ((j : Job) → Fits j → job_bytes j ≡ input → ⊥) → output ≡ answer_bytes no_job_refusal [] → Answers input output

-- size is how many bytes there are; where the lent bytes have room for them they begin with them and go on as they were, else they are as they were
pub record PutInto (bytes old : List ℕ) (size : ℕ) (new : List ℕ) : Type 0 where
  pub long : size ≡ length bytes
  pub room : size ≤ length old → new ≡ bytes ++ drop size old
  pub narrow : length old < size → new ≡ old

-- the call: it tells how long the answer to the input is, and puts it into the lent bytes where there is room
pub record AnswersInto (input old : List ℕ) (size : ℕ) (new : List ℕ) : Type 0 where
  pub output : List ℕ
  pub answers : Answers input output
  pub put : PutInto output old size new
