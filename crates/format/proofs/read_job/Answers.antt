-- `format::read_job` meets its contract. A job with these bytes has its numbers and its end where they were looked for.
use mathlib.Core.Path.{refl}
use native.Mathlib.Omega.{arith}
use Rattle.format.proofs.Reading.{job_ends, holds}
use Rattle.format.proofs.read_job.Goals as goal

pub returns-in_err-lost : goal.returns-in_err-lost
returns-in_err-lost c = rw c.from_residual-in_err-lost.ensures (λ j f e. c.in_err-lost.ensures _ _ (job_ends _ _ _ c.in_ok-shape.ensures j f e))

pub returns : goal.returns
returns c = holds _ _ _ c.in_ok-shape.ensures _ refl c.in_ok-lost.ensures (λ i. omega (arith, c.type_inv.input i))
