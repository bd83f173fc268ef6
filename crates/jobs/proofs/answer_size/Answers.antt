-- `jobs::answer_size` meets its contract.
use native.Mathlib.Omega.{arith}
use Rattle.jobs.proofs.Storing.{size_given, size_refused}
use Rattle.jobs.proofs.answer_size.Goals as goal

pub returns-in-Ok : goal.returns-in-Ok
returns-in-Ok c = omega (arith, size_given _ _ c.in-Ok.is)

pub returns-in-Err : goal.returns-in-Err
returns-in-Err c = omega (arith, size_refused _ _ c.in-Err.is)
