-- `jobs::carry_out` meets its contract. The job is answered as the rebuild of its lost cells is.
use Rattle.jobs.proofs.Answering.{carried_given, carried_refused}
use Rattle.jobs.proofs.carry_out.Goals as goal

pub returns-in_err-rebuild_job : goal.returns-in_err-rebuild_job
returns-in_err-rebuild_job c = λ j h. carried_refused j _ _ (c.in_err-rebuild_job.ensures j h) _ c.from_residual.ensures.1

pub returns : goal.returns
returns c = λ j h. carried_given j _ (c.in_ok-rebuild_job.ensures j h)
