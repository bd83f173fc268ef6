-- `jobs::rebuild_job` meets its contract. The copy is the job's stripe, and the list has the job's numbers.
use Rattle.jobs.proofs.Storing.{stored_all}
use Rattle.jobs.proofs.Answering.{rebuilt}
use Rattle.jobs.proofs.rebuild_job.Goals as goal

pub returns : goal.returns
returns c = λ j h. rebuilt _ j h _ _ _ _ (stored_all _ _ _ c.requires.1 c.put_run.ensures) c.read_lost.ensures c.cells.ensures
