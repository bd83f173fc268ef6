-- `job::answer` meets its contract. No answer is longer than the array that it is written to.
use mathlib.Core.Path.{sym}
use Prim.Native.Nat.{ℕ}
use lib.ListN.{length-replicate}
use lib.Seq.{length-take-le}
use Rattle.jobs.proofs.AnswerFacts.{answer_inside}
use Rattle.job.proofs.answer.Goals as goal

pub slice_bounds-output-end : goal.slice_bounds-output-end
slice_bounds-output-end g c = answer_inside _ _ _ _ c.answer-size.ensures (length-replicate {A = ℕ} 32775 0)

pub slice_bounds-write_all-end : goal.slice_bounds-write_all-end
slice_bounds-write_all-end g c = sym (length-take-le _ c.answer-size.new.output (answer_inside _ _ _ _ c.answer-size.ensures (length-replicate {A = ℕ} 32775 0)))
