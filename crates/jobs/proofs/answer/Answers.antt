-- `jobs::answer` meets its contract. Where there is no job the answer says so; else it is that of carrying out the job. No answer is longer than
-- 32,775 bytes.
use mathlib.Core.Path.{refl, subst}
use native.Mathlib.Omega.{arith}
use Rattle.format.specs.Format.{two_bytes_of, field, answer_bytes}
use Rattle.format.specs.Reading.{Reads}
use Rattle.jobs.specs.Answer.{no_job}
use Rattle.jobs.proofs.AnswerFacts.{output_most}
use Rattle.jobs.proofs.Answering.{answers_job}
use Rattle.jobs.proofs.answer.Goals as goal

pub write_answer-requires : goal.write_answer-requires
unfolding answer_bytes field two_bytes_of
write_answer-requires c = omega arith

pub returns-in_default : goal.returns-in_default
returns-in_default c = record {
  output = _;
  answers = no_job (subst (Reads _) c.in_default.is c.read_job.ensures) refl;
  put = c.write_answer.ensures;
}

pub write_answer-requires-2 : goal.write_answer-requires-2
write_answer-requires-2 c = output_most _ _ (answers_job _ _ (subst (Reads _) c.in-Some.is c.read_job.ensures) _ c.carry_out-answer.ensures)

pub returns : goal.returns
returns c = record {
  output = _;
  answers = answers_job _ _ (subst (Reads _) c.in-Some.is c.read_job.ensures) _ c.carry_out-answer.ensures;
  put = c.write_answer-2.ensures;
}
