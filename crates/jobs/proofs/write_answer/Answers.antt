-- `jobs::write_answer` meets its contract. Without room nothing is stored; with room field 06, and field 05 after 0.
use native.Mathlib.Omega.{arith}
use Rattle.jobs.proofs.Storing.{size_given, size_refused, written_given, written_refused}
use Rattle.jobs.proofs.write_answer.Goals as goal

pub put_field-requires : goal.put_field-requires
put_field-requires c = (omega arith, omega (arith, size_given _ _ c.in-Ok.is))

pub put_field-requires-in-Ok : goal.put_field-requires-in-Ok
put_field-requires-in-Ok c = let size = size_given _ _ c.in-Ok.is in (omega (arith, size), omega (arith, size))

pub put_field-requires-in-Err : goal.put_field-requires-in-Err
put_field-requires-in-Err c = (omega arith, omega (arith, size_refused _ _ c.in-Err.is))

pub returns-in-Ok : goal.returns-in-Ok
returns-in-Ok c = written_given _ _ c.in-Ok.is _ _ _ _ c.answer_size-size.ensures c.if-output-size.false c.put_field.ensures c.put_field-in-Ok.ensures

pub returns-in-Err : goal.returns-in-Err
returns-in-Err c = written_refused _ _ c.in-Err.is _ _ _ _ c.from.ensures c.answer_size-size.ensures c.if-output-size.false c.put_field-in-Err.ensures
