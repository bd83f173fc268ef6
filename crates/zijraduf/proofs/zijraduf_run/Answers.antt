-- `zijraduf::zijraduf_run` meets its contract. The shape is that of the numbers, and the numbers are those of the call's answer.
use Rattle.zijraduf.proofs.zijraduf_run.Goals as goal

pub returns : goal.returns
returns c = record { shape = c.into.result; is = c.into.ensures; so = record { given = c.run-answer.result; allowed = c.run-answer.ensures; is = c.into-2.ensures } }
