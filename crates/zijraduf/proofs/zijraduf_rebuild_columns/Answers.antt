-- `zijraduf::zijraduf_rebuild_columns` meets its contract. The shape is that of the numbers, and the number that of the call's answer.
use Rattle.zijraduf.proofs.zijraduf_rebuild_columns.Goals as goal

pub returns : goal.returns
returns c = record { shape = c.into.result; is = c.into.ensures; so = rw c.number.ensures c.columns.ensures }
