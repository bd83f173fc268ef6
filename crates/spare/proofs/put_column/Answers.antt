-- `spare::put_column` meets its contract: two slots are set, and those of other columns are other slots.
use Rattle.spare.proofs.Tables.{column_put}
use Rattle.spare.proofs.put_column.Goals as goal

pub returns : goal.returns
returns c = let pre = c.requires in column_put _ _ _ _ _ pre.0 pre.1 pre.2
