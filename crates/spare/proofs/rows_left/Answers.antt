-- `spare::rows_left` meets its contract: RDP has p - 1 rows.
use Rattle.spare.proofs.Budget.{left_is}
use Rattle.spare.proofs.rows_left.Goals as goal

pub returns : goal.returns
returns c = left_is c.args.shape c.requires.0 c.requires.1 c.args.first
