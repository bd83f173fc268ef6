-- `refusals::check_shape` meets its contract. What is wrong with the code or the prime comes first, then the cell size.
use mathlib.Core.Path.{sym}
use Rattle.std.proofs.Common.{rules}
use Rattle.refusals.proofs.Answer.{not_none}
use Rattle.refusals.proofs.Refused.{shape_after, size_gives}
use Rattle.refusals.proofs.check_shape.Goals as goal

pub returns-in_err-check_code : goal.returns-in_err-check_code
returns-in_err-check_code c = let e = (shape_after c.args.shape).earlier c.in_err-check_code.ensures (not_none _) in search rules

pub returns : goal.returns
returns c = let s = c.args.shape in (shape_after s).own (sym c.in_ok-check_code.ensures) (size_gives s c.check_size.ensures)
