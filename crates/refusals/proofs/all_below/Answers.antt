-- `refusals::all_below` meets its contract.
use Rattle.std.proofs.Common.{rules}
use Rattle.refusals.proofs.all_below.Goals as goal

pub returns : goal.returns
returns c = search rules
