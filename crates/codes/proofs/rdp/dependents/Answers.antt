-- `codes::rdp::dependents` meets its contract. The row of a data cell is the one equation of those that hold it whose parity cell is summed.
use Rattle.codes.proofs.Depends.{rdp_depends}
use Rattle.codes.proofs.rdp.dependents.Goals as goal

pub returns : goal.returns
returns c = rdp_depends c.args.shape c.requires.0 _ _ c.requires.2 c.requires.1 _ _ c.holders.ensures c.holders-2.ensures
