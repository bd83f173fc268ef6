-- `codes::rdp::is_parity` meets its contract. Parity is in the last two columns.
use Rattle.codes.proofs.Positions.{rdp_parity}
use Rattle.codes.proofs.rdp.is_parity.Goals as goal

pub returns : goal.returns
returns c = rdp_parity c.args.shape c.requires.0 c.requires.1 _ _ c.requires.2 c.requires.3
