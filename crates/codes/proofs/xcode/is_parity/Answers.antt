-- `codes::xcode::is_parity` meets its contract. Parity is in the last two rows.
use Rattle.codes.proofs.Positions.{xcode_parity}
use Rattle.codes.proofs.xcode.is_parity.Goals as goal

pub returns : goal.returns
returns c = xcode_parity c.args.shape c.requires.0 c.requires.1 _ _ c.requires.2 c.requires.3
