-- `codes::evenodd::is_parity` meets its contract. Parity is in the last two columns.
use Rattle.codes.proofs.Positions.{evenodd_parity}
use Rattle.codes.proofs.evenodd.is_parity.Goals as goal

pub returns : goal.returns
returns c = evenodd_parity c.args.shape c.requires.0 c.requires.1 _ _ c.requires.2 c.requires.3
