-- `codes::evenodd::parity` meets its contract. Parity cells lie one after the other.
use Rattle.codes.proofs.Whole.{evenodd_lies}
use Rattle.codes.proofs.evenodd.parity.Goals as goal

pub returns : goal.returns
returns c = evenodd_lies c.args.shape c.requires.0 c.requires.1 c.args.q c.requires.2
