-- `codes::rdp::parity` meets its contract. Parity cells lie one after the other.
use Rattle.codes.proofs.Short.{rdp_parity_lies}
use Rattle.codes.proofs.rdp.parity.Goals as goal

pub returns : goal.returns
returns c = rdp_parity_lies c.args.shape c.requires.0 c.requires.1 c.args.q c.requires.2 _ c.data_columns.ensures
