-- `codes::pair` meets its contract. Two members.
use Rattle.codes.proofs.Held.{pair_is}
use Rattle.codes.proofs.pair.Goals as goal

pub returns : goal.returns
returns c = pair_is c.args.shape _ _ _ _ c.requires.1 c.requires.2 c.one_bit.ensures c.one_bit-2.ensures
