-- `codes::named` meets its contract. Two members, cut to the numbers of equations.
use Rattle.codes.proofs.Held.{named_is}
use Rattle.codes.proofs.named.Goals as goal

pub returns : goal.returns
returns c = named_is c.args.shape _ _ _ _ _ _ c.one_bit.ensures c.one_bit-2.ensures c.equation_count.ensures c.one_bit-3.ensures
