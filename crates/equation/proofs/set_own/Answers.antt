-- `equation::set_own` meets its contract. The window of the parity cell becomes the XOR of those of the cells that the equation sums by itself.
use Rattle.equation.proofs.Windows.{own_set}
use Rattle.equation.proofs.set_own.Goals as goal

pub returns : goal.returns
returns c =
    let a = c.args in
    own_set a.shape a.stripe.now a.at a.n c.requires.0 a.q _ _ c.sources_of-to.ensures c.requires.1 _ _ c.put_sum.ensures
