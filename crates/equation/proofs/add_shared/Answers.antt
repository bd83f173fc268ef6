-- `equation::add_shared` meets its contract. One run, at the first place, is added.
use Rattle.equation.proofs.Windows.{one_added}
use Rattle.equation.proofs.add_shared.Goals as goal

pub returns : goal.returns
returns c = one_added c.args.shared.now _ _ c.args.to c.args.n _ c.add_sum.ensures
