-- `equation::Window::put_own` meets its contract. The places are those of the cells that the equation has by itself.
use Rattle.equation.proofs.Windows.{listed_summed}
use Rattle.equation.proofs.Window.put_own.Goals as goal

pub returns : goal.returns
returns c =
    let a = c.args in
    listed_summed a.self.now.shape a.self.now.stripe.now a.self.now.at a.self.now.n c.args.self.now.inside _ _ _ c.cells_of-count.ensures _ _ a.to _ c.put_sum_from.ensures
