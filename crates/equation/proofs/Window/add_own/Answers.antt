-- `equation::Window::add_own` meets its contract. The places are those of the cells that the equation has by itself.
use Rattle.equation.proofs.Windows.{listed_added}
use Rattle.equation.proofs.Window.add_own.Goals as goal

pub returns : goal.returns
returns c = listed_added c.args.self.now.shape c.args.self.now.stripe.now c.args.self.now.at c.args.self.now.n c.args.self.now.inside _ _ _ c.cells_of-count.ensures _ _ 0 c.add_sum.ensures.put
