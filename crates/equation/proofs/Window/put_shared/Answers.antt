-- `equation::Window::put_shared` meets its contract. The places are those of the shared cells.
use Rattle.equation.proofs.Windows.{listed_added, shared_put}
use Rattle.equation.proofs.Window.put_shared.Goals as goal

pub returns : goal.returns
returns c =
    let put = c.add_sum.ensures.put in
    (shared_put c.args.self.now.shape c.args.self.now.stripe.now c.args.self.now.at c.args.self.now.n _ _ c.requires.1 c.requires.2 (listed_added c.args.self.now.shape c.args.self.now.stripe.now c.args.self.now.at c.args.self.now.n c.args.self.now.inside _ _ _ c.shared_cells-count.ensures _ _ 0 put), put.long)
