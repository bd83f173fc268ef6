-- `equation::Window::own_byte` meets its contract. The places are those of the cells that the equation has by itself.
use mathlib.Core.Path.{◌∙◌}
use Prim.Native.Nat.{◌+◌}
use Rattle.equation.proofs.Windows.{listed_sum}
use Rattle.equation.proofs.Window.own_byte.Goals as goal

pub returns : goal.returns
returns c =
    let w = c.args.self.now in
    c.sum_byte.ensures ∙ listed_sum w.shape w.stripe.now w.at w.n w.inside _ _ _ c.cells_of-count.ensures w.stripe.now (w.at + c.args.i)
