-- `equation::Window::shared_byte` meets its contract. The places are those of the shared cells.
use mathlib.Core.Path.{sym, ◌∙◌}
use Prim.Native.Nat.{◌+◌}
use Rattle.xor.proofs.Cases.{clash}
use Rattle.equation.proofs.Windows.{listed_sum}
use Rattle.equation.proofs.Window.shared_byte.Goals as goal

pub returns-then-not-shares : goal.returns-then-not-shares
returns-then-not-shares c = λ h. clash h (sym c.shares.ensures ∙ c.if-not-shares.true)

pub returns : goal.returns
returns c =
    let w = c.args.self.now in
    λ h. c.sum_byte.ensures ∙ listed_sum w.shape w.stripe.now w.at w.n w.inside _ _ _ c.shared_cells-count.ensures w.stripe.now (w.at + c.args.i)
