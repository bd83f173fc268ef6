-- `equation::Window::fails` meets its contract. It fails where the XOR of its cells is not zero.
use mathlib.Core.Path.{◌∙◌}
use Prim.Native.Nat.{◌+◌}
use Rattle.codes.proofs.Shared.{own_total_lem}
use Rattle.equation.specs.Window.{bytes_at}
use Rattle.equation.proofs.Windows.{listed_sum, fails_by}
use Rattle.equation.proofs.Window.fails.Goals as goal

pub returns : goal.returns
returns c =
    let a = c.args in
    fails_by a.self.now.shape a.self.now.stripe.now a.q a.self.now.at a.self.now.n _
    (λ i l. listed_sum a.self.now.shape a.self.now.stripe.now a.self.now.at a.self.now.n c.args.self.now.inside _ _ _ c.cells_of-count.ensures a.self.now.stripe.now (a.self.now.at + i)
    ∙ own_total_lem a.self.now.shape a.q c.requires.1 (bytes_at a.self.now.shape a.self.now.stripe.now (a.self.now.at + i)))
    _ c.sums_to_zero.ensures
