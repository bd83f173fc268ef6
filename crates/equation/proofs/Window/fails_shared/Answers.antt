-- `equation::Window::fails_shared` meets its contract. It fails where the XOR of its own cells and of what is shared is not zero.
use mathlib.Core.Path.{ap₂, ◌∙◌}
use Prim.Native.Nat.{◌+◌}
use native.Mathlib.Omega.{arith}
use Rattle.xor.specs.Xor.{◌⊕◌}
use Rattle.codes.proofs.Shared.{takes_shares, shared_total}
use Rattle.equation.specs.Window.{bytes_at}
use Rattle.equation.proofs.Windows.{listed_inside, listed_sum, fails_by}
use Rattle.equation.proofs.Window.fails_shared.Goals as goal

pub sums_to_zero_with-requires : goal.sums_to_zero_with-requires
sums_to_zero_with-requires c =
    let a = c.args in
    let w = c.args.self.now.inside in
    (listed_inside a.self.now.shape a.self.now.stripe.now a.self.now.at a.self.now.n w _ _ _ c.cells_of-count.ensures, omega (arith, w.ends, w.formed.cell_high), c.requires.2.long (takes_shares a.self.now.shape a.q c.requires.1))

pub returns : goal.returns
returns c =
    let a = c.args in
    fails_by a.self.now.shape a.self.now.stripe.now a.q a.self.now.at a.self.now.n _
    (λ i l. ap₂ ◌⊕◌ (listed_sum a.self.now.shape a.self.now.stripe.now a.self.now.at a.self.now.n c.args.self.now.inside _ _ _ c.cells_of-count.ensures a.self.now.stripe.now (a.self.now.at + i))
    (c.requires.2.is (takes_shares a.self.now.shape a.q c.requires.1) i l)
    ∙ shared_total a.self.now.shape c.args.self.now.inside.formed a.q c.requires.1 (bytes_at a.self.now.shape a.self.now.stripe.now (a.self.now.at + i)))
    _ c.sums_to_zero_with.ensures
