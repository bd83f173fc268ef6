-- `equation::Window::failing_byte` meets its contract. Where it takes in nothing the XOR of the runs of its own cells is its total in each byte.
use mathlib.Core.Path.{sym, ◌∙◌}
use Prim.Native.Nat.{◌+◌}
use Rattle.codes.proofs.Shared.{own_total_lem}
use Rattle.equation.specs.Window.{bytes_at}
use Rattle.equation.proofs.Windows.{listed_sum, failing_some, failing_at}
use Rattle.equation.proofs.Window.failing_byte.Goals as goal

pub unwrap-requires : goal.unwrap-requires
unwrap-requires c =
    let bytes = c.args.self.now.stripe.now in
    failing_some c.args.self.now.shape bytes c.args.q c.args.self.now.at c.args.self.now.n _
    (λ i l. listed_sum c.args.self.now.shape bytes c.args.self.now.at c.args.self.now.n c.args.self.now.inside _ _ _ c.cells_of-count.ensures bytes (c.args.self.now.at + i)
    ∙ own_total_lem c.args.self.now.shape c.args.q (sym c.takes_shared.ensures ∙ c.if-takes_shared.false) (bytes_at c.args.self.now.shape bytes (c.args.self.now.at + i)))
    _ c.requires.1 c.nonzero_at.ensures

pub returns : goal.returns
returns c =
    let bytes = c.args.self.now.stripe.now in
    failing_at c.args.self.now.shape bytes c.args.q c.args.self.now.at c.args.self.now.n _
    (λ i l. listed_sum c.args.self.now.shape bytes c.args.self.now.at c.args.self.now.n c.args.self.now.inside _ _ _ c.cells_of-count.ensures bytes (c.args.self.now.at + i)
    ∙ own_total_lem c.args.self.now.shape c.args.q (sym c.takes_shared.ensures ∙ c.if-takes_shared.false) (bytes_at c.args.self.now.shape bytes (c.args.self.now.at + i)))
    _ _ c.unwrap.ensures c.nonzero_at.ensures
