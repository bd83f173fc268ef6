-- `equation::Window::total_byte` meets its contract. What the equation has by itself, and what it takes in.
use mathlib.Core.Path.{sym, ap₂, ◌∙◌}
use Rattle.xor.specs.Xor.{◌⊕◌}
use Rattle.equation.specs.InWindow.{bytes_in}
use Rattle.codes.proofs.Shared.{takes_shares, own_total_lem, shared_total}
use Rattle.equation.proofs.Window.total_byte.Goals as goal

pub returns-then-takes_shared : goal.returns-then-takes_shared
unfolding ◌⊕◌
returns-then-takes_shared c =
    let w = c.args.self.now in
    let takes = sym c.takes_shared.ensures ∙ c.if-takes_shared.true in
    ap₂ ◌⊕◌ c.own_byte-own.ensures (c.requires.2 (takes_shares w.shape c.args.q takes)) ∙ shared_total w.shape w.inside.formed c.args.q takes (bytes_in w c.args.i)

pub returns : goal.returns
returns c = let w = c.args.self.now in c.own_byte-own.ensures ∙ own_total_lem w.shape c.args.q (sym c.takes_shared.ensures ∙ c.if-takes_shared.false) (bytes_in w c.args.i)
