-- `equation::Window::put_total` meets its contract. What the equation has by itself is put first; then what it takes in is added.
use mathlib.Core.Path.{sym, ◌∙◌}
use native.Mathlib.Omega.{arith}
use Rattle.codes.proofs.Shared.{takes_shares}
use Rattle.equation.proofs.Windows.{total_plain, total_shared}
use Rattle.equation.proofs.Window.put_total.Goals as goal

pub returns-then-not-takes_shared : goal.returns-then-not-takes_shared
returns-then-not-takes_shared c = total_plain c.args.self.now.shape c.args.self.now.stripe.now c.args.self.now.at c.args.self.now.n c.args.self.now.inside.formed c.args.q (sym c.takes_shared.ensures ∙ c.if-not-takes_shared.true) _ _ c.args.to _ c.put_own-own.ensures

pub add_shared-all-requires : goal.add_shared-all-requires
add_shared-all-requires c = (omega (arith, c.requires.1, c.put_own-own.ensures.put.long), c.requires.2.long (takes_shares c.args.self.now.shape c.args.q (sym c.takes_shared.ensures ∙ c.if-not-takes_shared.false)))

pub returns : goal.returns
returns c =
    let takes = sym c.takes_shared.ensures ∙ c.if-not-takes_shared.false in
    total_shared c.args.self.now.shape c.args.self.now.stripe.now c.args.self.now.at c.args.self.now.n c.args.self.now.inside.formed c.args.q takes c.args.shared.now c.requires.2 _ _ _ c.args.to _ c.put_own-own.ensures.put c.add_shared-all.ensures
