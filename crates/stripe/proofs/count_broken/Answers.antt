-- `stripe::count_broken` meets its contract. Where nothing is shared any bytes will do for it.
use mathlib.Core.Path.{sym, ap, ◌∙◌}
use Prim.Native.Nat.{ℕ}
use native.Mathlib.Omega.{arith}
use lib.ListN.{length-replicate}
use Rattle.codes.specs.Lines.{shares}
use Rattle.equation.proofs.Windows.{new_zeros, unshared}
use Rattle.stripe.proofs.BrokenFacts.{counted_all}
use Rattle.stripe.proofs.count_broken.Goals as goal

pub count_failing-requires : goal.count_failing-requires
count_failing-requires c = let w = c.whole-window in unshared w.result.shape _ _ _ (ap shares w.ensures.shape ∙ sym c.shares.ensures ∙ c.if-not-shares.true) _

pub returns-then-not-shares : goal.returns-then-not-shares
returns-then-not-shares c = counted_all c.args.shape c.args.stripe.now _ c.whole-window.ensures _ c.count_failing.ensures

pub put_shared-requires : goal.put_shared-requires
put_shared-requires c =
    let w = c.whole-window in
    (ap shares w.ensures.shape ∙ sym c.shares.ensures ∙ c.if-not-shares.false, omega (arith, w.ensures.n, c.requires.0.cell_high, length-replicate {A = ℕ} 4096 0), λ i l. new_zeros 4096 i)

pub returns : goal.returns
returns c = counted_all c.args.shape c.args.stripe.now _ c.whole-window.ensures _ c.count_failing-2.ensures
