-- `stripe::set_parities` meets its contract. Where nothing is shared any bytes will do for it.
use mathlib.Core.Path.{sym, ap, ◌∙◌}
use Prim.Native.Nat.{ℕ}
use native.Mathlib.Omega.{arith}
use lib.ListN.{length-replicate}
use Rattle.codes.specs.Lines.{shares}
use Rattle.equation.proofs.Windows.{new_zeros, unshared}
use Rattle.equation.proofs.Whole.{whole_shares}
use Rattle.stripe.proofs.set_parities.Goals as goal

pub set_parities_with-requires : goal.set_parities_with-requires
set_parities_with-requires c = (c.requires.0, c.requires.1, unshared c.args.shape _ _ _ (sym c.shares.ensures ∙ c.if-not-shares.true) _)

pub put_shared-requires : goal.put_shared-requires
put_shared-requires c =
    let w = c.whole in
    (ap shares w.ensures.shape ∙ sym c.shares.ensures ∙ c.if-not-shares.false, omega (arith, w.ensures.n, c.requires.0.cell_high, length-replicate {A = ℕ} 4096 0), λ i l. new_zeros 4096 i)

pub set_parities_with-requires-2 : goal.set_parities_with-requires-2
set_parities_with-requires-2 c = (c.requires.0, c.requires.1, whole_shares _ _ _ c.whole.ensures _ c.put_shared.ensures.0)
