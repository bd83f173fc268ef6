-- `lanes::put_totals` meets its contract. What is shared is summed before the equations, into zeros; where nothing is, any bytes will do for it.
use mathlib.Core.Path.{sym, ◌∙◌}
use Prim.Native.Nat.{ℕ}
use native.Mathlib.Omega.{arith}
use lib.ListN.{length-replicate}
use Rattle.equation.proofs.Windows.{new_zeros, unshared}
use Rattle.lanes.proofs.put_totals.Goals as goal

pub put_totals_with-requires : goal.put_totals_with-requires
put_totals_with-requires c = (c.requires.0, c.requires.1, unshared c.args.window.now.shape _ _ _ (sym c.shares.ensures ∙ c.if-not-shares.true) _)

pub put_shared-requires : goal.put_shared-requires
put_shared-requires c = (sym c.shares.ensures ∙ c.if-not-shares.false, omega (arith, c.requires.0.few, length-replicate {A = ℕ} 512 0), λ i l. new_zeros 512 i)
