-- `equation::Window::first_failing` meets its contract. Where nothing is shared any bytes will do for it.
use mathlib.Core.Path.{sym, ◌∙◌}
use Prim.Native.Nat.{ℕ}
use native.Mathlib.Omega.{arith}
use lib.ListN.{length-replicate}
use Rattle.equation.proofs.Windows.{new_zeros}
use Rattle.equation.proofs.Window.first_failing.Goals as goal

pub put_shared-requires : goal.put_shared-requires
put_shared-requires c = (sym c.shares.ensures ∙ c.if-not-shares.false, omega (arith, c.args.self.now.inside.ends, c.args.self.now.inside.formed.cell_high, length-replicate {A = ℕ} 4096 0), λ i l. new_zeros 4096 i)
