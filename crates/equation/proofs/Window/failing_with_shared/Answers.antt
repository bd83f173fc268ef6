-- `equation::Window::failing_with_shared` meets its contract. The buffer has the equation's total in each byte.
use Prim.Native.Nat.{ℕ}
use native.Mathlib.Omega.{arith}
use lib.ListN.{length-replicate}
use Rattle.codes.proofs.Shared.{takes_shares}
use Rattle.equation.proofs.Windows.{new_zeros, buffer_some, buffer_failing}
use Rattle.equation.proofs.Window.failing_with_shared.Goals as goal

pub put_shared-requires : goal.put_shared-requires
put_shared-requires c = (takes_shares c.args.self.now.shape c.args.q c.requires.2, omega (arith, c.args.self.now.inside.ends, c.args.self.now.inside.formed.cell_high, length-replicate {A = ℕ} 4096 0), λ i l. new_zeros 4096 i)

pub unwrap-requires : goal.unwrap-requires
unwrap-requires c = buffer_some c.args.self.now.shape c.args.self.now.stripe.now c.args.q c.args.self.now.at c.args.self.now.n c.args.self.now.inside.formed c.requires.2 _ _ c.put_shared.ensures.0 c.add_own.ensures _ c.requires.1 c.nonzero_at.ensures

pub returns : goal.returns
returns c = buffer_failing c.args.self.now.shape c.args.self.now.stripe.now c.args.q c.args.self.now.at c.args.self.now.n c.args.self.now.inside.formed c.requires.2 _ _ c.put_shared.ensures.0 c.add_own.ensures _ _ c.unwrap.ensures c.nonzero_at.ensures
