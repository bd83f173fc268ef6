-- `spare::short::leave_out` meets its contract. The loop's invariant: among the first j places the last one stands in for the lost cell's.
use native.Mathlib.Omega.{arith}
use Rattle.spare.proofs.LeftOut.{others_none, others_more, others_end}
use Rattle.spare.proofs.short.leave_out.Goals as goal

pub loop-j-init : goal.loop-j-init
loop-j-init c = others_none _ _ _ c.requires.1

pub loop-j-preserved : goal.loop-j-preserved
loop-j-preserved c = others_more _ _ _ _ _ _ (omega (arith, c.requires.0)) c.loop-j.invariant c.stand_in.ensures

pub returns : goal.returns
returns c = others_end _ _ _ _ _ _ (omega arith) c.loop-j.invariant
