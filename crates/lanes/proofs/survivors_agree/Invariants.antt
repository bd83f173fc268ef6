-- `lanes::survivors_agree` meets its contract. The loop's invariant: of n bytes from `at` on the first `done` pass.
use mathlib.Core.Path.{◌≡◌}
use lib.ListN.{length}
use Rattle.lanes.proofs.Lanes.{PassesTo}
use Rattle.lanes.proofs.survivors_agree.Given as goal

abbrev pub invariant-loop-done : goal.invariant-loop-done
invariant-loop-done l = PassesTo l.window.shape l.window.stripe.now (length l.checks) l.checks l.window.at l.window.n l.done × (length l.lanes ≡ 32768)
