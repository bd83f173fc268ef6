-- `lanes::lanes_agree` meets its contract. The loop's invariant: the sets so far sum to zero.
use mathlib.Core.Path.{◌≡◌}
use Prim.Native.Nat.{ℕ, ◌<◌}
use lib.Bits.{bit_and}
use lib.ListN.{get_or}
use Rattle.lanes.specs.Lanes.{lane_sum}
use Rattle.lanes.proofs.lanes_agree.Given as goal

abbrev pub invariant-loop-check : goal.invariant-loop-check
invariant-loop-check l = (j : ℕ) → j < l.check-index → (i : ℕ) → i < l.n → lane_sum l.lanes (bit_and (get_or l.checks j 0) l.failing) i ≡ 0
