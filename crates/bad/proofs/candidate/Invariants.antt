-- `bad::candidate` meets its contract. The outer loop's invariant: no column below c explains values with these totals.
-- The inner loop's: nothing is left in the first q equations, and c is still the column of this turn.
use mathlib.Core.Path.{◌≡◌}
use Prim.Native.Nat.{◌-◌, ◌≤◌}
use lib.ListN.{get_or}
use Rattle.xor.proofs.Runs.{Zero}
use Rattle.bad.proofs.Explained.{NoneBelow}
use Rattle.bad.proofs.candidate.Given as goal

abbrev pub invariant-loop-q : goal.invariant-loop-q
invariant-loop-q l = Zero (λ k. get_or l.rest k 0) l.q × (l.d ≡ l.initial.d)

abbrev pub invariant-columns : goal.invariant-columns
invariant-columns l = NoneBelow l.shape l.totals l.d × (l.d ≤ l.disks)

abbrev pub decreases-columns : goal.decreases-columns
decreases-columns l = l.disks - l.d
