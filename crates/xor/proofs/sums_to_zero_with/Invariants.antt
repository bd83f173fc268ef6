-- `xor::sums_to_zero_with` meets its contract. The loop's invariant: the XOR of the runs and of the other bytes is zero in the blocks that were given.
use mathlib.Core.Path.{◌≡◌}
use Prim.Native.Nat.{◌+◌, ◌≤◌}
use lib.ListN.{get_or}
use Rattle.xor.specs.Xor.{◌⊕◌}
use Rattle.xor.specs.Runs.{sum_at}
use Rattle.xor.proofs.Runs.{Zero}
use Rattle.xor.proofs.sums_to_zero_with.Given as goal

abbrev pub invariant-loop-next : goal.invariant-loop-next
invariant-loop-next l = let blocks = l.next-iterator in (blocks.n ≡ l.n) × (blocks.done ≤ l.n) × Zero (λ t. sum_at l.s l.places (l.at + t) ⊕ get_or l.other t 0) blocks.done
