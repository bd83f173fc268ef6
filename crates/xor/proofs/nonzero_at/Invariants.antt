-- `xor::nonzero_at` meets its contract. The loop's invariant: the XOR of the runs is zero in the blocks that were given.
use mathlib.Core.Path.{◌≡◌}
use Prim.Native.Nat.{◌+◌, ◌≤◌}
use Rattle.xor.specs.Runs.{sum_at}
use Rattle.xor.proofs.Runs.{Zero}
use Rattle.xor.proofs.nonzero_at.Given as goal

abbrev pub invariant-loop-next : goal.invariant-loop-next
invariant-loop-next l = let blocks = l.next-iterator in (blocks.n ≡ l.n) × (blocks.done ≤ l.n) × Zero (λ t. sum_at l.s l.places (l.at + t)) blocks.done
