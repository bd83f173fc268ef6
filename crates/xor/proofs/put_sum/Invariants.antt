-- `xor::put_sum` meets its contract. The loop's invariant: the run is summed in the blocks that were given, from runs that are as they were, since they are apart from it.
use mathlib.Core.Path.{◌≡◌}
use Prim.Native.Nat.{◌+◌, ◌≤◌}
use Rattle.xor.specs.Runs.{sum_at, Summed}
use Rattle.xor.proofs.put_sum.Given as goal

abbrev pub invariant-loop-next : goal.invariant-loop-next
invariant-loop-next l = let blocks = l.next-iterator in (blocks.n ≡ l.n) × (blocks.done ≤ l.n) × Summed l.initial.s (l.to + l.at) blocks.done (λ t. sum_at l.initial.s l.places (l.at + t)) l.s l.zero
