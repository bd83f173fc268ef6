-- `xor::put_sum_from` meets its contract. The loop's invariant: the run is stored in the blocks that were given.
use mathlib.Core.Path.{◌≡◌}
use Prim.Native.Nat.{◌+◌, ◌≤◌}
use Rattle.xor.specs.Runs.{sum_at, Summed}
use Rattle.xor.proofs.put_sum_from.Given as goal

abbrev pub invariant-loop-next : goal.invariant-loop-next
invariant-loop-next l = let blocks = l.next-iterator in (blocks.n ≡ l.n) × (blocks.done ≤ l.n) × Summed l.initial.d l.to blocks.done (λ t. sum_at l.s l.places (l.at + t)) l.d l.zero
