-- `xor::add_sum` meets its contract. The loop's invariant: the sum is in up to `done`, and the bytes further on are as they were.
use Prim.Native.Nat.{◌-◌, ◌≤◌}
use Rattle.xor.specs.Runs.{added_to, Summed}
use Rattle.xor.proofs.add_sum.Given as goal

abbrev pub invariant-loop-done : goal.invariant-loop-done
invariant-loop-done l = (l.done ≤ l.n) × Summed l.initial.d l.to l.done (added_to l.initial.d l.to l.s l.places l.at) l.d l.zero

abbrev pub decreases-loop-done : goal.decreases-loop-done
decreases-loop-done l = l.n - l.done
