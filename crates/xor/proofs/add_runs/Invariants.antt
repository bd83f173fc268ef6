-- `xor::add_runs` meets its contract. The loop's invariant: the bytes of the first runs are XORed in.
use mathlib.Core.Path.{◌≡◌}
use Prim.Native.Nat.{◌+◌}
use lib.ListN.{length}
use Rattle.xor.specs.Runs.{Added}
use Rattle.xor.proofs.Runs.{sum_to}
use Rattle.xor.proofs.add_runs.Given as goal

abbrev pub invariant-loop-place : goal.invariant-loop-place
invariant-loop-place l = (length l.initial.added ≡ 128) × Added l.initial.added l.n (λ i. sum_to l.s l.places l.place-index (l.at + i)) l.added
