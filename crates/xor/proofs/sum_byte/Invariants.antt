-- `xor::sum_byte` meets its contract. The loop's invariant: byte t of the first runs is XORed in.
use mathlib.Core.Path.{◌≡◌}
use Rattle.xor.proofs.Runs.{sum_to}
use Rattle.xor.proofs.sum_byte.Given as goal

abbrev pub invariant-loop-place : goal.invariant-loop-place
invariant-loop-place l = l.sum ≡ sum_to l.s l.places l.place-index l.t
