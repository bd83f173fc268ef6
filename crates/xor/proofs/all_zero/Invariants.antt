-- `xor::all_zero` meets its contract. The loop's invariant: a bit is set exactly where one of the first i bytes has one.
use mathlib.Core.Path.{◌≡◌}
use lib.ListN.{length, get_or}
use Rattle.xor.proofs.Runs.{Gathered}
use Rattle.xor.proofs.all_zero.Given as goal

abbrev pub invariant-loop-i : goal.invariant-loop-i
invariant-loop-i l = (length l.block ≡ 128) × Gathered l.i (λ k. get_or l.block k 0) l.bits
