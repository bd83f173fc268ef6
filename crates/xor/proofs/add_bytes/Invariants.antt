-- `xor::add_bytes` meets its contract. The loop's invariant: the first i bytes are XORed in, and the others are as they were.
use mathlib.Core.Path.{◌≡◌}
use Prim.Native.Nat.{◌+◌}
use lib.ListN.{length, get_or}
use Rattle.xor.specs.Runs.{Added}
use Rattle.xor.proofs.add_bytes.Given as goal

abbrev pub invariant-loop-i : goal.invariant-loop-i
invariant-loop-i l = (length l.initial.added ≡ 128) × Added l.initial.added l.i (λ k. get_or l.s (l.at + k) 0) l.added
