-- `xor::put_bytes` meets its contract. The loop's invariant: the first i bytes are stored, no other byte has changed, and a bit is set exactly where one of them has one.
use lib.ListN.{get_or}
use Rattle.xor.specs.Runs.{Put}
use Rattle.xor.proofs.Runs.{Gathered}
use Rattle.xor.proofs.put_bytes.Given as goal

abbrev pub invariant-loop-i : goal.invariant-loop-i
invariant-loop-i l = Put l.initial.s l.at l.i (λ k. get_or l.block k 0) l.s × Gathered l.i (λ k. get_or l.block k 0) l.stored
