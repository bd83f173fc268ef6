-- `xor::put_run` meets its contract. The loop's invariant: the first i bytes are stored, and no other byte has changed.
use lib.ListN.{get_or}
use Rattle.xor.specs.Runs.{Put}
use Rattle.xor.proofs.put_run.Given as goal

abbrev pub invariant-loop-i : goal.invariant-loop-i
invariant-loop-i l = Put l.initial.s l.to l.i (λ k. get_or l.new k 0) l.s
