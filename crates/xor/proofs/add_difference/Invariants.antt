-- `xor::add_difference` meets its contract. The loop's invariant: k blocks of the difference are in, and the bytes that it is made of further on are as they were.
use Prim.Native.Nat.{◌*◌}
use Rattle.xor.specs.Runs.{changed_by, Summed}
use Rattle.xor.proofs.add_difference.Given as goal

abbrev pub invariant-loop-k : goal.invariant-loop-k
invariant-loop-k l = Summed l.initial.s l.to (l.k * 128) (changed_by l.initial.s l.to l.from l.new) l.s l.zero
