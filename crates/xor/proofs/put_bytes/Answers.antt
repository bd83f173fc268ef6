-- `xor::put_bytes` meets its contract. The loop's invariant: the first i bytes are stored, no other byte has changed, and a bit is set exactly where one of them has one.
use mathlib.Core.Path.{refl}
use native.Mathlib.Omega.{arith}
use Rattle.xor.proofs.Runs.{gathered_more, put_more}
use Rattle.xor.proofs.put_bytes.Goals as goal

pub loop-i-preserved : goal.loop-i-preserved
loop-i-preserved c = (put_more _ _ _ _ _ _ (let w = c.loop-i.invariant.0.long in omega arith) c.loop-i.invariant.0 refl, gathered_more _ _ _ _ c.loop-i.invariant.1 refl)
