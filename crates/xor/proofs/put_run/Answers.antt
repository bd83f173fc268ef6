-- `xor::put_run` meets its contract. The loop's invariant: the first i bytes are stored, and no other byte has changed.
use mathlib.Core.Path.{refl}
use native.Mathlib.Omega.{arith}
use Rattle.xor.proofs.Runs.{put_more}
use Rattle.xor.proofs.put_run.Goals as goal

pub loop-i-preserved : goal.loop-i-preserved
loop-i-preserved c = put_more _ _ _ _ _ _ (let w = c.loop-i.invariant.long in omega arith) c.loop-i.invariant refl
