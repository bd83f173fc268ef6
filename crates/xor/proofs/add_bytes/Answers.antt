-- `xor::add_bytes` meets its contract. The loop's invariant: the first i bytes are XORed in, and the others are as they were.
use mathlib.Core.Path.{refl}
use Rattle.xor.proofs.Runs.{added_more}
use borrow.Author.Rules.{rules}
use Rattle.xor.proofs.add_bytes.Goals as goal

pub loop-i-preserved : goal.loop-i-preserved
loop-i-preserved c = (
  search rules,
  added_more _ _ _ _ _ (search rules) c.loop-i.invariant.1 refl,
)
