-- `xor::all_zero` meets its contract. The loop's invariant: a bit is set exactly where one of the first i bytes has one.
use mathlib.Core.Path.{refl}
use Rattle.xor.proofs.Runs.{gathered_more}
use borrow.Author.Rules.{rules}
use Rattle.xor.proofs.all_zero.Goals as goal

pub loop-i-preserved : goal.loop-i-preserved
loop-i-preserved c = (search rules, gathered_more _ _ _ _ c.loop-i.invariant.1 refl)
