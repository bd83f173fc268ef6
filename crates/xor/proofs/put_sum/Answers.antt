-- `xor::put_sum` meets its contract. The loop's invariant: the run is summed in the blocks that were given, from runs that are as they were, since they are apart from it.
use mathlib.Core.Path.{sym, ◌∙◌}
use native.Mathlib.Omega.{arith}
use Rattle.xor.proofs.Runs.{summed_apart}
use Rattle.xor.proofs.put_sum.Goals as goal

pub loop-next-preserved : goal.loop-next-preserved
loop-next-preserved c =
    let a = c.args in
    let turn = c.loop-next in
    let step = c.in-Some.ensures.steps in
    let inv = c.loop-next.invariant in
    (step.2 ∙ inv.0, (omega (arith, step.0, step.1, inv.0, inv.1)), summed_apart a.s.now turn.s _ a.places.now a.to a.at a.n _ 128 turn.next-iterator.done _ turn.zero _ inv.2 c.put_block-zero.ensures c.requires.1 (omega (arith, step.0, step.1, inv.0, inv.1)) (omega (arith, step.0, step.1, inv.0, inv.1)) (sym step.1) (omega (arith, step.0, step.1, inv.0, inv.1)))
