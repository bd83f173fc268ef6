-- `xor::put_sum_from` meets its contract. The loop's invariant: the run is stored in the blocks that were given.
use mathlib.Core.Path.{sym, ◌∙◌}
use Rattle.xor.proofs.Runs.{summed_from}
use native.Mathlib.Omega.{arith}
use Rattle.xor.proofs.put_sum_from.Goals as goal

pub loop-next-preserved : goal.loop-next-preserved
loop-next-preserved c =
    let a = c.args in
    let turn = c.loop-next in
    let step = c.in-Some.ensures.steps in
    let inv = c.loop-next.invariant in
    (step.2 ∙ inv.0, (omega (arith, step.0, step.1, inv.0, inv.1)), summed_from a.d.now turn.d _ a.s.now a.places.now a.to a.at _ 128 turn.next-iterator.done _ turn.zero _ inv.2 c.put_block_from-zero.ensures (omega (arith, step.0, step.1, inv.0, inv.1)) (omega (arith, step.0, step.1, inv.0, inv.1)) (sym step.1))
