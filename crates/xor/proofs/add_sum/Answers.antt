-- `xor::add_sum` meets its contract. The loop's invariant: the sum is in up to `done`, and the bytes further on are as they were.
use mathlib.Core.Path.{sym, ◌∙◌, refl}
use native.Mathlib.Omega.{arith}
use lib.ListN.{length}
use borrow.Author.Tests.{eqb-true}
use Rattle.xor.proofs.Runs.{summed_no_runs, summed_added, summed_end}
use Rattle.xor.proofs.add_sum.Goals as goal

pub returns-then-is_empty : goal.returns-then-is_empty
returns-then-is_empty c =
    let a = c.args in
    summed_no_runs a.d.now a.s.now a.places.now a.to a.at a.n _ _ (eqb-true (length a.places.now) 0 (sym c.is_empty.ensures ∙ c.if-is_empty.true)) c.is_none.ensures c.nonzero_at.ensures

pub loop-done-preserved : goal.loop-done-preserved
loop-done-preserved c =
    let a = c.args in
    let turn = c.loop-done in
    (omega arith, summed_added a.d.now turn.d _ a.s.now a.places.now a.to a.at _ 128 _ turn.zero _ turn.invariant.1 c.add_block_sum-zero.ensures refl)

pub returns-then-done-n : goal.returns-then-done-n
returns-then-done-n c =
    let a = c.args in
    let turn = c.loop-done in
    summed_added a.d.now turn.d _ a.s.now a.places.now a.to a.at _ _ a.n turn.zero _ turn.invariant.1 c.add_block_sum-zero-then-done-n.ensures (omega arith)

pub returns-else-done-n : goal.returns-else-done-n
returns-else-done-n c = summed_end _ _ _ _ _ _ _ c.loop-done.invariant.1 (omega arith)
