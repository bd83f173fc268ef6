-- `xor::add_difference` meets its contract. The loop's invariant: k blocks of the difference are in, and the bytes that it is made of further on are as they were.
use native.Mathlib.Omega.{arith}
use lib.ListN.{length}
use Rattle.xor.proofs.Runs.{summed_difference, summed_end}
use Rattle.xor.proofs.add_difference.Goals as goal

pub loop-k-preserved : goal.loop-k-preserved
loop-k-preserved c =
    let a = c.args in
    let turn = c.loop-k in
    summed_difference a.s.now turn.s _ a.new.now a.to a.from (length a.new.now) _ 128 _ turn.zero _ turn.invariant c.add_block_difference-zero.ensures c.requires.2 (omega arith) (omega arith)

pub returns : goal.returns
returns c =
    let a = c.args in
    let turn = c.loop-k in
    summed_difference a.s.now turn.s _ a.new.now a.to a.from (length a.new.now) _ _ (length a.new.now) turn.zero _ (summed_end _ _ _ _ _ _ _ turn.invariant (omega arith)) c.add_block_difference.ensures c.requires.2 (omega arith) (omega arith)
