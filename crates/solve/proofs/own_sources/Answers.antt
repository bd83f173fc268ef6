-- `solve::own_sources` meets its contract. The loop's invariant: the first q masks are done.
use native.Mathlib.Omega.{arith}
use Rattle.solve.proofs.Turns.{own_none, own_more, own_all}
use Rattle.solve.proofs.own_sources.Goals as goal

pub loop-q-init : goal.loop-q-init
loop-q-init c = own_none _

pub loop-q-preserved : goal.loop-q-preserved
loop-q-preserved c = own_more _ _ _ (omega arith) c.one_bit.ensures c.loop-q.invariant

pub returns : goal.returns
returns c = own_all _ _ _ (omega arith) c.loop-q.invariant
