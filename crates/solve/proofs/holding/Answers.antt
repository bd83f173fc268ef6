-- `solve::holding` meets its contract. The loop's invariant: the members are those of the first q equations that hold the cell.
use native.Mathlib.Omega.{arith}
use Rattle.solve.proofs.Turns.{holding_none, holding_less, holding_more, holding_all}
use Rattle.solve.proofs.holding.Goals as goal
use Rattle.solve.proofs.holding.Goals.{then-row-cell-ne0, else-row-cell-ne0}

pub loop-q-init : goal.loop-q-init
loop-q-init c = holding_none _ _

pub loop-q-preserved : goal.loop-q-preserved
loop-q-preserved c =
    let cell = c.one_bit-cell.ensures in
    elim c.if-row-cell-ne0.branch [
      | then-row-cell-ne0 w ↦ holding_more _ _ _ _ _ cell c.loop-q.invariant _ _ w.one_bit-members.ensures w.members-is w.if-row-cell-ne0.true
      | else-row-cell-ne0 w ↦ holding_less _ _ _ _ _ cell c.loop-q.invariant _ w.members-is w.if-row-cell-ne0.false
    ]

pub returns : goal.returns
returns c = holding_all _ _ _ _ _ (omega arith) c.loop-q.invariant
