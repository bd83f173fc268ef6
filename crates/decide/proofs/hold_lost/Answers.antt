-- `decide::hold_lost` meets its contract. The loop's invariant: the masks have the first k lost cells.
use mathlib.Core.Path.{sym, ◌∙◌, subst}
use Prim.Native.Nat.{ℕ, ◌<◌}
use Rattle.codes.specs.Shape.{cells}
use Rattle.codes.specs.Holders.{HeldBy}
use Rattle.decide.specs.Solver.{cells_of}
use Rattle.decide.proofs.Lists.{cell_at, rows_none, rows_more, rows_some, row_in, column_in, held_at, within_held}
use Rattle.decide.proofs.hold_lost.Goals as goal

pub loop-k-init : goal.loop-k-init
loop-k-init c = rows_none _ _ _ c.requires.4

pub nonzero_rem-c : goal.nonzero_rem-c
nonzero_rem-c c = rows_some c.args.shape c.requires.0 _ _ (c.requires.2 c.loop-k.k c.loop-k-test.true) c.row_count-height.ensures

pub nonzero_div-c : goal.nonzero_div-c
nonzero_div-c c = rows_some c.args.shape c.requires.0 _ _ (c.requires.2 c.loop-k.k c.loop-k-test.true) c.row_count-height.ensures

pub holders_of-holders-requires : goal.holders_of-holders-requires
holders_of-holders-requires c =
    let inside = subst (λ (x : ℕ). x < cells c.args.shape) (cell_at c.args.lost.now c.loop-k.k) (c.requires.2 c.loop-k.k c.loop-k-test.true) in
    let is = c.row_count-height.ensures in
    (c.requires.0, row_in c.args.shape c.requires.0 _ _ inside is, column_in c.args.shape c.requires.0 _ _ inside is)

pub add_to-requires-clause-inside : goal.add_to-requires-clause-inside
add_to-requires-clause-inside c = rw (c.loop-k.auto.rows ∙ c.requires.3) (within_held _ _ _ c.holders_of-holders.ensures)

pub loop-k-preserved : goal.loop-k-preserved
loop-k-preserved c =
    let at = cell_at c.args.lost.now c.loop-k.k in
    let inside = subst (λ (x : ℕ). x < cells c.args.shape) at (c.requires.2 c.loop-k.k c.loop-k-test.true) in
    rows_more c.args.shape (cells_of c.args.lost.now) _ _ (c.loop-k.auto.rows ∙ c.requires.3) _
    (subst (λ (x : ℕ). HeldBy c.args.shape x c.holders_of-holders.result) (sym at) (held_at c.args.shape c.requires.0 _ _ inside c.row_count-height.ensures _ c.holders_of-holders.ensures))
    _ c.one_bit-bit.ensures _ c.add_to.ensures c.loop-k.invariant
