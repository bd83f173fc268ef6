-- `bad::without_column` meets its contract. The loop's invariant: `rest` is what is left once the cells of the first i rows have taken in their values.
use mathlib.Core.Path.{refl, ◌∙◌}
use Prim.Native.Nat.{◌<◌}
use native.Mathlib.Omega.{arith}
use Rattle.bits.proofs.Limits.{within_all}
use Rattle.codes.specs.Shape.{cells, cell_number}
use Rattle.codes.proofs.Shapes.{small_equations}
use Rattle.codes.proofs.Positions.{cell_inside}
use Rattle.bad.proofs.Rests.{held_not_none, held_lowest, without_none, without_more, without_all}
use borrow.Author.Rules.{rules}
use Rattle.bad.proofs.without_column.Goals as goal

pub loop-i-init : goal.loop-i-init
loop-i-init c = (search rules, without_none _ _ _)

pub lowest_bit-first-requires : goal.lowest_bit-first-requires
lowest_bit-first-requires c =
    let inside : cell_number c.args.shape c.loop-i.i c.args.column < cells c.args.shape = cell_inside c.args.shape c.requires.0 c.loop-i.i c.args.column (omega (arith, c.row_count-rows.ensures)) c.requires.1 in
    held_not_none c.args.shape c.requires.0 _ _ inside c.holders_of-held.ensures

pub add_to-requires-clause-inside : goal.add_to-requires-clause-inside
add_to-requires-clause-inside c = rw c.loop-i.invariant.0 (within_all _ c.holders_of-held.type_inv)

pub loop-i-preserved : goal.loop-i-preserved
loop-i-preserved c =
    let inside : cell_number c.args.shape c.loop-i.i c.args.column < cells c.args.shape = cell_inside c.args.shape c.requires.0 c.loop-i.i c.args.column (omega (arith, c.row_count-rows.ensures)) c.requires.1 in
    let turn = c.loop-i in
    let s = c.args.shape in
    let lowest = c.lowest_bit-first.ensures in (
      c.add_to.ensures.long ∙ turn.invariant.0,
      without_more s c.args.totals c.args.column turn.i _ _ _ turn.rest _ (omega (arith, small_equations s c.requires.0)) turn.invariant.1 c.holders_of-held.ensures
          (held_lowest s c.requires.0 _ _ inside c.holders_of-held.ensures _ lowest.0 lowest.1) refl c.add_to.ensures,
    )

pub returns : goal.returns
returns c = without_all _ _ _ _ _ _ (omega (arith, c.row_count-rows.ensures)) c.loop-i.invariant.1
