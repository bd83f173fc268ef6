-- `decide::mark_columns` meets its contract. The loop's invariant: the map marks the cells of the first i rows in both columns.
use mathlib.Core.Path.{refl}
use native.Mathlib.Omega.{arith}
use Rattle.decide.proofs.Marks.{marked_none, marked_two, columns_all, in_map}
use Rattle.decide.proofs.mark_columns.Goals as goal

pub loop-i-init : goal.loop-i-init
loop-i-init c = marked_none _

-- both cells of a row have a place in the map
pub bounds-map-a : goal.bounds-map-a
bounds-map-a c = in_map c.args.shape c.requires.0 _ c.row_count-n.ensures c.loop-i.i _ c.loop-i-test.true c.requires.1

pub bounds-map-b : goal.bounds-map-b
bounds-map-b c = in_map c.args.shape c.requires.0 _ c.row_count-n.ensures c.loop-i.i _ c.loop-i-test.true c.requires.2

pub overflow_mul-map : goal.overflow_mul-map
overflow_mul-map c = omega (arith, in_map c.args.shape c.requires.0 _ c.row_count-n.ensures c.loop-i.i _ c.loop-i-test.true c.requires.1)

pub overflow_add-map : goal.overflow_add-map
overflow_add-map c = omega (arith, in_map c.args.shape c.requires.0 _ c.row_count-n.ensures c.loop-i.i _ c.loop-i-test.true c.requires.1)

pub overflow_mul-map-in-loop-i : goal.overflow_mul-map-in-loop-i
overflow_mul-map-in-loop-i c = omega (arith, in_map c.args.shape c.requires.0 _ c.row_count-n.ensures c.loop-i.i _ c.loop-i-test.true c.requires.2)

pub overflow_add-map-in-loop-i : goal.overflow_add-map-in-loop-i
overflow_add-map-in-loop-i c = omega (arith, in_map c.args.shape c.requires.0 _ c.row_count-n.ensures c.loop-i.i _ c.loop-i-test.true c.requires.2)

pub loop-i-preserved : goal.loop-i-preserved
loop-i-preserved c =
    let place = in_map c.args.shape c.requires.0 _ c.row_count-n.ensures c.loop-i.i in
    marked_two _ _ _ c.loop-i.invariant _ _ (place _ c.loop-i-test.true c.requires.1) (place _ c.loop-i-test.true c.requires.2) (λ d. refl)

pub returns : goal.returns
returns c = columns_all c.args.shape c.requires.0 _ c.row_count-n.ensures _ _ _ _ (omega arith) c.loop-i.invariant
