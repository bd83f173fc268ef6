-- `spare::list_places` meets its contract. The loop's invariant: the first t columns from the one that leads on have their places.
use mathlib.Core.Path.{◌≡◌, ap}
use mathlib.Core.List.{List}
use Prim.Native.Nat.{ℕ, ◌+◌, ◌*◌, ◌%◌, ◌≤◌, ◌<◌, ◌^◌}
use native.Mathlib.Omega.{arith}
use Rattle.codes.specs.declared.Shape.{Shape}
use Rattle.codes.specs.Shape.{columns, cell_number, missing, WellFormed}
use Rattle.codes.specs.Geometry.{place}
use Rattle.codes.proofs.Shapes.{high}
use Rattle.codes.proofs.Lines.{rdp_columns}
use Rattle.codes.proofs.Geometry.{there_all, first_small}
use Rattle.spare.specs.Places.{leader, starts}
use Rattle.spare.proofs.Leads.{past, leader_low, past_low, past_is, past_far}
use Rattle.spare.proofs.Tables.{Filled, step_small, filled_none, filled_more, filled_all}
use Rattle.spare.proofs.list_places.Goals as goal

-- the column t past the one that leads, and where it starts
module _ (s : Shape) (w : WellFormed s) (rdp : s.code ≡ 1) (full : missing s ≡ 0) (lead t j : ℕ) (leads : lead ≡ leader s) (is : j ≡ (t + lead) % s.p) where
  column_is : j ≡ past s t
  column_is = past_is s w rdp _ _ _ leads is

  column_low : j < s.p
  column_low = past_low s w rdp _ _ column_is

  inside : j < columns s
  inside = omega (arith, column_low, rdp_columns s w rdp)

  few : j < 32
  few = omega (arith, column_low, high s w)

  module _ (start : ℕ) (e : start ≡ place s (cell_number s 0 j)) where
    fits : (back : ℕ) (places : List ℕ) → t < s.p → Filled s back t places → back ≤ start
    fits back places l h = omega (arith, h.next, e, ap (starts s) column_is, past_far s w rdp full t l)

    small : start + s.p * s.cell < 2 ^ 64
    small = omega (arith, e, first_small s w j inside (there_all s full j), step_small s w s.p (high s w))

pub overflow_mul-turn : goal.overflow_mul-turn
overflow_mul-turn c = let w = c.requires.0 in omega (arith, step_small _ w _ (high _ w))

pub loop-t-init : goal.loop-t-init
loop-t-init c = filled_none _ c.requires.0 _ c.requires.4

pub turned-column-requires : goal.turned-column-requires
turned-column-requires c = let pre = c.requires in (c.loop-t-test.true, omega (arith, pre.3, leader_low _ pre.0 pre.1), omega (arith, high _ pre.0))

pub column_place-start-requires : goal.column_place-start-requires
column_place-start-requires c = let pre = c.requires in (pre.0, inside _ pre.0 pre.1 pre.2 _ _ _ pre.3 c.turned-column.ensures, there_all _ pre.2 _)

pub overflow_sub-above : goal.overflow_sub-above
overflow_sub-above c =
    let pre = c.requires in
    fits _ pre.0 pre.1 pre.2 _ _ _ pre.3 c.turned-column.ensures _ c.column_place-start.ensures _ _ c.loop-t-test.true c.loop-t.invariant

pub overflow_add-above : goal.overflow_add-above
overflow_add-above c = let pre = c.requires in omega (arith, small _ pre.0 pre.1 pre.2 _ _ _ pre.3 c.turned-column.ensures _ c.column_place-start.ensures)

pub put_column-requires : goal.put_column-requires
put_column-requires c = (omega (arith, high _ c.requires.0), c.loop-t-test.true, c.loop-t.invariant.long)

pub overflow_add-places : goal.overflow_add-places
overflow_add-places c = let pre = c.requires in omega (arith, few _ pre.0 pre.1 pre.2 _ _ _ pre.3 c.turned-column.ensures)

pub offset_bounds-places-column : goal.offset_bounds-places-column
offset_bounds-places-column c = let pre = c.requires in omega (arith, few _ pre.0 pre.1 pre.2 _ _ _ pre.3 c.turned-column.ensures)

pub bounds-places-column : goal.bounds-places-column
bounds-places-column c = let pre = c.requires in omega (arith, few _ pre.0 pre.1 pre.2 _ _ _ pre.3 c.turned-column.ensures)

pub overflow_add-back : goal.overflow_add-back
overflow_add-back c =
    let w = c.requires.0 in
    omega (arith, c.loop-t.invariant.next, step_small _ w c.loop-t.t (omega (arith, high _ w, c.loop-t-test.true)), w.cell_high)

pub loop-t-preserved : goal.loop-t-preserved
loop-t-preserved c =
    let pre = c.requires in
    let is = c.turned-column.ensures in
    let start = c.column_place-start.ensures in
    filled_more _ pre.0 _ _ _ _ _ _ c.loop-t-test.true c.loop-t.invariant (column_is _ pre.0 pre.1 pre.2 _ _ _ pre.3 is) (few _ pre.0 pre.1 pre.2 _ _ _ pre.3 is) start
    (fits _ pre.0 pre.1 pre.2 _ _ _ pre.3 is _ start _ _ c.loop-t-test.true c.loop-t.invariant) c.put_column.ensures

pub returns : goal.returns
returns c = let pre = c.requires in filled_all _ pre.0 pre.1 _ _ _ c.loop-t-test.false c.loop-t.invariant
