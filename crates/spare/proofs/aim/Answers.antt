-- `spare::aim` meets its contract. By its row nothing is set; by its diagonal one slot is, which is column k's, but where that is the diagonal parity column.
use mathlib.Core.Path.{◌≡◌, ap, ◌∙◌}
use mathlib.Core.Bool.{true}
use Prim.Native.Nat.{ℕ, ◌+◌, ◌-◌, ◌*◌, ◌%◌, ◌^◌, ◌≤◌, ◌<◌}
use native.Mathlib.Omega.{arith}
use Rattle.bits.specs.Bit.{bit}
use Rattle.bits.proofs.Masks.{bit_clear, bit_set}
use Rattle.codes.specs.declared.Shape.{Shape}
use Rattle.codes.specs.Shape.{rows, cell_number, missing}
use Rattle.codes.specs.Geometry.{place}
use Rattle.codes.proofs.Shapes.{low, high}
use Rattle.codes.proofs.Lines.{rdp_columns}
use Rattle.codes.proofs.Geometry.{there_after}
use Rattle.plan.specs.Plan.{diagonal}
use Rattle.plan.proofs.Column.{last_row, last_column}
use Rattle.spare.specs.Places.{leader, RowRight}
use Rattle.spare.proofs.Column.{row_right}
use Rattle.plan.proofs.Chosen.{diagonal_is}
use Rattle.spare.proofs.Leads.{OnDiagonal, meets, leader_low, meets_is, row_low, parity_far}
use Rattle.spare.proofs.Tables.{step_small, swapped, not_swapped}
use Rattle.spare.proofs.Windows.{on_diagonal, aimed_row, aimed_diagonal}
use Rattle.spare.proofs.aim.Goals as goal

-- row i goes by its diagonal d, which meets the column that leads so many rows on
module _ (s : Shape) (k plan i : ℕ) (right : RowRight s k plan i) (full : missing s ≡ 0) (taken : bit i plan ≡ true) (lead d ahead : ℕ) (leads : lead ≡ leader s)
    (turned : d ≡ (i + k) % s.p) (met : ahead ≡ (d + (s.p - lead)) % s.p) where
  on : OnDiagonal s k i
  on = on_diagonal s k plan i right full taken

  d_is : d ≡ diagonal s k i
  d_is = turned ∙ diagonal_is s k i right.of right.row

  low_d : d < rows s
  low_d = omega (arith, d_is, on.1)

  row_is : ahead ≡ meets s k i
  row_is = meets_is s right.of.formed right.of.rdp _ _ _ _ _ d_is leads met

  row_few : ahead < s.p
  row_few = row_low s right.of.formed right.of.rdp _ _ _ on row_is

  parity_is : (at : ℕ) → at ≡ place s (cell_number s d s.p) → at ≡ place s (cell_number s (diagonal s k i) s.p)
  parity_is at e = e ∙ ap (λ (x : ℕ). place s (cell_number s x s.p)) d_is

  -- the place of the diagonal's parity cell, less the rows on
  fits : (at : ℕ) → at ≡ place s (cell_number s d s.p) → ahead * s.cell ≤ at
  fits at e = omega (arith, parity_is at e, parity_far s right.of.formed right.of.rdp _ _ _ on row_is full)

  small : ahead * s.cell < 2 ^ 64
  small = let w = right.of.formed in omega (arith, step_small s w ahead (omega (arith, row_few, high s w)))

pub one_bit-requires : goal.one_bit-requires
one_bit-requires c = let l = c.args.lost in let right = row_right l.column l.accepted c.requires.0 in omega (arith, right.row, last_row _ _ right.of, high _ right.of.formed)

pub returns-then-plan-one_bit-eq0 : goal.returns-then-plan-one_bit-eq0
returns-then-plan-one_bit-eq0 c =
    let l = c.args.lost in let right = row_right l.column l.accepted c.requires.0 in let pre = c.requires in
    aimed_row _ _ _ _ right pre.1 (bit_clear _ _ _ c.one_bit.ensures c.if-plan-one_bit-eq0.true) _ (omega (arith, pre.4.long, high _ l.column.formed)) pre.3 pre.4

pub turned-d-requires : goal.turned-d-requires
turned-d-requires c =
    let l = c.args.lost in let right = row_right l.column l.accepted c.requires.0 in
    (omega (arith, right.row, last_row _ _ right.of), last_column _ _ right.of, omega (arith, high _ right.of.formed))

pub overflow_sub-p : goal.overflow_sub-p
overflow_sub-p c = let l = c.args.lost in let right = row_right l.column l.accepted c.requires.0 in let pre = c.requires in omega (arith, pre.2, leader_low _ l.column.formed l.column.rdp)

pub turned-ahead-requires : goal.turned-ahead-requires
turned-ahead-requires c =
    let l = c.args.lost in let right = row_right l.column l.accepted c.requires.0 in let pre = c.requires in
    let of = l.column in
    let taken = bit_set _ _ _ c.one_bit.ensures c.if-plan-one_bit-eq0.false in (
      omega (arith, c.turned-d.ensures, diagonal_is _ _ _ of pre.0, (on_diagonal _ _ _ _ right pre.1 taken).1, last_row _ _ of),
      omega arith,
      omega (arith, high _ of.formed),
    )

pub overflow_sub-from : goal.overflow_sub-from
overflow_sub-from c = omega (arith, low _ c.args.lost.column.formed)

pub overflow_sub-from-2 : goal.overflow_sub-from-2
overflow_sub-from-2 c =
    let l = c.args.lost in let right = row_right l.column l.accepted c.requires.0 in let pre = c.requires in
    omega (arith, row_few _ _ _ _ right pre.1 (bit_set _ _ _ c.one_bit.ensures c.if-plan-one_bit-eq0.false) _ _ _ pre.2 c.turned-d.ensures c.turned-ahead.ensures)

pub cell_place-requires : goal.cell_place-requires
cell_place-requires c =
    let l = c.args.lost in let right = row_right l.column l.accepted c.requires.0 in let pre = c.requires in
    let of = l.column in (
      of.formed,
      low_d _ _ _ _ right pre.1 (bit_set _ _ _ c.one_bit.ensures c.if-plan-one_bit-eq0.false) _ _ _ pre.2 c.turned-d.ensures c.turned-ahead.ensures,
      omega (arith, rdp_columns _ of.formed of.rdp),
      there_after _ _ (omega arith),
    )

pub overflow_mul-places : goal.overflow_mul-places
overflow_mul-places c =
    let l = c.args.lost in let right = row_right l.column l.accepted c.requires.0 in let pre = c.requires in
    omega (arith, small _ _ _ _ right pre.1 (bit_set _ _ _ c.one_bit.ensures c.if-plan-one_bit-eq0.false) _ _ _ pre.2 c.turned-d.ensures c.turned-ahead.ensures)

pub overflow_sub-places : goal.overflow_sub-places
overflow_sub-places c =
    let l = c.args.lost in let right = row_right l.column l.accepted c.requires.0 in let pre = c.requires in
    fits _ _ _ _ right pre.1 (bit_set _ _ _ c.one_bit.ensures c.if-plan-one_bit-eq0.false) _ _ _ pre.2 c.turned-d.ensures c.turned-ahead.ensures _ c.cell_place.ensures

pub overflow_add-places : goal.overflow_add-places
overflow_add-places c = let l = c.args.lost in let right = row_right l.column l.accepted c.requires.0 in omega (arith, right.row, last_row _ _ right.of, high _ right.of.formed)

pub offset_bounds-places-from : goal.offset_bounds-places-from
offset_bounds-places-from c = let l = c.args.lost in let right = row_right l.column l.accepted c.requires.0 in omega (arith, right.row, last_row _ _ right.of, high _ right.of.formed)

pub bounds-places-from : goal.bounds-places-from
bounds-places-from c = let l = c.args.lost in let right = row_right l.column l.accepted c.requires.0 in omega (arith, right.row, last_row _ _ right.of, high _ right.of.formed, c.requires.4.long)

pub returns-then-lost-p : goal.returns-then-lost-p
returns-then-lost-p c =
    let l = c.args.lost in let right = row_right l.column l.accepted c.requires.0 in let pre = c.requires in
    let taken = bit_set _ _ _ c.one_bit.ensures c.if-plan-one_bit-eq0.false in
    let d = c.turned-d.ensures in
    let ahead = c.turned-ahead.ensures in
    aimed_diagonal _ _ _ _ right pre.1 taken _ _
    (swapped _ _ l.column _ _ (on _ _ _ _ right pre.1 taken _ _ _ pre.2 d ahead) (row_is _ _ _ _ right pre.1 taken _ _ _ pre.2 d ahead) _ pre.3 pre.4 pre.1 _ c.if-lost-p.true
    (parity_is _ _ _ _ right pre.1 taken _ _ _ pre.2 d ahead _ c.cell_place.ensures))

pub returns-else-lost-p : goal.returns-else-lost-p
returns-else-lost-p c =
    let l = c.args.lost in let right = row_right l.column l.accepted c.requires.0 in let pre = c.requires in
    let taken = bit_set _ _ _ c.one_bit.ensures c.if-plan-one_bit-eq0.false in
    let d = c.turned-d.ensures in
    let ahead = c.turned-ahead.ensures in
    aimed_diagonal _ _ _ _ right pre.1 taken _ _
    (not_swapped _ _ l.column _ _ (on _ _ _ _ right pre.1 taken _ _ _ pre.2 d ahead) (row_is _ _ _ _ right pre.1 taken _ _ _ pre.2 d ahead) _ pre.3 pre.4 c.if-lost-p.false)
