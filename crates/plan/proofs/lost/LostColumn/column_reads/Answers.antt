-- `plan::LostColumn::column_reads` meets its contract. The plan beside itself, moved down, is the plan turned to the column.
use mathlib.Core.Path.{◌≡◌, sym, ap}
use mathlib.Core.Bool.{true}
use mathlib.Core.Logic.{◌≢◌}
use Prim.Native.Nat.{ℕ, ◌+◌, ◌-◌, ◌*◌, ◌%◌, ◌^◌, ◌≤◌, ◌<◌}
use native.Mathlib.Nat.{mod-lt}
use native.Mathlib.Omega.{arith}
use lib.Pow.{shl_exact}
use Rattle.codes.specs.declared.Shape.{Shape}
use Rattle.codes.proofs.Shapes.{most_rows, low, high}
use Rattle.plan.specs.Plan.{column_reads, is_accepted}
use Rattle.plan.specs.Right.{RdpColumn}
use Rattle.plan.proofs.Column.{last_row, last_column}
use Rattle.plan.proofs.Accepted.{plan_low}
use Rattle.plan.proofs.Rule.{some_power}
use Rattle.plan.proofs.ByColumns.{column_few, own_reads, taken_most, count_last, count_below}
use Rattle.plan.proofs.lost.LostColumn.column_reads.Goals as goal

module _ (s : Shape) (k plan : ℕ) (column : RdpColumn s k) (accepted : is_accepted s k plan ≡ true) where
  small : s.p ≤ 31
  small = high s column.formed

  -- the plan moved up by p still fits
  moved : (plan * 2 ^ s.p) % 2 ^ 64 ≡ plan * 2 ^ s.p
  moved = shl_exact _ s.p 64 (plan_low s k plan column accepted) (omega (arith, small, last_row s k column))

  few : (j : ℕ) → column_reads s k plan j ≤ most_rows
  few j = column_few s column.formed k plan j

-- another column than the last is below p
below : (s : Shape) (j : ℕ) → RdpColumn s j → j ≢ s.p → j < s.p
below s j other n = omega (arith, last_column s j other)

pub returns-then-j-self : goal.returns-then-j-self
returns-then-j-self c = let l = c.args.self in sym (own_reads l.shape l.k l.plan l.column l.accepted c.args.j c.if-j-self.true)

pub overflow_sub-p : goal.overflow_sub-p
overflow_sub-p c = let l = c.args.self in omega (arith, low l.shape l.column.formed)

pub one_bit-all-requires : goal.one_bit-all-requires
one_bit-all-requires c = let l = c.args.self in omega (arith, high l.shape l.column.formed)

pub overflow_sub-all : goal.overflow_sub-all
overflow_sub-all c = some_power _ _ c.one_bit-all.ensures

pub overflow_shl-twice : goal.overflow_shl-twice
overflow_shl-twice c = let l = c.args.self in omega (arith, high l.shape l.column.formed)

pub overflow_sub-result : goal.overflow_sub-result
overflow_sub-result c = let l = c.args.self in last_column l.shape l.k l.column

pub overflow_shr-result : goal.overflow_shr-result
overflow_shr-result c = let l = c.args.self in omega (arith, high l.shape l.column.formed)

pub returns-then-j-p : goal.returns-then-j-p
returns-then-j-p c =
    let l = c.args.self in
    count_last l.shape l.k l.plan l.column l.accepted c.args.j _ c.requires c.if-j-self.false (moved l.shape l.k l.plan l.column l.accepted) _
    (ap (λ (n : ℕ). n - 1) c.one_bit-all.ensures) c.if-j-p.true

pub overflow_cast-result : goal.overflow_cast-result
overflow_cast-result c =
    let l = c.args.self in
    omega (
      arith,
      (count_last l.shape l.k l.plan l.column l.accepted c.args.j _ c.requires c.if-j-self.false (moved l.shape l.k l.plan l.column l.accepted) _
          (ap (λ (n : ℕ). n - 1) c.one_bit-all.ensures) c.if-j-p.true),
      few l.shape l.k l.plan l.column l.accepted c.args.j,
    )

pub overflow_sub-by_row : goal.overflow_sub-by_row
overflow_sub-by_row c = let l = c.args.self in omega (arith, low l.shape l.column.formed)

pub overflow_cast-by_row : goal.overflow_cast-by_row
overflow_cast-by_row c = let l = c.args.self in omega (arith, taken_most l.shape l.k l.plan l.column l.accepted, high l.shape l.column.formed)

pub overflow_sub-by_row-2 : goal.overflow_sub-by_row-2
overflow_sub-by_row-2 c = let l = c.args.self in taken_most l.shape l.k l.plan l.column l.accepted

pub overflow_sub-p-2 : goal.overflow_sub-p-2
overflow_sub-p-2 c = let l = c.args.self in last_column l.shape l.k l.column

pub turned-turn-requires : goal.turned-turn-requires
turned-turn-requires c = let l = c.args.self in (below l.shape c.args.j c.requires c.if-j-p.false, omega arith, omega (arith, high l.shape l.column.formed))

pub overflow_shr-result-2 : goal.overflow_shr-result-2
overflow_shr-result-2 c =
    let l = c.args.self in
    let some : 0 < l.shape.p = omega (arith, below l.shape c.args.j c.requires c.if-j-p.false) in
    omega (arith, c.turned-turn.ensures, mod-lt (c.args.j + (l.shape.p - l.k)) some, high l.shape l.column.formed)

pub returns : goal.returns
returns c =
    let l = c.args.self in
    count_below l.shape l.k l.plan l.column l.accepted c.args.j _ c.requires c.if-j-self.false (moved l.shape l.k l.plan l.column l.accepted) _
    (below l.shape c.args.j c.requires c.if-j-p.false) c.turned-turn.ensures

pub overflow_cast-result-2 : goal.overflow_cast-result-2
overflow_cast-result-2 c =
    let l = c.args.self in
    omega (
      arith,
      (count_below l.shape l.k l.plan l.column l.accepted c.args.j _ c.requires c.if-j-self.false (moved l.shape l.k l.plan l.column l.accepted) _
          (below l.shape c.args.j c.requires c.if-j-p.false) c.turned-turn.ensures),
      few l.shape l.k l.plan l.column l.accepted c.args.j,
    )

pub overflow_add-result : goal.overflow_add-result
overflow_add-result c =
    let l = c.args.self in
    omega (
      arith,
      (count_below l.shape l.k l.plan l.column l.accepted c.args.j _ c.requires c.if-j-self.false (moved l.shape l.k l.plan l.column l.accepted) _
          (below l.shape c.args.j c.requires c.if-j-p.false) c.turned-turn.ensures),
      few l.shape l.k l.plan l.column l.accepted c.args.j,
    )
