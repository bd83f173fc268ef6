-- `plan::is_accepted` meets its contract. The plan's bound is 2 to the number of rows, and one bit is tested by its mask.
use Prim.Native.Nat.{◌<◌}
use native.Mathlib.Omega.{arith}
use Rattle.codes.proofs.Shapes.{low, high}
use Rattle.plan.proofs.Column.{last_column}
use Rattle.plan.proofs.Accepted.{too_high, every_diagonal, first_column, one_row}
use Rattle.plan.proofs.is_accepted.Goals as goal

pub overflow_sub-last : goal.overflow_sub-last
overflow_sub-last c = omega (arith, low c.args.shape c.requires.formed)

pub one_bit-bound-requires : goal.one_bit-bound-requires
one_bit-bound-requires c = omega (arith, high c.args.shape c.requires.formed)

pub returns-then-bound-plan : goal.returns-then-bound-plan
returns-then-bound-plan c = let a = c.args in too_high a.shape a.k a.plan c.requires _ c.one_bit-bound.ensures (omega (arith, c.if-bound-plan.true))

pub returns-then-k-shape : goal.returns-then-k-shape
returns-then-k-shape c =
    let low_bits : c.args.plan < c.one_bit-bound.result = omega (arith, c.if-bound-plan.false) in
    let a = c.args in every_diagonal a.shape a.k a.plan c.requires _ c.one_bit-bound.ensures (low_bits) c.if-k-shape.true

pub returns-then-k-eq0 : goal.returns-then-k-eq0
returns-then-k-eq0 c =
    let low_bits : c.args.plan < c.one_bit-bound.result = omega (arith, c.if-bound-plan.false) in
    let a = c.args in first_column a.shape a.k a.plan c.requires _ c.one_bit-bound.ensures (low_bits) c.if-k-eq0.true

pub overflow_sub-last-2 : goal.overflow_sub-last-2
overflow_sub-last-2 c = let a = c.args in omega (arith, last_column a.shape a.k c.requires, c.if-k-shape.false)

pub one_bit-requires : goal.one_bit-requires
one_bit-requires c = omega (arith, high c.args.shape c.requires.formed)

pub returns : goal.returns
returns c =
    let low_bits : c.args.plan < c.one_bit-bound.result = omega (arith, c.if-bound-plan.false) in
    let a = c.args in
    one_row a.shape a.k a.plan c.requires _ c.one_bit-bound.ensures (low_bits) _ c.one_bit.ensures c.if-k-shape.false c.if-k-eq0.false
