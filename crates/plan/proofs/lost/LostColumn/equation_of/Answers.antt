-- `plan::LostColumn::equation_of` meets its contract: a row's equation, or that of its diagonal.
use mathlib.Core.Path.{sym, ap₂, ◌∙◌}
use Prim.Native.Nat.{◌+◌, ◌<◌}
use native.Mathlib.Nat.{mod-lt}
use native.Mathlib.Omega.{arith}
use Rattle.bits.proofs.Masks.{bit_clear, bit_set}
use Rattle.codes.proofs.Shapes.{low, high}
use Rattle.plan.proofs.Column.{last_row, last_column}
use Rattle.plan.proofs.Chosen.{diagonal_is, by_row, by_diagonal}
use Rattle.plan.proofs.lost.LostColumn.equation_of.Goals as goal

pub one_bit-requires : goal.one_bit-requires
one_bit-requires c = let of = c.args.self.column in omega (arith, c.requires, last_row _ _ of, high _ of.formed)

pub returns-then-self-one_bit-eq0 : goal.returns-then-self-one_bit-eq0
returns-then-self-one_bit-eq0 c = let l = c.args.self in sym (by_row l.shape l.k l.plan c.args.i (bit_clear _ _ _ c.one_bit.ensures c.if-self-one_bit-eq0.true))

pub overflow_sub-result : goal.overflow_sub-result
overflow_sub-result c = omega (arith, low _ c.args.self.column.formed)

pub turned-requires : goal.turned-requires
turned-requires c = let of = c.args.self.column in (omega (arith, c.requires, last_row _ _ of), last_column _ _ of, omega (arith, high _ of.formed))

pub returns : goal.returns
returns c =
    let l = c.args.self in
    ap₂ ◌+◌ (last_row _ _ l.column) (c.turned.ensures ∙ diagonal_is _ _ _ l.column c.requires)
    ∙ sym (by_diagonal l.shape l.k l.plan c.args.i (bit_set _ _ _ c.one_bit.ensures c.if-self-one_bit-eq0.false))

pub overflow_add-result : goal.overflow_add-result
overflow_add-result c =
    let l = c.args.self in
    omega (arith, c.turned.ensures, mod-lt (c.args.i + l.k) (let some : 0 < l.shape.p = omega (arith, low _ l.column.formed) in some), high _ l.column.formed)
