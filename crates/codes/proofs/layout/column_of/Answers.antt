-- `codes::layout::column_of` meets its contract. The data columns that exist lie by their numbers, and the others behind them.
use mathlib.Core.Path.{◌≡◌, sym, ap, ◌∙◌}
use Prim.Native.Nat.{ℕ, ◌+◌, ◌-◌}
use native.Mathlib.Omega.{arith}
use Rattle.codes.proofs.Shapes.{high, full_missing, data_known, disks_high, columns_high}
use Rattle.codes.proofs.Geometry.{column_before, column_after, column_all}
use Rattle.codes.proofs.layout.column_of.Goals as goal

pub returns-in_default : goal.returns-in_default
returns-in_default c = sym (column_all c.args.shape (sym (full_missing c.args.shape c.in_default.is)) c.args.d)

pub returns-then-d-m : goal.returns-then-d-m
returns-then-d-m c = sym (column_before c.args.shape c.args.d (omega (arith, (data_known c.args.shape c.requires.0 _ c.in-Some.is).0, c.if-d-m.true)))

pub overflow_add-result : goal.overflow_add-result
overflow_add-result c = omega (arith, high c.args.shape c.requires.0, disks_high c.args.shape c.requires.0, columns_high c.args.shape c.requires.0, c.requires.1)

pub returns : goal.returns
returns c =
    let k = (data_known c.args.shape c.requires.0 _ c.in-Some.is).0 in
    ap (λ (x : ℕ). c.args.d + x) (let z : c.args.shape.p - 1 - _ ≡ _ = omega (arith, k) in z) ∙ sym (column_after c.args.shape c.args.d (omega (arith, k, c.if-d-m.false)))
