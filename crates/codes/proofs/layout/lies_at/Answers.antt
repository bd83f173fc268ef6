-- `codes::layout::lies_at` meets its contract. The data columns that exist lie by their numbers, and the others behind them.
use mathlib.Core.Path.{sym}
use native.Mathlib.Omega.{arith}
use Rattle.codes.proofs.Shapes.{full_missing, data_known}
use Rattle.codes.proofs.Geometry.{there_cases, lies_before, lies_after, lies_all}
use Rattle.codes.proofs.layout.lies_at.Goals as goal

pub returns-in_default : goal.returns-in_default
returns-in_default c = sym (lies_all c.args.shape (sym (full_missing c.args.shape c.in_default.is)) c.args.j)

pub returns-then-j-m : goal.returns-then-j-m
returns-then-j-m c = sym (lies_before c.args.shape c.args.j (omega (arith, (data_known c.args.shape c.requires.0 _ c.in-Some.is).0, c.if-j-m.true)))

pub overflow_sub-result-3 : goal.overflow_sub-result-3
overflow_sub-result-3 c =
    let k = (data_known c.args.shape c.requires.0 _ c.in-Some.is).0 in
    there_cases c.args.shape c.args.j c.requires.2 (λ a. absurd (omega (arith, k, c.if-j-m.false))) (λ a. omega (arith, k))

pub returns : goal.returns
returns c =
    let k = (data_known c.args.shape c.requires.0 _ c.in-Some.is).0 in
    omega (arith, k, lies_after c.args.shape c.args.j (omega (arith, k, c.if-j-m.false)))
