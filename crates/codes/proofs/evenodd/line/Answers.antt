-- `codes::evenodd::line` meets its contract. A row goes through all data columns, a diagonal through all but one.
use mathlib.Core.Path.{refl}
use Prim.Native.Nat.{◌-◌, ◌<◌}
use native.Mathlib.Omega.{arith}
use Rattle.codes.proofs.Lines.{evenodd_n}
use Rattle.codes.proofs.Whole.{evenodd_row_walks, evenodd_diagonal_walks}
use Rattle.codes.proofs.evenodd.line.Goals as goal

pub returns-then-q-n : goal.returns-then-q-n
returns-then-q-n c = evenodd_row_walks c.args.shape c.requires.0 c.requires.1 c.args.q c.if-q-n.true _ refl refl refl refl refl refl

pub returns : goal.returns
returns c =
    let rest : (c.args.q - (c.args.shape.p - 1)) < c.args.shape.p - 1 = omega (arith, c.if-q-n.false, evenodd_n c.args.shape c.requires.0 c.requires.1, c.requires.2) in
    evenodd_diagonal_walks c.args.shape c.requires.0 c.requires.1 _ rest c.args.q (omega (arith, c.if-q-n.false)) refl _ refl refl refl refl refl refl
