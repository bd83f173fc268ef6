-- `codes::hcode::line` meets its contract. Each line goes through the columns but one.
use mathlib.Core.Path.{refl}
use Prim.Native.Nat.{◌-◌, ◌<◌}
use native.Mathlib.Omega.{arith}
use Rattle.codes.proofs.Lines.{hcode_n, hcode_anti_is}
use Rattle.codes.proofs.Whole.{hcode_row_walks, hcode_anti_walks}
use Rattle.codes.proofs.hcode.line.Goals as goal

pub returns-then-q-n : goal.returns-then-q-n
returns-then-q-n c = hcode_row_walks c.args.shape c.requires.0 c.requires.1 c.args.q c.if-q-n.true _ refl refl refl refl refl refl

pub returns : goal.returns
returns c =
    let rest : (c.args.q - (c.args.shape.p - 1)) < c.args.shape.p - 1 = omega (arith, c.if-q-n.false, hcode_n c.args.shape c.requires.0 c.requires.1, c.requires.2) in
    hcode_anti_walks c.args.shape c.requires.0 c.requires.1 _ rest c.args.q (hcode_anti_is c.args.shape c.requires.0 c.requires.1 c.args.q c.if-q-n.false) _ refl refl refl refl refl refl
