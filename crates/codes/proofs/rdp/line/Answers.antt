-- `codes::rdp::line` meets its contract. Rows and diagonals over the data columns that exist, and the cell of the row parity column.
use mathlib.Core.Path.{refl, ap, ◌∙◌}
use mathlib.Core.Bool.{cond}
use Prim.Native.Nat.{ℕ, ◌+◌, ◌-◌, ◌*◌, ◌<◌}
use native.Mathlib.Omega.{arith}
use lib.Dec.{eqb, ltb}
use Rattle.std.specs.declared.option.Option.TheVariants.{None, Some}
use Rattle.codes.proofs.Lines.{rdp_n}
use Rattle.codes.proofs.Short.{row_walks, diagonal_walks}
use Rattle.codes.proofs.rdp.line.Goals as goal

pub returns-then-q-n : goal.returns-then-q-n
returns-then-q-n c = row_walks c.args.shape c.requires.0 c.requires.1 c.args.q c.if-q-n.true _ c.data_columns-m.ensures refl refl refl refl refl

pub returns : goal.returns
returns c =
    let n = c.args.shape.p - 1 in
    let d = c.args.q - n in
    let rest : d < n = omega (arith, c.if-q-n.false, rdp_n c.args.shape c.requires.0 c.requires.1, c.requires.2) in
    let m = c.data_columns-m.ensures in
    diagonal_walks c.args.shape c.requires.0 c.requires.1 d rest _ (c.met.ensures ∙ ap (λ (x : ℕ). cond (ltb (d + 1) x) (x - 1) x) m) refl refl refl refl
    (c.corner.ensures ∙ ap (λ (x : ℕ). cond (eqb (d + 1) n) None (Some (x * n + (d + 1)))) m) c.args.q (omega (arith, c.if-q-n.false))
