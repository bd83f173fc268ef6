-- `codes::hcode::holders` meets its contract. A data cell's row and anti-diagonal, and the equations whose parity cells stand in the last column and beside the diagonal.
use native.Mathlib.Omega.{arith}
use Rattle.codes.proofs.Lines.{hcode_rows}
use Rattle.codes.proofs.Held.{hcode_held, hcode_last_held, hcode_beside_held}
use Rattle.codes.proofs.hcode.holders.Goals as goal

pub returns-then-column-p : goal.returns-then-column-p
returns-then-column-p c = hcode_last_held c.args.shape c.requires.0 _ _ c.requires.2 c.requires.3 _ c.requires.1 c.if-column-p.true c.named.ensures

pub returns-then-column-row : goal.returns-then-column-row
returns-then-column-row c = hcode_beside_held c.args.shape c.requires.0 _ _ c.requires.2 c.requires.3 _ c.requires.1 c.if-column-row.true c.named-then-column-row.ensures

pub overflow_sub-p-2 : goal.overflow_sub-p-2
overflow_sub-p-2 c = omega (arith, hcode_rows c.args.shape c.requires.0 c.requires.1)

pub returns : goal.returns
returns c = hcode_held c.args.shape c.requires.0 _ _ c.requires.2 c.requires.3 _ c.requires.1 _ c.if-column-p.false c.if-column-row.false c.turned.ensures c.named-2.ensures
