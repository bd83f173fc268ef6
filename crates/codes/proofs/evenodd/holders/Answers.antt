-- `codes::evenodd::holders` meets its contract. A data cell's row and its diagonal, or all diagonals; and the equation whose parity cell it is.
use native.Mathlib.Omega.{arith}
use Rattle.codes.proofs.Lines.{evenodd_columns}
use Rattle.codes.proofs.Held.{evenodd_row_held, evenodd_last_held, evenodd_held, evenodd_all_held}
use Rattle.codes.proofs.evenodd.holders.Goals as goal

pub returns-then-p-column : goal.returns-then-p-column
returns-then-p-column c = evenodd_last_held c.args.shape c.requires.0 _ _ c.requires.2 c.requires.3 _ c.requires.1 (omega (arith, c.if-p-column.true, evenodd_columns c.args.shape c.requires.0 c.requires.1)) c.pair.ensures

pub returns-then-column-p : goal.returns-then-column-p
returns-then-column-p c = evenodd_row_held c.args.shape c.requires.0 _ _ c.requires.2 c.requires.3 _ c.requires.1 c.if-column-p.true c.pair-then-column-p.ensures

pub returns-then-row-column : goal.returns-then-row-column
returns-then-row-column c = evenodd_all_held c.args.shape c.requires.0 _ _ c.requires.2 c.requires.3 _ c.requires.1 (omega (arith, c.if-p-column.false, c.if-column-p.false)) c.if-row-column.true c.with_diagonals.ensures

pub returns : goal.returns
returns c = evenodd_held c.args.shape c.requires.0 _ _ c.requires.2 c.requires.3 _ c.requires.1 _ (omega (arith, c.if-p-column.false, c.if-column-p.false)) c.if-row-column.false c.turned.ensures c.pair-2.ensures
