-- `codes::rdp::holders` meets its contract. The row and the diagonal of a cell, and the diagonal whose parity cell stands in the last column.
use native.Mathlib.Omega.{arith}
use Rattle.codes.proofs.Shapes.{high}
use Rattle.codes.proofs.Lines.{rdp_rows, rdp_columns}
use Rattle.codes.proofs.Held.{rdp_held, rdp_last_held}
use Rattle.codes.proofs.rdp.holders.Goals as goal

pub returns-then-column-p : goal.returns-then-column-p
returns-then-column-p c = rdp_last_held c.args.shape c.requires.0 _ _ c.requires.2 c.requires.3 _ c.requires.1 c.if-column-p.true c.named.ensures

pub turned-requires : goal.turned-requires
turned-requires c = (omega (arith, rdp_rows c.args.shape c.requires.0 c.requires.1), omega (arith, rdp_columns c.args.shape c.requires.0 c.requires.1), omega (arith, high c.args.shape c.requires.0))

pub returns : goal.returns
returns c = rdp_held c.args.shape c.requires.0 _ _ c.requires.2 c.requires.3 _ c.requires.1 _ c.if-column-p.false c.turned.ensures c.named-2.ensures
