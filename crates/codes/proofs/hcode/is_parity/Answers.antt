-- `codes::hcode::is_parity` meets its contract. Parity is in the last column, and beside the diagonal.
use mathlib.Core.Path.{sym, ap, ◌∙◌}
use mathlib.Core.Bool.{Bool, ◌||◌}
use Prim.Native.Nat.{◌+◌}
use native.Mathlib.Omega.{arith}
use lib.Dec.{eqb}
use borrow.Author.Tests.{eq-eqb, ne_eqb}
use Rattle.xor.proofs.Cases.{or_left}
use Rattle.codes.proofs.Shapes.{rows_high}
use Rattle.codes.proofs.Positions.{hcode_parity}
use Rattle.codes.proofs.hcode.is_parity.Goals as goal

pub overflow_add-result : goal.overflow_add-result
overflow_add-result c = omega (arith, c.requires.2, rows_high c.args.shape c.requires.0)

pub returns-then-column-shape : goal.returns-then-column-shape
returns-then-column-shape c = let is = eq-eqb _ _ c.if-column-shape.true in is ∙ sym (hcode_parity c.args.shape c.requires.0 c.requires.1 _ _ c.requires.2 ∙ or_left _ is)

pub returns-else-column-shape : goal.returns-else-column-shape
returns-else-column-shape c = sym (hcode_parity c.args.shape c.requires.0 c.requires.1 _ _ c.requires.2 ∙ ap (λ (b : Bool). b || eqb c.args.column (c.args.row + 1)) (ne_eqb _ _ c.if-column-shape.false))
