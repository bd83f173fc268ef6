-- The equation by which a plan takes a row holds the row's cell of the lost column.
use Prim.Native.Nat.{ℕ, ◌<◌}
use native.Mathlib.Omega.{arith}
use Rattle.xor.proofs.Cases.{by_test}
use Rattle.bits.specs.Bit.{bit}
use Rattle.codes.specs.declared.Shape.{Shape}
use Rattle.codes.specs.Shape.{equations, cell_number}
use Rattle.codes.proofs.Positions.{cell_inside, rdp_n}
use Rattle.plan.specs.Plan.{chosen}
use Rattle.plan.specs.Right.{RdpColumn}
use Rattle.spare.specs.Places.{RowRight}
use Rattle.plan.proofs.Chosen.{by_row, by_diagonal}
use Rattle.plan.proofs.Column.{last_row}
use Rattle.plan.proofs.Cells.{taken_low, own_held}
use Rattle.spare.proofs.Slots.{Held}

module _ (s : Shape) (k plan i : ℕ) (right : RowRight s k plan i) where
  of : RdpColumn s k
  of = right.of

  inside : chosen s k plan i < equations s
  inside =
      by_test (bit i plan)
      (λ p. omega (arith, by_diagonal s k plan i p, taken_low s k plan of right.accepted i right.row p, last_row s k of, rdp_n s of.formed of.rdp))
      (λ p. omega (arith, by_row s k plan i p, right.row, last_row s k of, rdp_n s of.formed of.rdp))

  pub chosen_held : Held s (chosen s k plan i) (cell_number s i k)
  chosen_held = record {
    formed = of.formed;
    equation = inside;
    cell = cell_inside s of.formed i k right.row of.column;
    held = own_held s k plan of right.accepted i right.row;
  }
