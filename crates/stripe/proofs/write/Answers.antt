-- `stripe::write` meets its contract. A small write that is not refused is right.
use mathlib.Core.Path.{◌≡◌, sym, subst}
use mathlib.Core.List.{List}
use Prim.Native.Nat.{ℕ}
use lib.ListN.{length}
use Rattle.codes.specs.declared.Shape.{Shape}
use Rattle.codes.specs.Shape.{cell_number}
use Rattle.codes.specs.Geometry.{column_of, cell_at, place}
use Rattle.codes.specs.Depends.{WriteRight}
use Rattle.refusals.proofs.Refused.{write_accepted}
use Rattle.stripe.specs.Write.{Written, Depending}
use Rattle.stripe.proofs.write.Goals as goal

-- the same of the column as the caller names it
by-callers : (s : Shape) (row j d : ℕ) (old bytes new : List ℕ) (n : ℕ) → j ≡ column_of s d → Written s (cell_number s row j) old bytes new × Depending s (cell_number s row j) n
    → Written s (cell_at s row d) old bytes new × Depending s (cell_at s row d) n
by-callers s row j d old bytes new n e = subst (λ (k : ℕ). Written s (cell_number s row k) old bytes new × Depending s (cell_number s row k) n) e

pub column_of-inside-requires : goal.column_of-inside-requires
column_of-inside-requires c = let right = write_accepted _ _ _ _ _ (sym c.in_ok-check_write.ensures) in (right.1.formed, right.0)

pub lent_place-from-requires : goal.lent_place-from-requires
lent_place-from-requires c = let right = write_accepted _ _ _ _ _ (sym c.in_ok-check_write.ensures) in (right.1.formed, right.1.cell.low, right.0)

pub write_cell-requires : goal.write_cell-requires
write_cell-requires c =
    let a = c.args in
    let right = write_accepted _ _ _ _ _ (sym c.in_ok-check_write.ensures) in
    subst (λ (j : ℕ). WriteRight a.shape (length a.stripe.now) a.row j (length a.new.now) × (c.lent_place-from.result ≡ place a.shape (cell_number a.shape a.row j))) (sym c.column_of-inside.ensures)
    (right.1, c.lent_place-from.ensures)

pub returns : goal.returns
returns c =
    let a = c.args in (
      c.in_ok-check_write.ensures,
      by-callers a.shape a.row _ a.column a.stripe.now a.new.now _ _ c.column_of-inside.ensures c.write_cell.ensures,
    )
