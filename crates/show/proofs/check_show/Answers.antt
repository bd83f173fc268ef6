-- `show::check_show` meets its contract. Each return gives the first refusal in order, by the tests before it.
use mathlib.Core.Path.{◌≡◌, refl, sym}
use mathlib.Core.List.{[], ◌∷◌}
use mathlib.Core.Bool.{◌&&◌}
use Prim.Native.Nat.{ℕ, ◌<◌}
use lib.Dec.{eqb, leb}
use borrow.Author.Tests.{eq-eqb, ne_eqb, le-leb, lt-leb}
use Rattle.xor.proofs.Cases.{and_both}
use Rattle.codes.specs.declared.Shape.{Shape}
use Rattle.codes.specs.Shape.{rows, disks}
use Rattle.refusals.specs.Refusals.{fault, outside, refusal}
use Rattle.std.proofs.Common.{rules}
use Rattle.refusals.proofs.Answer.{not_none}
use Rattle.refusals.proofs.Order.{Gives, hit, miss, right, beyond, inside}
use Rattle.spare.specs.Refusals.{spare_faults}
use Rattle.show.specs.Refusals.{show_faults}
use Rattle.spare.proofs.Refused.{spare_accepted}
use Rattle.show.proofs.Refused.{show_after}
use Rattle.show.proofs.check_show.Goals as goal

-- past the test of the row the columns decide, the rows done and whether the row is ready
module _ (s : Shape) (bytes spare k done row column : ℕ) (none : refusal (spare_faults s bytes spare) ≡ 0) {m : ℕ} (high : m ≡ rows s) (low : row < m) where
  past_row : {r : ℕ} → Gives (outside column (disks s) ∷ outside k (disks s) ∷ outside done s.p ∷ fault 10 (eqb column k && leb done row) ∷ []) r
      → r ≡ refusal (show_faults s bytes spare k done row column)
  past_row g = (show_after s bytes spare k done row column).own none (miss (inside high low) g)

  -- and past the tests of the columns
  module _ {n : ℕ} (wide : n ≡ disks s) (there : column < n) (lost : k < n) where
    past_columns : {r : ℕ} → Gives (outside done s.p ∷ fault 10 (eqb column k && leb done row) ∷ []) r → r ≡ refusal (show_faults s bytes spare k done row column)
    past_columns g = past_row (miss (inside wide there) (miss (inside wide lost) g))

pub returns-in_err-check_spare : goal.returns-in_err-check_spare
returns-in_err-check_spare c = let a = c.args in let e = (show_after a.shape a.bytes a.spare a.k a.done a.row a.column).earlier c.in_err-check_spare.ensures (not_none _) in search rules

pub row_count-requires : goal.row_count-requires
row_count-requires c = let a = c.args in (spare_accepted a.shape a.bytes a.spare (sym c.in_ok-check_spare.ensures)).0

pub returns-then-row_count-row : goal.returns-then-row_count-row
returns-then-row_count-row c =
    let a = c.args in
    (show_after a.shape a.bytes a.spare a.k a.done a.row a.column).own (sym c.in_ok-check_spare.ensures) (hit (beyond c.row_count.ensures c.if-row_count-row.true))

pub disk_count-columns-requires : goal.disk_count-columns-requires
disk_count-columns-requires c = let a = c.args in (spare_accepted a.shape a.bytes a.spare (sym c.in_ok-check_spare.ensures)).0

pub returns-then-columns-column : goal.returns-then-columns-column
returns-then-columns-column c =
    let a = c.args in
    past_row a.shape a.bytes a.spare a.k a.done a.row a.column (sym c.in_ok-check_spare.ensures) c.row_count.ensures c.if-row_count-row.false
    (hit (beyond c.disk_count-columns.ensures c.if-columns-column.true))

pub returns-then-columns-k : goal.returns-then-columns-k
returns-then-columns-k c =
    let a = c.args in
    let n = c.disk_count-columns.ensures in
    past_row a.shape a.bytes a.spare a.k a.done a.row a.column (sym c.in_ok-check_spare.ensures) c.row_count.ensures c.if-row_count-row.false
    (miss (inside n c.if-columns-column.false) (hit (beyond n c.if-columns-k.true)))

pub returns-then-shape-done : goal.returns-then-shape-done
returns-then-shape-done c =
    let a = c.args in
    past_columns a.shape a.bytes a.spare a.k a.done a.row a.column (sym c.in_ok-check_spare.ensures) c.row_count.ensures c.if-row_count-row.false c.disk_count-columns.ensures c.if-columns-column.false c.if-columns-k.false
    (hit (le-leb _ _ c.if-shape-done.true))

pub returns-then-column-k : goal.returns-then-column-k
returns-then-column-k c =
    let a = c.args in
    past_columns a.shape a.bytes a.spare a.k a.done a.row a.column (sym c.in_ok-check_spare.ensures) c.row_count.ensures c.if-row_count-row.false c.disk_count-columns.ensures c.if-columns-column.false c.if-columns-k.false
    (miss (lt-leb _ _ c.if-shape-done.false) (miss (rw (ne_eqb _ _ c.if-column-k.true) refl) right))

pub returns-then-done-row : goal.returns-then-done-row
returns-then-done-row c =
    let a = c.args in
    past_columns a.shape a.bytes a.spare a.k a.done a.row a.column (sym c.in_ok-check_spare.ensures) c.row_count.ensures c.if-row_count-row.false c.disk_count-columns.ensures c.if-columns-column.false c.if-columns-k.false
    (miss (lt-leb _ _ c.if-shape-done.false) (hit (and_both (eq-eqb _ _ c.if-column-k.false) (le-leb a.done a.row c.if-done-row.true))))

pub returns : goal.returns
returns c =
    let a = c.args in
    past_columns a.shape a.bytes a.spare a.k a.done a.row a.column (sym c.in_ok-check_spare.ensures) c.row_count.ensures c.if-row_count-row.false c.disk_count-columns.ensures c.if-columns-column.false c.if-columns-k.false
    (miss (lt-leb _ _ c.if-shape-done.false) (miss (rw (eq-eqb _ _ c.if-column-k.false) (lt-leb a.done a.row c.if-done-row.false)) right))
