-- `refusals::check_write` meets its contract. Each return gives the first refusal in order, by the tests before it.
use mathlib.Core.Path.{◌≡◌, sym, ap, ◌∙◌}
use mathlib.Core.List.{[], ◌∷◌}
use mathlib.Core.Bool.{false, not}
use Prim.Native.Nat.{ℕ}
use native.Mathlib.Omega.{arith}
use lib.Dec.{eqb, leb}
use borrow.Author.Tests.{eq-eqb, ne_eqb}
use Rattle.codes.specs.declared.Shape.{Shape}
use Rattle.codes.specs.Shape.{rows, disks}
use Rattle.codes.specs.Geometry.{cell_at}
use Rattle.codes.specs.Encoded.{is_parity}
use Rattle.refusals.specs.Refusals.{fault, refusal, stripe_faults, write_faults}
use Rattle.std.proofs.Common.{rules}
use Rattle.refusals.proofs.Answer.{not_none}
use Rattle.refusals.proofs.Order.{Gives, hit, miss, right, beyond, inside}
use Rattle.refusals.proofs.Refused.{accepted, write_after}
use Rattle.refusals.proofs.check_write.Goals as goal

-- past the checks of the stripe, the row and the column the faults that are left decide
module _ (s : Shape) (bytes row column new : ℕ) (right_of : refusal (stripe_faults s bytes) ≡ 0) (low : leb (rows s) row ≡ false) (there : leb (disks s) column ≡ false) where
  left : {r : ℕ} → Gives (fault 7 (is_parity s (cell_at s row column)) ∷ fault 8 (not (eqb new s.cell)) ∷ []) r → r ≡ refusal (write_faults s bytes row column new)
  left g = (write_after s bytes row column new).own right_of (miss low (miss there g))

pub returns-in_err-check_stripe : goal.returns-in_err-check_stripe
returns-in_err-check_stripe c = let a = c.args in let e = (write_after a.shape a.bytes a.row a.column a.new).earlier c.in_err-check_stripe.ensures (not_none _) in search rules

pub row_count-requires : goal.row_count-requires
row_count-requires c = (accepted c.args.shape c.args.bytes (sym c.in_ok-check_stripe.ensures)).0

pub returns-then-row_count-row : goal.returns-then-row_count-row
returns-then-row_count-row c =
    let a = c.args in
    (write_after a.shape a.bytes a.row a.column a.new).own (sym c.in_ok-check_stripe.ensures) (hit (beyond c.row_count.ensures c.if-row_count-row.true))

pub disk_count-requires : goal.disk_count-requires
disk_count-requires c = (accepted c.args.shape c.args.bytes (sym c.in_ok-check_stripe.ensures)).0

pub returns-then-disk_count-column : goal.returns-then-disk_count-column
returns-then-disk_count-column c =
    let a = c.args in
    (write_after a.shape a.bytes a.row a.column a.new).own (sym c.in_ok-check_stripe.ensures)
    (miss (inside c.row_count.ensures c.if-row_count-row.false) (hit (beyond c.disk_count.ensures c.if-disk_count-column.true)))

pub parity_at-requires : goal.parity_at-requires
parity_at-requires c = (
  (accepted c.args.shape c.args.bytes (sym c.in_ok-check_stripe.ensures)).0,
  omega (arith, c.row_count.ensures, c.if-row_count-row.false),
  omega (arith, c.disk_count.ensures, c.if-disk_count-column.false),
)

pub returns-then-parity_at : goal.returns-then-parity_at
returns-then-parity_at c =
    let a = c.args in
    left a.shape a.bytes a.row a.column a.new (sym c.in_ok-check_stripe.ensures) (inside c.row_count.ensures c.if-row_count-row.false)
    (inside c.disk_count.ensures c.if-disk_count-column.false) (hit (sym c.parity_at.ensures ∙ c.if-parity_at.true))

pub returns-then-new-shape : goal.returns-then-new-shape
returns-then-new-shape c =
    let a = c.args in
    left a.shape a.bytes a.row a.column a.new (sym c.in_ok-check_stripe.ensures) (inside c.row_count.ensures c.if-row_count-row.false)
    (inside c.disk_count.ensures c.if-disk_count-column.false)
    (miss (sym c.parity_at.ensures ∙ c.if-parity_at.false) (hit (ap not (ne_eqb _ _ c.if-new-shape.true))))

pub returns : goal.returns
returns c =
    let a = c.args in
    left a.shape a.bytes a.row a.column a.new (sym c.in_ok-check_stripe.ensures) (inside c.row_count.ensures c.if-row_count-row.false)
    (inside c.disk_count.ensures c.if-disk_count-column.false)
    (miss (sym c.parity_at.ensures ∙ c.if-parity_at.false) (miss (ap not (eq-eqb _ _ c.if-new-shape.false)) right))
