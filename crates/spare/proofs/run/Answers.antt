-- `spare::run` meets its contract: a call that is not refused rebuilds so many rows, and each other leaves every byte.
use mathlib.Core.Path.{◌≡◌, sym, subst}
use mathlib.Core.Bool.{true}
use Prim.Native.Nat.{ℕ}
use native.Mathlib.Nat.{min-le_right}
use native.Mathlib.Omega.{arith}
use Rattle.plan.specs.Plan.{is_accepted}
use Rattle.plan.specs.Right.{RdpColumn}
use Rattle.plan.proofs.Column.{last_row}
use Rattle.spare.proofs.Refused.{run_asked, run_accepted}
use Rattle.spare.proofs.Budget.{run_done}
use Rattle.spare.proofs.run.Goals as goal

pub rows_left-left-requires : goal.rows_left-left-requires
rows_left-left-requires c = let r = run_accepted _ _ _ _ _ _ (sym c.in_ok-check_run.ensures) in (r.buffers.of.formed, r.buffers.of.rdp, r.start)

pub column_of-column-requires : goal.column_of-column-requires
column_of-column-requires c = let none = sym c.in_ok-check_run.ensures in ((run_accepted _ _ _ _ _ _ none).buffers.of.formed, run_asked _ _ _ _ _ _ none)

pub invariant_of-lost : goal.invariant_of-lost
invariant_of-lost c =
    let a = c.args in
    let r = run_accepted _ _ _ _ _ _ (sym c.in_ok-check_run.ensures) in
    let lies = sym c.column_of-column.ensures in
    record { column = subst (RdpColumn a.shape) lies r.buffers.of; accepted = subst (λ (j : ℕ). is_accepted a.shape j a.plan ≡ true) lies r.accepted }

pub run_rows-requires : goal.run_rows-requires
run_rows-requires c =
    let r = run_accepted _ _ _ _ _ _ (sym c.in_ok-check_run.ensures) in
    record {
      long = r.buffers.long;
      whole = r.buffers.whole;
      inside = omega (arith, c.min-n.ensures, c.rows_left-left.ensures, min-le_right c.args.budget c.rows_left-left.result, r.start, last_row _ _ r.buffers.of);
    }

pub returns : goal.returns
returns c =
    let a = c.args in
    run_done a.shape a.k a.plan a.first a.budget a.stripe.now a.spare.now c.in_ok-check_run.ensures _ _ _ _
    c.rows_left-left.ensures c.min-n.ensures c.column_of-column.ensures c.run_rows.ensures
