-- `bad::candidate` meets its contract. The outer loop's invariant: no column below c explains values with these totals.
use mathlib.Core.Path.{refl, sym, ◌∙◌, subst}
use Prim.Native.Nat.{ℕ, ◌<◌}
use native.Mathlib.Omega.{arith}
use Rattle.xor.proofs.Runs.{zero_next}
use Rattle.codes.specs.Shape.{columns, disks}
use Rattle.codes.proofs.Shapes.{columns_high, disks_high, small_equations}
use Rattle.codes.proofs.Geometry.{column_there}
use Rattle.bad.proofs.Explained.{none_more, candidate_here, candidate_none}
use Rattle.bad.proofs.candidate.Goals as goal

pub columns-init : goal.columns-init
columns-init c = (λ f t d l e. absurd (omega arith), omega arith)

pub column_of-requires : goal.column_of-requires
column_of-requires c = (c.requires, omega (arith, c.disk_count-disks.ensures))

pub without_column-rest-requires : goal.without_column-rest-requires
without_column-rest-requires c = (c.requires, subst (λ (j : ℕ). j < columns c.args.shape) (sym c.column_of.ensures) (column_there c.args.shape c.requires _ (omega (arith, c.disk_count-disks.ensures))))

pub loop-q-init : goal.loop-q-init
loop-q-init c = (λ k l. absurd (omega arith), refl)

pub bounds-rest-q : goal.bounds-rest-q
bounds-rest-q c = omega (arith, c.equation_count-equations.ensures, small_equations c.args.shape c.requires)

pub overflow_add-d : goal.overflow_add-d
overflow_add-d c = omega (arith, c.disk_count-disks.ensures, disks_high c.args.shape c.requires, columns_high c.args.shape c.requires)

pub columns-preserved : goal.columns-preserved
columns-preserved c =
    let turn = c.columns in
    let inside : turn.d < disks c.args.shape = omega (arith, c.disk_count-disks.ensures) in (
      none_more c.args.shape c.requires turn.d inside _ c.column_of.ensures _ _ c.without_column-rest.ensures _ _ (omega arith) turn.invariant.0
          (omega (arith, c.equation_count-equations.ensures)) c.if-rest-q-ne0.true,
      omega arith,
    )

pub loop-q-preserved : goal.loop-q-preserved
loop-q-preserved c = (zero_next _ _ c.loop-q.invariant.0 c.if-rest-q-ne0.false, c.loop-q.invariant.1)

pub returns-then-d-disks : goal.returns-then-d-disks
returns-then-d-disks c = candidate_none _ _ _ (c.if-d-disks.true ∙ c.disk_count-disks.ensures) c.columns.invariant.0

pub returns-after-loop-q : goal.returns-after-loop-q
returns-after-loop-q c =
    let turn = c.columns in
    let inside : turn.d < disks c.args.shape = omega (arith, c.disk_count-disks.ensures) in
    candidate_here c.args.shape c.requires turn.d inside _ c.column_of.ensures _ _ c.without_column-rest.ensures _ c.loop-q.invariant.1
    (λ q l. c.loop-q.invariant.0 q (omega (arith, c.equation_count-equations.ensures)))
