-- `spare::run_full` meets its contract. The loop's invariant: the rows from the first up to row i are rebuilt, and no other byte has changed;
-- the places stay listed, but for column k's slots.
use mathlib.Core.Path.{◌≡◌, refl, sym, ◌∙◌}
use mathlib.Core.List.{List}
use Prim.Native.Nat.{ℕ, ◌+◌, ◌*◌, ◌≤◌, ◌<◌}
use native.Mathlib.Omega.{arith}
use lib.ListN.{length}
use Rattle.codes.specs.declared.Shape.{Shape}
use Rattle.codes.specs.Shape.{rows, WellFormed}
use Rattle.spare.specs.Right.{RowsFit}
use Rattle.spare.specs.Run.{RowsRebuilt}
use Rattle.spare.proofs.Column.{row_ends, row_small}
use Rattle.spare.proofs.Parts.{below, part_long, rows_none, rows_more, rows_end}
use Rattle.spare.proofs.run_full.Goals as goal

-- row i is one of the stripe's, and where its part of the spare ends
module _ (s : Shape) (w : WellFormed s) (bytes spare first n i : ℕ) (fit : RowsFit s bytes spare first n) (less : i < first + n) where
  row : i < rows s
  row = below first n i fit.inside less

  small : i * s.cell + s.cell ≤ 126976
  small = row_small s w i row

  ends : {k plan m : ℕ} {stripe old mid : List ℕ} → length old ≡ spare → RowsRebuilt s k plan first m stripe old mid → i * s.cell + s.cell ≤ length mid
  ends {mid = mid} e h = row_ends s (length mid) (h.long ∙ e ∙ fit.whole) i row

pub leading-lead-requires : goal.leading-lead-requires
leading-lead-requires c = let of = c.args.lost.column in (of.formed, of.rdp)

pub list_places-requires : goal.list_places-requires
list_places-requires c = let of = c.args.lost.column in (of.formed, of.rdp, c.requires.1, c.leading-lead.ensures, refl)

pub swap_row_parity-requires : goal.swap_row_parity-requires
swap_row_parity-requires c = let of = c.args.lost.column in (of, c.list_places.ensures.0, c.list_places.ensures.1)

pub loop-i-init : goal.loop-i-init
loop-i-init c = let listed = c.swap_row_parity.ensures in (listed.0, listed.1, rows_none _ c.args.lost.column.formed _ _ _ _ _)

pub overflow_mul-at : goal.overflow_mul-at
overflow_mul-at c = omega (arith, small _ c.args.lost.column.formed _ _ _ _ _ c.requires.0 c.loop-i-test.true)

pub overflow_add-to : goal.overflow_add-to
overflow_add-to c = omega (arith, small _ c.args.lost.column.formed _ _ _ _ _ c.requires.0 c.loop-i-test.true)

pub slice_bounds-rebuild_row-end : goal.slice_bounds-rebuild_row-end
slice_bounds-rebuild_row-end c = sym c.loop-i.invariant.1.long

pub slice_bounds-rebuild_row-end-in-loop-i : goal.slice_bounds-rebuild_row-end-in-loop-i
slice_bounds-rebuild_row-end-in-loop-i c = ends _ c.args.lost.column.formed _ _ _ _ _ c.requires.0 c.loop-i-test.true refl c.loop-i.invariant.2

pub rebuild_row-requires : goal.rebuild_row-requires
rebuild_row-requires c =
    let w = c.args.lost.column.formed in
    let fit = c.requires.0 in
    let inv = c.loop-i.invariant in
    record {
      row = row _ w _ _ _ _ _ fit c.loop-i-test.true;
      full = c.requires.1;
      leads = c.leading-lead.ensures;
      long = fit.long;
      level = inv.0;
      slant = inv.1;
      whole = part_long c.loop-i.spare _ _ (ends _ w _ _ _ _ _ fit c.loop-i-test.true refl inv.2);
    }

pub loop-i-preserved : goal.loop-i-preserved
loop-i-preserved c =
    let a = c.args in
    let at = c.loop-i in
    let done = c.rebuild_row.ensures in (
      done.level,
      done.slant,
      rows_more a.lost.shape a.lost.column.formed a.lost.k a.lost.plan _ a.stripe.now _ at.spare _ at.i (omega arith) at.invariant.2
          (ends _ c.args.lost.column.formed _ _ _ _ _ c.requires.0 c.loop-i-test.true refl at.invariant.2) done.put,
    )

pub returns : goal.returns
returns c = rows_end _ c.args.lost.column.formed _ _ _ _ _ _ _ _ (omega arith) c.loop-i.invariant.2
