-- `stripe::write_cell` meets its contract. The data cell stays until its difference is in the parity cells that depend on it, and is written last.
use mathlib.Core.Path.{refl, sym, ◌∙◌}
use Rattle.codes.specs.Shape.{cell_number}
use Rattle.codes.proofs.Positions.{cell_inside}
use Rattle.codes.proofs.Geometry.{cell_there_at}
use Rattle.codes.proofs.Units.{depend_count}
use Rattle.stripe.proofs.Writing.{write_from, from_fits, written, depending}
use Rattle.stripe.proofs.write_cell.Goals as goal

pub dependents_of-set-requires : goal.dependents_of-set-requires
dependents_of-set-requires c = (c.requires.0.formed, c.requires.0.cell)

pub spread-requires : goal.spread-requires
spread-requires c = (write_from c.args.shape _ c.args.row c.args.column _ _ _ _ c.requires.0 c.requires.1 refl refl, c.dependents_of-set.ensures.below)

pub put_run-requires : goal.put_run-requires
put_run-requires c = from_fits _ _ _ _ (write_from c.args.shape _ c.args.row c.args.column _ _ c.args.stripe.now c.args.new.now c.requires.0 c.requires.1 refl refl) c.spread.new.stripe c.spread.ensures.long

pub returns : goal.returns
returns c =
    let cell = cell_number c.args.shape c.args.row c.args.column in
    let set = c.dependents_of-set in
    let plain = c.requires.0.cell.plain in (
      written c.args.shape c.requires.0.formed cell plain set.result set.ensures (cell_inside c.args.shape c.requires.0.formed c.args.row c.args.column c.requires.0.cell.low c.requires.0.cell.right)
          (cell_there_at c.args.shape c.requires.0.formed c.args.row c.args.column c.requires.0.cell.low ∙ c.requires.0.there)
          _ _ c.args.new.now c.args.stripe.now _ _ c.requires.1 c.requires.0.whole c.spread.ensures c.put_run.ensures,
      depending c.args.shape c.requires.0.formed cell plain set.result set.ensures _ (depend_count c.args.shape c.requires.0.formed cell set.result plain set.type_inv set.ensures ∙ sym c.count_members.ensures),
    )
