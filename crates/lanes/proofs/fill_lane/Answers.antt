-- `lanes::fill_lane` meets its contract. The totals that the sets need are in their lanes.
use Rattle.lanes.proofs.Lanes.{totals_of, sets_long, lanes_long, within_union}
use Rattle.lanes.proofs.fill_lane.Goals as goal

pub invariant_of-window : goal.invariant_of-window
invariant_of-window c = record { inside = c.requires.0 }

pub put_totals-requires : goal.put_totals-requires
put_totals-requires c = let way = c.args.way.now in (c.requires.1, within_union _ _ _ (sets_long _ way.lost.now way.gives) c.requires.2)

pub fill_cells-requires : goal.fill_cells-requires
fill_cells-requires c =
    let a = c.args in
    let way = a.way.now in
    let totals = c.put_totals.ensures.0 in (
      c.requires.0,
      record { few = c.requires.1.few; space = totals.long },
      lanes_long way.shape a.stripe.now way.lost.now a.at a.n _ (totals_of way.shape way.formed a.stripe.now a.set a.at a.n _ totals _ (sets_long way.shape way.lost.now way.gives) c.requires.2),
    )

pub returns : goal.returns
returns c = (c.fill_cells.ensures, c.put_totals.ensures.0.long)
