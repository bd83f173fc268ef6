-- `lanes::lane_agrees` meets its contract. The totals that the checks need are in their lanes.
use Rattle.lanes.proofs.Lanes.{checks_say, within_union}
use Rattle.lanes.proofs.lane_agrees.Goals as goal

pub put_totals-failing-requires : goal.put_totals-failing-requires
put_totals-failing-requires c = (c.requires.0, within_union _ _ _ c.requires.1 c.requires.2)

pub returns : goal.returns
returns c =
    let w = c.args.window.now in
    let totals = c.put_totals-failing.ensures in
    (checks_say w.shape w.inside.formed w.stripe.now c.args.set w.at w.n _ totals.0 _ totals.1 c.args.checks.now _ c.requires.1 c.requires.2 c.lanes_agree.ensures, totals.0.long)
