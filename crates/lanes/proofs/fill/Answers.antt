-- `lanes::fill` meets its contract. The loop's invariant: the lost cells are mended in the bytes below `at`.
use mathlib.Core.Path.{◌∙◌}
use Rattle.lanes.proofs.Lanes.{filled_nowhere, filled_lane, filled_to, filled_whole}
use native.Mathlib.Omega.{arith}
use Rattle.lanes.proofs.fill.Goals as goal

pub loop-at-init : goal.loop-at-init
loop-at-init c = (filled_nowhere _ c.args.way.now.formed _ _ _ _, c.requires.1)

pub fill_lane-requires : goal.fill_lane-requires
fill_lane-requires c =
    let turn = c.loop-at in (
      record { formed = c.args.way.now.formed; long = turn.invariant.0.long ∙ c.requires.0; ends = omega arith },
      record { few = omega arith; space = turn.invariant.1 },
      c.union_of-set.ensures,
    )

pub loop-at-preserved : goal.loop-at-preserved
loop-at-preserved c =
    let turn = c.loop-at in
    let lane = filled_lane _ c.args.way.now.formed _ _ _ turn.at _ _ _ _ turn.invariant.0 c.fill_lane.ensures.0 in
    (filled_to _ c.args.way.now.formed _ _ _ _ _ _ _ _ (omega arith) lane, c.fill_lane.ensures.1)

-- the loop ends past the last lane, or with it
pub returns : goal.returns
returns c = filled_whole _ c.args.way.now.formed _ _ _ _ _ _ c.loop-at-test.false c.loop-at.invariant.0

pub returns-2 : goal.returns-2
returns-2 c =
    let turn = c.loop-at in
    filled_whole _ c.args.way.now.formed _ _ _ _ _ _ (omega arith) (filled_lane _ c.args.way.now.formed _ _ _ turn.at _ _ _ _ turn.invariant.0 c.fill_lane.ensures.0)
