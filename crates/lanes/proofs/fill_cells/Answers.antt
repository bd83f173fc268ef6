-- `lanes::fill_cells` meets its contract. The loop's invariant: the lost cells so far are mended in this lane.
use mathlib.Core.Path.{sym, ap, ◌∙◌, subst}
use Prim.Native.Nat.{ℕ, ◌+◌}
use lib.ListN.{get_or}
use Rattle.xor.specs.Xor.{◌⊕◌}
use Rattle.lanes.specs.Lanes.{lane_sum}
use Rattle.xor.specs.Runs.{Put}
use Rattle.lanes.proofs.Lanes.{cell_inside, cell_exists, lanes_inside, lanes_added, filled_none, filled_at, filled_end}
use Rattle.codes.specs.Geometry.{place}
use Rattle.codes.proofs.Shapes.{length_high}
use Rattle.codes.proofs.Geometry.{place_inside}
use Rattle.decide.proofs.Lists.{cell_at, set_at}
use native.Mathlib.Omega.{arith}
use Rattle.lanes.proofs.fill_cells.Goals as goal

pub loop-one-init : goal.loop-one-init
loop-one-init c = filled_none _ c.requires.0.formed _ _ _ _ _

pub place_of-requires : goal.place_of-requires
place_of-requires c =
    let cells = c.args.way.now.cells in
    let here = c.loop-one-test.true in
    (c.requires.0.formed, cell_inside _ c.args.way.now.lost.now cells _ here, cell_exists _ c.args.way.now.lost.now cells _ here)

pub overflow_add-to : goal.overflow_add-to
overflow_add-to c =
    let w = c.requires.0 in
    let cells = c.args.way.now.cells in
    let here = c.loop-one-test.true in
    omega (arith, c.place_of.ensures, place_inside c.args.way.now.shape w.formed _ (cell_inside _ c.args.way.now.lost.now cells _ here) (cell_exists _ c.args.way.now.lost.now cells _ here), length_high c.args.way.now.shape w.formed, w.ends)

pub add_sum-requires : goal.add_sum-requires
add_sum-requires c =
    let w = c.requires.0 in
    let cells = c.args.way.now.cells in
    let here = c.loop-one-test.true in (
      lanes_inside c.args.lanes.now _ _ c.list_members-places.ensures (0 + c.args.n) _ (omega (arith, c.requires.1.few)) c.requires.1.space,
      omega (arith, c.place_of.ensures, place_inside c.args.way.now.shape w.formed _ (cell_inside _ c.args.way.now.lost.now cells _ here) (cell_exists _ c.args.way.now.lost.now cells _ here), w.long, w.ends, c.loop-one.invariant.long),
    )

pub loop-one-preserved : goal.loop-one-preserved
loop-one-preserved c =
    let a = c.args in
    let turn = c.loop-one in
    let k = c.loop-one.one-index in
    let here = c.loop-one-test.true in
    let to = c.place_of.result in
    filled_at _ c.requires.0.formed _ _ k a.at a.n _ turn.stripe _ _ turn.invariant c.requires.0.ends
    (c.requires.2.sum k here) (c.args.way.now.cells.there k here) to (c.place_of.ensures ∙ sym (ap (place a.way.now.shape) (cell_at a.way.now.lost.now k)))
    (subst (λ (x : ℕ). Put turn.stripe (to + a.at) a.n (λ i. get_or turn.stripe (to + a.at + i) 0 ⊕ lane_sum a.lanes.now x i) c.add_sum.new.d) (sym (set_at a.way.now.lost.now k))
    (lanes_added a.lanes.now _ _ c.list_members-places.ensures turn.stripe _ _ a.n c.add_sum.ensures.put))

pub returns : goal.returns
returns c = filled_end _ c.requires.0.formed _ _ _ _ _ _ _ _ (omega arith) c.loop-one.invariant
