-- `decide::list_lost` meets its contract. The loop's invariant: the lost cells below c are listed, and there are u of them.
use mathlib.Core.Path.{ap, ◌∙◌}
use native.Mathlib.Omega.{arith}
use Rattle.std.proofs.lemmas.List.{length-map, map-set}
use Rattle.codes.proofs.Shapes.{cells_high, small_equations}
use Rattle.decide.specs.Solver.{cells_of}
use Rattle.decide.proofs.Lists.{listed_none, listed_over, listed_with, listed_is, listed_end, listed_more}
use Rattle.decide.proofs.list_lost.Goals as goal
use Rattle.decide.proofs.list_lost.Goals.{then-map-c+else-u-most, else-map-c}

pub loop-c-init : goal.loop-c-init
loop-c-init c = (omega arith, listed_none _ _ (length-map _ _ ∙ c.told-lost))

pub bounds-map-c : goal.bounds-map-c
bounds-map-c c = omega (arith, c.cell_numbers-n.ensures, cells_high c.args.shape c.requires)

pub returns-then-u-most : goal.returns-then-u-most
returns-then-u-most c = listed_more _ _ c.loop-c.c _ _ (omega (arith, c.cell_numbers-n.ensures)) (c.if-u-most.true ∙ c.equation_count-most.ensures) c.if-map-c.true c.loop-c.invariant.1

pub bounds-lost-u : goal.bounds-lost-u
bounds-lost-u c = omega (arith, c.equation_count-most.ensures, small_equations c.args.shape c.requires)

pub loop-c-preserved : goal.loop-c-preserved
loop-c-preserved c =
    let turn = c.loop-c in
    elim c.if-map-c.branch [
      | then-map-c+else-u-most w ↦ (
        omega arith,
        listed_is _ _ _ _ _ _ (ap cells_of w.lost-is ∙ map-set _ _ _ _) w.u-is
            (listed_with _ _ _ _ w.if-map-c.true (omega (arith, turn.invariant.0, c.equation_count-most.ensures, small_equations c.args.shape c.requires)) turn.invariant.1),
      )
      | else-map-c w ↦ (omega arith, listed_is _ _ _ _ _ _ (ap cells_of w.lost-is) w.u-is (listed_over _ _ _ _ w.if-map-c.false turn.invariant.1))
    ]

pub returns : goal.returns
returns c = listed_end _ _ c.loop-c.c _ _ (omega (arith, c.cell_numbers-n.ensures)) (omega (arith, c.equation_count-most.ensures)) c.loop-c.invariant.1
