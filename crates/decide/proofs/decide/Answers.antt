-- `decide::decide` meets its contract. The lost cells are more than the equations; or the method stops; or it passes and the sets are gathered.
use mathlib.Core.Path.{◌≡◌, refl, sym, ◌∙◌, subst}
use native.Mathlib.Omega.{arith}
use lib.ListN.{length}
use Rattle.codes.specs.Shape.{equations}
use Rattle.codes.proofs.Shapes.{small_equations}
use Rattle.decide.specs.Deciding.{Decision}
use Rattle.bits.proofs.Limits.{within_and}
use Rattle.decide.proofs.Lists.{first_zeros_at, first_zeros_few, for_equations, for_lost}
use Rattle.decide.proofs.Solving.{decision_more, decision_open, chosen_below_all, within_unused, decision_solved, solver_given}
use Rattle.decide.proofs.decide.Goals as goal

pub returns-in_err-listed : goal.returns-in_err-listed
returns-in_err-listed c = subst (Decision _ _) (sym c.from_residual.ensures) (decision_more _ c.requires.0 _ c.requires.1 c.in_err-listed.ensures)

-- there is room for a mask for each equation, and for an equation for each lost cell
pub slice_bounds-rows-end : goal.slice_bounds-rows-end
slice_bounds-rows-end c = omega (arith, c.equation_count-n.ensures, small_equations c.args.shape c.requires.0)

pub slice_bounds-sources-end : goal.slice_bounds-sources-end
slice_bounds-sources-end c = omega (arith, c.equation_count-n.ensures, small_equations c.args.shape c.requires.0)

pub slice_bounds-chosen-end : goal.slice_bounds-chosen-end
slice_bounds-chosen-end c = omega (arith, c.in_ok-listed.ensures.few, small_equations c.args.shape c.requires.0)

pub slice_bounds-rows-end-2 : goal.slice_bounds-rows-end-2
slice_bounds-rows-end-2 c = c.equation_count-n.ensures ∙ sym (for_equations _ c.requires.0 _ c.equation_count-n.ensures)

pub slice_bounds-sources-end-2 : goal.slice_bounds-sources-end-2
slice_bounds-sources-end-2 c = c.equation_count-n.ensures ∙ sym (for_equations _ c.requires.0 _ c.equation_count-n.ensures)

pub slice_bounds-chosen-end-2 : goal.slice_bounds-chosen-end-2
slice_bounds-chosen-end-2 c = sym (for_lost _ c.requires.0 _ c.in_ok-listed.ensures.few)

pub hold_lost-requires : goal.hold_lost-requires
hold_lost-requires c =
    let listed = c.in_ok-listed.ensures in
    (c.requires.0, omega (arith, listed.few, small_equations c.args.shape c.requires.0), listed.lists.inside, for_equations _ c.requires.0 _ c.equation_count-n.ensures, first_zeros_at 64 _)

pub eliminate-requires : goal.eliminate-requires
eliminate-requires c =
    let rows : length c.hold_lost.new.rows ≡ equations c.args.shape = c.hold_lost.auto.rows ∙ for_equations _ c.requires.0 _ c.equation_count-n.ensures in
    (omega (arith, rows, small_equations c.args.shape c.requires.0), for_equations _ c.requires.0 _ c.equation_count-n.ensures ∙ sym rows, first_zeros_few 64 _)

pub returns-in_default : goal.returns-in_default
returns-in_default c =
    (decision_open _ c.requires.0 _ c.requires.1 _ _ c.in_ok-listed.ensures.lists _ c.hold_lost.ensures _ _ _ _ _ (c.hold_lost.auto.rows ∙ for_equations _ c.requires.0 _ c.equation_count-n.ensures) (for_lost _ c.requires.0 _ c.in_ok-listed.ensures.few) c.eliminate.ensures c.in_default.is)

pub give_sets-requires : goal.give_sets-requires
give_sets-requires c =
    let sources : length c.eliminate.new.sources ≡ equations c.args.shape = c.eliminate.auto.sources ∙ for_equations _ c.requires.0 _ c.equation_count-n.ensures in
    let chosen : length c.eliminate.new.chosen ≡ length c.in_ok-listed.listed.now = c.eliminate.auto.chosen ∙ for_lost _ c.requires.0 _ c.in_ok-listed.ensures.few in
    (chosen, λ k l. omega (arith, sources, chosen_below_all _ c.requires.0 _ c.requires.1 _ _ c.in_ok-listed.ensures.lists _ c.hold_lost.ensures _ _ _ _ _ (c.hold_lost.auto.rows ∙ for_equations _ c.requires.0 _ c.equation_count-n.ensures) (for_lost _ c.requires.0 _ c.in_ok-listed.ensures.few) c.eliminate.ensures _ c.in-Some.is k (omega (arith, chosen))))

pub list_checks-tests-requires : goal.list_checks-tests-requires
list_checks-tests-requires c =
    let sources : length c.eliminate.new.sources ≡ equations c.args.shape = c.eliminate.auto.sources ∙ for_equations _ c.requires.0 _ c.equation_count-n.ensures in
    let unused = within_unused _ c.requires.0 _ c.requires.1 _ _ c.in_ok-listed.ensures.lists _ c.hold_lost.ensures _ _ _ _ _ (c.hold_lost.auto.rows ∙ for_equations _ c.requires.0 _ c.equation_count-n.ensures) (for_lost _ c.requires.0 _ c.in_ok-listed.ensures.few) c.eliminate.ensures _ c.in-Some.is in
    rw sources (search (within_and, unused))

pub invariant_of-result : goal.invariant_of-result
invariant_of-result c =
    let solver = solver_given _ _ _ _ _ _ c.give_sets.ensures.same c.give_sets.auto.lost
    (decision_solved _ c.requires.0 _ c.requires.1 _ _ c.in_ok-listed.ensures.lists _ c.hold_lost.ensures _ _ _ _ _ (c.hold_lost.auto.rows ∙ for_equations _ c.requires.0 _ c.equation_count-n.ensures) (for_lost _ c.requires.0 _ c.in_ok-listed.ensures.few) c.eliminate.ensures _ c.in-Some.is
    c.in_ok-listed.ensures.few _ _ (c.eliminate.auto.chosen ∙ for_lost _ c.requires.0 _ c.in_ok-listed.ensures.few) c.give_sets.ensures.given _ c.list_checks-tests.ensures) in
    record {
      formed = c.requires.0;
      cells = record { inside = solver.listed.inside; there = λ k l. c.requires.1 _ (solver.listed.inside k l) (solver.listed.is_lost k l) };
      gives = solver.gives;
      tests = solver.tests;
    }

pub returns : goal.returns
returns c = (
  refl,
  solver_given _ _ _ _ _ _ c.give_sets.ensures.same c.give_sets.auto.lost
      (decision_solved _ c.requires.0 _ c.requires.1 _ _ c.in_ok-listed.ensures.lists _ c.hold_lost.ensures _ _ _ _ _ (c.hold_lost.auto.rows ∙ for_equations _ c.requires.0 _ c.equation_count-n.ensures) (for_lost _ c.requires.0 _ c.in_ok-listed.ensures.few) c.eliminate.ensures _ c.in-Some.is
      c.in_ok-listed.ensures.few _ _ (c.eliminate.auto.chosen ∙ for_lost _ c.requires.0 _ c.in_ok-listed.ensures.few) c.give_sets.ensures.given _ c.list_checks-tests.ensures),
)
