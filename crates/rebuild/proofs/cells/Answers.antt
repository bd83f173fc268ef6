-- `rebuild::cells` meets its contract. What is wrong with the numbers comes first.
use mathlib.Core.Path.{sym, ◌∙◌}
use Rattle.std.proofs.Common.{rules}
use Rattle.refusals.proofs.Answer.{not_none}
use Rattle.refusals.proofs.Refused.{cells_accepted}
use Rattle.rebuild.proofs.Calls.{rebuilds_refused, rebuilds_decided}
use Rattle.decide.specs.Survivors.{named}
use Rattle.decide.proofs.Marks.{named_there}
use Rattle.rebuild.proofs.cells.Goals as goal

pub returns-in_err-check_cells : goal.returns-in_err-check_cells
returns-in_err-check_cells c = let e = let a = c.args in rebuilds_refused a.shape (named a.shape a.lost.now) _ a.stripe.now _ c.in_err-check_cells.ensures (not_none _) in search rules

pub mark_cells-map-requires : goal.mark_cells-map-requires
mark_cells-map-requires c = let right = cells_accepted _ _ _ (sym c.in_ok-check_cells.ensures) in (right.0, right.2)

pub rebuild_lost-requires : goal.rebuild_lost-requires
rebuild_lost-requires c =
    let right = cells_accepted _ _ _ (sym c.in_ok-check_cells.ensures) in
    (right.0, right.1, λ d l p. named_there _ right.0 _ d l (sym (c.mark_cells-map.ensures d) ∙ p))

pub returns : goal.returns
returns c = rebuilds_decided _ _ _ _ _ _ _ (sym c.in_ok-check_cells.ensures) (λ k l. c.mark_cells-map.ensures k) c.rebuild_lost.ensures
