-- `show::show` meets its contract. Where the buffer that shown_at named holds the cell.
use mathlib.Core.Path.{ap, ◌∙◌}
use native.Mathlib.Omega.{arith}
use Rattle.std.specs.Prelude.{Ok}
use Rattle.show.proofs.Showing.{stripe_ends, stripe_small, spare_ends, spare_small}
use Rattle.show.proofs.show.Goals as goal

pub overflow_add-result : goal.overflow_add-result
overflow_add-result c = let a = c.args in omega (arith, stripe_small a.shape a.k a.done a.row a.column a.stripe a.spare _ c.shown_at.ensures _ (c.in-Ok-Stripe.is ∙ ap Ok c.in-Ok-Stripe.field-0-is))

pub slice_bounds-result-end : goal.slice_bounds-result-end
slice_bounds-result-end c = let a = c.args in stripe_ends a.shape a.k a.done a.row a.column a.stripe a.spare _ c.shown_at.ensures _ (c.in-Ok-Stripe.is ∙ ap Ok c.in-Ok-Stripe.field-0-is)

pub overflow_add-result-in-Ok-Spare : goal.overflow_add-result-in-Ok-Spare
overflow_add-result-in-Ok-Spare c = let a = c.args in omega (arith, spare_small a.shape a.k a.done a.row a.column a.stripe a.spare _ c.shown_at.ensures _ (c.in-Ok-Spare.is ∙ ap Ok c.in-Ok-Spare.field-0-is))

pub slice_bounds-result-end-in-Ok-Spare : goal.slice_bounds-result-end-in-Ok-Spare
slice_bounds-result-end-in-Ok-Spare c = let a = c.args in spare_ends a.shape a.k a.done a.row a.column a.stripe a.spare _ c.shown_at.ensures _ (c.in-Ok-Spare.is ∙ ap Ok c.in-Ok-Spare.field-0-is)
