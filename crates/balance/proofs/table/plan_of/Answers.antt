-- `balance::table::plan_of` meets its contract. The place is inside the table, and what is read there is the table's plan.
use mathlib.Core.Path.{ap}
use Prim.Native.Nat.{ℕ, ◌+◌, ◌<◌}
use native.Mathlib.Omega.{arith}
use lib.ListN.{get_or}
use Rattle.balance.specs.Table.{plans}
use Rattle.balance.proofs.Offered.{ends_inside}
use Rattle.balance.proofs.table.plan_of.Goals as goal

pub overflow_add-result : goal.overflow_add-result
overflow_add-result c =
    let inside : c.first_plan.result + c.args.k < 94 = omega (arith, c.first_plan.ensures, ends_inside c.args.p c.args.k c.requires.0 c.requires.1) in
    record { fits = omega (arith, inside) }

pub offset_bounds-first_plan : goal.offset_bounds-first_plan
offset_bounds-first_plan c =
    let inside : c.first_plan.result + c.args.k < 94 = omega (arith, c.first_plan.ensures, ends_inside c.args.p c.args.k c.requires.0 c.requires.1) in
    record { fits = omega (arith, inside) }

pub bounds-first_plan : goal.bounds-first_plan
bounds-first_plan c =
    let inside : c.first_plan.result + c.args.k < 94 = omega (arith, c.first_plan.ensures, ends_inside c.args.p c.args.k c.requires.0 c.requires.1) in
    inside

pub returns : goal.returns
unfolding plans
returns c = ap (λ (n : ℕ). get_or plans (n + c.args.k) 0) c.first_plan.ensures
