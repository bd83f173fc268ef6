-- `balance::table::first_plan` meets its contract. Each number is where the plans of its prime start.
use mathlib.Core.Path.{refl}
use native.Mathlib.Omega.{arith}
use Rattle.balance.specs.Table.{plans_before}
use Rattle.balance.proofs.Offered.{starts_at_lem, starts_last}
use Rattle.balance.proofs.table.first_plan.Goals as goal

pub returns-in-3 : goal.returns-in-3
unfolding plans_before
returns-in-3 c = starts_at_lem c.in-3.is refl

pub returns-in-7 : goal.returns-in-7
unfolding plans_before
returns-in-7 c = starts_at_lem c.in-7.is refl

pub returns-in-11 : goal.returns-in-11
unfolding plans_before
returns-in-11 c = starts_at_lem c.in-11.is refl

pub returns-in-19 : goal.returns-in-19
unfolding plans_before
returns-in-19 c = starts_at_lem c.in-19.is refl

pub returns-in-23 : goal.returns-in-23
unfolding plans_before
returns-in-23 c = starts_at_lem c.in-23.is refl

pub returns-in_default : goal.returns-in_default
returns-in_default c = starts_last (λ e. omega arith) (λ e. omega arith) (λ e. omega arith) (λ e. omega arith) (λ e. omega arith)
