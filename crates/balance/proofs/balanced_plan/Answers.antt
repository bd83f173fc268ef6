-- `balance::balanced_plan` meets its contract. It is the refusal, or the plan of the table with three quarters of (p - 1)² reads.
use mathlib.Core.Path.{sym}
use native.Mathlib.Omega.{arith}
use Rattle.balance.proofs.Offered.{offered_bounds}
use Rattle.balance.proofs.Refused.{balance_accepted}
use Rattle.balance.proofs.BalanceFacts.{few, balance_given}
use Rattle.balance.proofs.balanced_plan.Goals as goal

pub overflow_sub-n : goal.overflow_sub-n
overflow_sub-n c = omega (arith, offered_bounds _ (balance_accepted c.args.shape c.args.k (sym c.in_ok-check_balance.ensures)).prime)

pub plan_of-requires : goal.plan_of-requires
plan_of-requires c = let asked = balance_accepted c.args.shape c.args.k (sym c.in_ok-check_balance.ensures) in (asked.prime, asked.below)

pub overflow_mul-result : goal.overflow_mul-result
overflow_mul-result c = record { fits = omega (arith, offered_bounds _ (balance_accepted c.args.shape c.args.k (sym c.in_ok-check_balance.ensures)).prime) }

pub overflow_mul-result-2 : goal.overflow_mul-result-2
overflow_mul-result-2 c = record { fits = few (offered_bounds _ (balance_accepted c.args.shape c.args.k (sym c.in_ok-check_balance.ensures)).prime).1 }

pub returns : goal.returns
returns c =
    let a = c.args in
    let none = sym c.in_ok-check_balance.ensures in
    balance_given a.shape a.k (balance_accepted a.shape a.k none) _ none c.plan_of.ensures
