-- `xor::sum_runs` meets its contract. The run at the last place is XORed into zeros, and then those at the others into it.
use mathlib.Core.Path.{sym, ◌∙◌}
use Prim.Native.Nat.{◌+◌, ◌-◌}
use native.Mathlib.Omega.{arith}
use lib.ListN.{length, replicate}
use borrow.Author.Tests.{eqb-true, eqb-false}
use Rattle.xor.specs.Runs.{sum_at}
use Rattle.xor.proofs.Runs.{runs_none, runs_all, runs_last, from_zero}
use borrow.Author.Rules.{rules}
use Rattle.xor.proofs.sum_runs.Goals as goal

pub returns-then-is_empty : goal.returns-then-is_empty
returns-then-is_empty c =
    let a = c.args in
    from_zero _ a.n (λ i. sum_at a.s.now a.places.now (a.at + i)) (search rules)
    (runs_all a.s.now a.places.now (replicate 128 0) (replicate 128 0) a.n a.at 0 (sym (eqb-true (length a.places.now) 0 (sym c.is_empty.ensures ∙ c.if-is_empty.true))) (runs_none a.s.now a.places.now (replicate 128 0) a.n a.at))

pub returns : goal.returns
returns c =
    let a = c.args in
    from_zero _ a.n (λ i. sum_at a.s.now a.places.now (a.at + i)) (search rules)
    (runs_last a.s.now a.places.now (replicate 128 0) _ _ a.n a.at (length a.places.now - 1) (let some = eqb-false (length a.places.now) 0 (sym c.is_empty.ensures ∙ c.if-is_empty.false) in omega arith) c.add_bytes-own.ensures c.add_runs.ensures)
