-- `xor::add_block_sum` meets its contract. Two additions from zero make each byte of the block, before any of it is stored.
use Prim.Native.Nat.{ℕ, ◌+◌}
use lib.ListN.{get_or}
use Rattle.xor.specs.Runs.{sum_at, added_to}
use Rattle.xor.proofs.Runs.{summed_same, added_both}
use borrow.Author.Rules.{rules}
use Rattle.xor.proofs.add_block_sum.Goals as goal

pub returns : goal.returns
unfolding added_to
returns c =
    let a = c.args in
    let own : ℕ → ℕ = λ (t : ℕ). get_or a.d.now (a.to + t) 0 in
    let sum : ℕ → ℕ = λ (t : ℕ). sum_at a.s.now a.places.now (a.at + t) in
    summed_same a.d.now _ _ a.n _ (added_to a.d.now a.to a.s.now a.places.now a.at) _ c.put_bytes.ensures
    (added_both _ _ a.n own sum (search rules) c.add_bytes-own.ensures c.add_runs-sum.ensures)
