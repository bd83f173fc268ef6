-- `xor::put_block` meets its contract. The block is summed before any of it is stored.
use Prim.Native.Nat.{◌+◌}
use Rattle.xor.specs.Runs.{sum_at}
use Rattle.xor.proofs.Runs.{summed_same, from_zero}
use borrow.Author.Rules.{rules}
use Rattle.xor.proofs.put_block.Goals as goal

pub returns : goal.returns
returns c =
    let a = c.args in
    summed_same a.s.now _ _ a.n _ (λ t. sum_at a.s.now a.places.now (a.at + t)) _ c.put_bytes.ensures
    (from_zero _ a.n (λ t. sum_at a.s.now a.places.now (a.at + t)) (search rules) c.add_runs-sum.ensures)
