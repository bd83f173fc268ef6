-- `xor::add_block_difference` meets its contract. Three additions from zero make each byte of the block, before any of it is stored.
use Prim.Native.Nat.{◌+◌}
use Rattle.xor.specs.Runs.{changed_by}
use Rattle.xor.proofs.Runs.{summed_same, difference_block}
use borrow.Author.Rules.{rules}
use Rattle.xor.proofs.add_block_difference.Goals as goal

pub returns : goal.returns
returns c =
    let a = c.args in
    summed_same a.s.now _ _ a.n _ (λ t. changed_by a.s.now a.to a.from a.new.now (a.at + t)) _ c.put_bytes.ensures
    (difference_block a.s.now a.new.now _ _ _ a.to a.from a.at a.n (search rules) c.add_bytes-parity.ensures c.add_bytes-with_old.ensures c.add_bytes-with_new.ensures)
