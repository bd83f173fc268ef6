-- `xor::nonzero_block` meets its contract. The bytes of the block are the XOR of the runs.
use mathlib.Core.Path.{sym, subst}
use Prim.Native.Nat.{ℕ, ◌+◌}
use Rattle.xor.specs.Runs.{sum_at, NonzeroAt}
use Rattle.xor.proofs.Runs.{nonzero_found}
use borrow.Author.Rules.{rules}
use Rattle.xor.proofs.nonzero_block.Goals as goal

pub returns : goal.returns
returns c =
    let a = c.args in
    let f : ℕ → ℕ = λ (t : ℕ). sum_at a.s.now a.places.now (a.at + t) in
    subst (NonzeroAt f a.n) (sym c.nonzero_byte.ensures) (nonzero_found f c.sum_runs-sum.result a.n (search rules) c.sum_runs-sum.ensures)
