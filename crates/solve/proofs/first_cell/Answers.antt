-- `solve::first_cell` meets its contract: the count of trailing zeros is the lowest set bit, or 64.
use lib.Count.{count_trailing_zeros}
use Rattle.bits.specs.Bit.{bit}
use Rattle.solve.specs.Masked.{first_cell}
use Rattle.bits.proofs.Bits.{trailing_lowest}
use Rattle.bits.proofs.Lowest.{lowest_is, lowest_one}
use Rattle.solve.proofs.first_cell.Goals as goal

pub returns : goal.returns
returns c =
    let row = c.args.row in
    lowest_one 64 (λ k. bit k row) (count_trailing_zeros 64 row) (first_cell row) (trailing_lowest 64 row) (lowest_is 64 (λ k. bit k row))
