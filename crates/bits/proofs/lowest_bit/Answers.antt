-- `bits::lowest_bit` meets its contract: the count of trailing zeros is the lowest set bit, and a mask that is not 0 has one.
use native.Mathlib.Omega.{arith}
use Rattle.bits.proofs.Bits.{trailing_lowest, some_bit}
use Rattle.bits.proofs.lowest_bit.Goals as goal

pub returns : goal.returns
returns c = (some_bit 64 c.args.mask (omega arith) c.requires, trailing_lowest 64 c.args.mask)
