-- `refusals::is_short` meets its contract. Columns are missing where a number of data columns is given that is below p - 1.
use mathlib.Core.Path.{ap}
use native.Mathlib.Omega.{arith}
use lib.Dec.{ltb}
use Rattle.codes.proofs.Shapes.{prime_low, full_missing}
use Rattle.refusals.proofs.Refused.{short_is}
use Rattle.refusals.proofs.is_short.Goals as goal

pub returns-in_default : goal.returns-in_default
returns-in_default c = ap (ltb 0) (full_missing c.args.shape c.in_default.is)

pub overflow_sub-result : goal.overflow_sub-result
overflow_sub-result c = omega (arith, prime_low c.args.shape.p c.requires)

pub returns : goal.returns
returns c = short_is c.args.shape _ c.in-Some.is
