-- `stripe::count_members` meets its contract. A set of numbers below 64 has at most 64.
use native.Mathlib.Omega.{arith}
use lib.Count.{ones-le}
use Rattle.stripe.proofs.count_members.Goals as goal

pub overflow_cast-result : goal.overflow_cast-result
overflow_cast-result c = omega (arith, ones-le 64 c.args.set c.ranges.set.fits)
