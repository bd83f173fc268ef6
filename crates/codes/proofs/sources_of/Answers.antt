-- `codes::sources_of` meets its contract. The cells that the equation sums by itself are apart from its parity cell.
use native.Mathlib.Omega.{arith}
use Rattle.codes.proofs.Walked.{parity_at, parity_small, found}
use Rattle.codes.proofs.sources_of.Goals as goal

pub overflow_mul-to : goal.overflow_mul-to
overflow_mul-to c = omega (arith, parity_at c.args.shape c.requires.0 c.args.q c.requires.1 _ c.walk_of-walk.ensures.to, parity_small c.args.shape c.requires.0 c.args.q c.requires.1)

pub returns : goal.returns
returns c = found c.args.shape c.requires.0 c.args.q c.requires.1 _ c.walk_of-walk.ensures _ _ c.place_line-count.ensures
