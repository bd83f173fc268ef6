-- `codes::parity_place` meets its contract. A number of cells, in bytes.
use native.Mathlib.Omega.{arith}
use Rattle.codes.proofs.Walked.{parity_at, parity_small}
use Rattle.codes.proofs.parity_place.Goals as goal

pub overflow_mul-result : goal.overflow_mul-result
overflow_mul-result c = omega (arith, parity_at c.args.shape c.requires.0 c.args.q c.requires.1 _ c.parity_number.ensures, parity_small c.args.shape c.requires.0 c.args.q c.requires.1)
