-- `format::two_bytes` meets its contract. A byte is below 256, so the number has the two bytes.
use native.Mathlib.Omega.{arith}
use Rattle.std.proofs.Common.{rules, ◌∙◌}
use Rattle.format.proofs.Bytes.{number_there}
use Rattle.format.proofs.two_bytes.Goals as goal

pub returns : goal.returns
returns c = (number_there c.args.bytes (search rules) (search rules) _ (c.from.ensures ∙ c.from_be_bytes.ensures), omega arith)
