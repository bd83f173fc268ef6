-- `codes::place_line` meets its contract. The cells that the line walks, and the extra one.
use native.Mathlib.Omega.{arith}
use Rattle.codes.proofs.Stepping.{count_most}
use Rattle.codes.proofs.Walked.{all_plain, all_extra}
use Rattle.codes.proofs.place_line.Goals as goal

pub returns-in_default : goal.returns-in_default
returns-in_default c = all_plain c.args.shape c.args.l _ c.place_cells.ensures c.in_default.is

pub returns : goal.returns
returns c = all_extra c.args.shape c.args.l _ c.place_cells.ensures _ (omega (arith, c.requires.1.few, count_most c.args.l)) c.in-Some.is
