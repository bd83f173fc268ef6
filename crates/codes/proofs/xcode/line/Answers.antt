-- `codes::xcode::line` meets its contract. Each line goes through p - 2 columns, round after the last.
use mathlib.Core.Path.{refl}
use Rattle.codes.proofs.Whole.{xcode_first_walks, xcode_second_walks}
use Rattle.codes.proofs.xcode.line.Goals as goal

pub returns-then-q-p : goal.returns-then-q-p
returns-then-q-p c = xcode_first_walks c.args.shape c.requires.0 c.requires.1 c.args.q _ c.if-q-p.true c.turned-column.ensures _ refl refl refl refl refl refl

pub returns : goal.returns
returns c = xcode_second_walks c.args.shape c.requires.0 c.requires.1 c.args.q _ c.if-q-p.false c.requires.2 c.turned-column-2.ensures _ refl refl refl refl c.saturating_sub.ensures refl
