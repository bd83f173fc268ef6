-- `codes::xcode::holders` meets its contract. A data cell's line in each family, and the equations whose parity cells stand in the last two rows.
use Rattle.codes.proofs.Held.{xcode_held, xcode_before_held, xcode_last_held}
use Rattle.codes.proofs.xcode.holders.Goals as goal

pub returns-then-row-p : goal.returns-then-row-p
returns-then-row-p c = xcode_last_held c.args.shape c.requires.0 _ _ c.requires.2 c.requires.3 _ c.requires.1 c.if-row-p.true c.pair.ensures

pub returns-then-row-p-2 : goal.returns-then-row-p-2
returns-then-row-p-2 c = xcode_before_held c.args.shape c.requires.0 _ _ c.requires.2 c.requires.3 _ c.requires.1 c.if-row-p-2.true c.pair-then-row-p-2.ensures

pub returns : goal.returns
returns c = xcode_held c.args.shape c.requires.0 _ _ c.requires.2 c.requires.3 _ c.requires.1 _ _ c.if-row-p.false c.if-row-p-2.false c.turned.ensures c.turned-2.ensures c.pair-2.ensures
