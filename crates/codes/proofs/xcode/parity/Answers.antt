-- `codes::xcode::parity` meets its contract. Every column lies by its number.
use Rattle.codes.proofs.Whole.{xcode_first_lies, xcode_second_lies}
use Rattle.codes.proofs.xcode.parity.Goals as goal

pub returns-then-q-p : goal.returns-then-q-p
returns-then-q-p c = xcode_first_lies c.args.shape c.requires.0 c.requires.1 c.args.q c.if-q-p.true

pub returns : goal.returns
returns c = xcode_second_lies c.args.shape c.requires.0 c.requires.1 c.args.q c.if-q-p.false c.requires.2
