-- `codes::hcode::parity` meets its contract. Every column lies by its number.
use Rattle.codes.proofs.Whole.{hcode_row_lies, hcode_anti_lies}
use Rattle.codes.proofs.hcode.parity.Goals as goal

pub returns-then-q-n : goal.returns-then-q-n
returns-then-q-n c = hcode_row_lies c.args.shape c.requires.0 c.requires.1 c.args.q c.if-q-n.true

pub returns : goal.returns
returns c = hcode_anti_lies c.args.shape c.requires.0 c.requires.1 c.args.q c.if-q-n.false c.requires.2
