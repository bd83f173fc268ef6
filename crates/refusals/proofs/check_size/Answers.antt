-- `refusals::check_size` meets its contract. Each return gives the first refusal in order, by the tests before it.
use borrow.Author.Tests.{eq-eqb, ne_eqb, lt-ltb, le-ltb}
use Rattle.refusals.proofs.Order.{hit, miss, right}
use Rattle.refusals.proofs.Refused.{size_given}
use Rattle.refusals.proofs.check_size.Goals as goal

pub returns-then-shape-eq0 : goal.returns-then-shape-eq0
returns-then-shape-eq0 c = size_given c.args.shape (hit (eq-eqb _ 0 c.if-shape-eq0.true))

pub returns-then-shape-gt-MOST_CELL : goal.returns-then-shape-gt-MOST_CELL
returns-then-shape-gt-MOST_CELL c = size_given c.args.shape (miss (ne_eqb _ 0 c.if-shape-eq0.false) (hit (lt-ltb 4096 _ c.if-shape-gt-MOST_CELL.true)))

pub returns : goal.returns
returns c = size_given c.args.shape (miss (ne_eqb _ 0 c.if-shape-eq0.false) (miss (le-ltb 4096 _ c.if-shape-gt-MOST_CELL.false) right))
