-- `codes::dependents_of` meets its contract. No equation of the other codes sums a parity cell.
use Rattle.codes.proofs.Depends.{other_depends}
use Rattle.codes.proofs.dependents_of.Goals as goal

pub returns-then-shape-2 : goal.returns-then-shape-2
returns-then-shape-2 c = other_depends c.args.shape c.requires.0 _ _ c.requires.1 c.if-shape.false _ c.holders.ensures

pub returns-then-shape-3 : goal.returns-then-shape-3
returns-then-shape-3 c = other_depends c.args.shape c.requires.0 _ _ c.requires.1 c.if-shape.false _ c.holders-then-shape-3.ensures

pub returns : goal.returns
returns c = other_depends c.args.shape c.requires.0 _ _ c.requires.1 c.if-shape.false _ c.holders-2.ensures
