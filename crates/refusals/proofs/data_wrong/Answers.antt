-- `refusals::data_wrong` meets its contract. A number that is given is tried for the code, for 0 and for more than p - 1.
use Rattle.codes.proofs.Shapes.{wrong_code, wrong_none, wrong_most}
use Rattle.refusals.proofs.data_wrong.Goals as goal

pub returns-then-shape : goal.returns-then-shape
returns-then-shape c = wrong_code _ _ _ _ c.in-Some.is c.if-shape.true

pub returns-then-m-eq0 : goal.returns-then-m-eq0
returns-then-m-eq0 c = wrong_none _ _ _ _ c.in-Some.is c.if-shape.false c.if-m-eq0.true

pub returns : goal.returns
returns c = wrong_most _ _ _ _ c.in-Some.is c.if-shape.false c.if-m-eq0.false
