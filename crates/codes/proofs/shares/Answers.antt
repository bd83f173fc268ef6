-- `codes::shares` meets its contract. EVENODD alone does.
use mathlib.Core.Path.{refl}
use Rattle.codes.specs.Lines.{shares}
use Rattle.codes.proofs.shares.Goals as goal

pub returns : goal.returns
unfolding shares
returns c = refl
