-- `codes::evenodd::shared` meets its contract. The cells of S, column after column.
use mathlib.Core.Path.{refl}
use Rattle.codes.proofs.Whole.{shared_covers}
use Rattle.codes.proofs.evenodd.shared.Goals as goal

pub returns : goal.returns
returns c = shared_covers c.args.shape c.requires.0 c.requires.1 _ refl refl refl refl refl refl
