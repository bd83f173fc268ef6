-- `bad::find` meets its contract. No equation fails, or a column is sought for the first that does.
use mathlib.Core.Path.{refl}
use Rattle.bad.proofs.Naming.{clean_in}
use Rattle.bad.proofs.find.Goals as goal

pub returns-in-None : goal.returns-in-None
returns-in-None c = clean_in c.args.window.now.shape c.args.window.now.inside.formed c.args.window.now.stripe.now c.args.window.now.at c.args.window.now.n _ c.in-None.ensures refl

pub name_column-requires : goal.name_column-requires
name_column-requires c = let first = c.in-Some.ensures in (first.0, first.1.passes first.0)
