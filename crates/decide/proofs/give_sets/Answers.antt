-- `decide::give_sets` meets its contract. The loop's invariant: the first k lost cells have their sets.
use mathlib.Core.Path.{refl}
use native.Mathlib.Omega.{arith}
use Rattle.decide.proofs.Lists.{given_more}
use Rattle.decide.proofs.give_sets.Goals as goal

pub loop-k-preserved : goal.loop-k-preserved
loop-k-preserved c = given_more _ _ _ _ _ (record { cell = 0; set = 0 }) _ (omega arith) refl refl c.loop-k.invariant
