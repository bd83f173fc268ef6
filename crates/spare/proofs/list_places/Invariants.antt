-- `spare::list_places` meets its contract. The loop's invariant: the first t columns from the one that leads on have their places.
use Rattle.spare.proofs.Tables.{Filled}
use Rattle.spare.proofs.list_places.Given as goal

abbrev pub invariant-loop-t : goal.invariant-loop-t
invariant-loop-t l = Filled l.shape l.back l.t l.places
