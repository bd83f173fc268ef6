-- `solve::eliminate` meets its contract. The loop's invariant: on every problem with the first masks the run has come to lost cell number k,
-- and the masks are those of its state.
use lib.ListN.{length}
use Rattle.solve.proofs.Eliminating.{Sofar}
use Rattle.solve.proofs.eliminate.Given as goal

abbrev pub invariant-loop-k : goal.invariant-loop-k
invariant-loop-k l = Sofar (length l.initial.rows) (length l.initial.chosen) l.initial.rows l.rows l.sources l.chosen l.unused l.k
