-- `spare::run_full` meets its contract. The loop's invariant: the rows from the first up to row i are rebuilt, and no other byte has changed;
-- the places stay listed, but for column k's slots.
use Prim.Native.Nat.{◌-◌}
use Rattle.spare.specs.Places.{LevelPlaces, SlantPlaces}
use Rattle.spare.specs.Run.{RowsRebuilt}
use Rattle.spare.proofs.run_full.Given as goal

abbrev pub invariant-loop-i : goal.invariant-loop-i
invariant-loop-i l = LevelPlaces l.lost.shape l.lost.k l.places × SlantPlaces l.lost.shape l.lost.k l.places × RowsRebuilt l.lost.shape l.lost.k l.lost.plan l.first (l.i - l.first) l.stripe l.initial.spare l.spare
