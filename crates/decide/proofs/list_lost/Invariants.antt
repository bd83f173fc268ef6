-- `decide::list_lost` meets its contract. The loop's invariant: the lost cells below c are listed, and there are u of them.
use Prim.Native.Nat.{◌≤◌}
use Rattle.decide.specs.Solver.{lost_in, cells_of}
use Rattle.decide.proofs.Lists.{ListedTo}
use Rattle.decide.proofs.list_lost.Given as goal

abbrev pub invariant-loop-c : goal.invariant-loop-c
invariant-loop-c l = (l.u ≤ l.most) × ListedTo (lost_in l.map) l.c l.u (cells_of l.lost)
