-- `decide::mark_columns` meets its contract. The loop's invariant: the map marks the cells of the first i rows in both columns.
use Rattle.decide.proofs.Marks.{Marked, of_columns}
use Rattle.decide.proofs.mark_columns.Given as goal

abbrev pub invariant-loop-i : goal.invariant-loop-i
invariant-loop-i l = Marked (of_columns l.a l.b l.n) l.i l.map
