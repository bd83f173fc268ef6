-- `decide::mark_cells` meets its contract. The loop's invariant: the map marks the cells that the numbers so far name.
use Rattle.decide.proofs.Marks.{Marked, of_list}
use Rattle.decide.proofs.mark_cells.Given as goal

abbrev pub invariant-loop-number : goal.invariant-loop-number
invariant-loop-number l = Marked (of_list l.shape l.lost) l.number-index l.map
