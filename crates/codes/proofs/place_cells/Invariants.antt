-- `codes::place_cells` meets its contract. The loop's invariant: the first k places are filled in, and the code stands at cell k.
use Rattle.codes.proofs.Walked.{line, Filled}
use Rattle.codes.proofs.place_cells.Given as goal

abbrev pub invariant-loop-k : goal.invariant-loop-k
invariant-loop-k l = Filled (line l.initial.at l.step l.l.turn l.second) l.l.count l.places l.at l.k
