-- `bad::without_column` meets its contract. The loop's invariant: `rest` is what is left once the cells of the first i rows have taken in their values.
use mathlib.Core.Path.{◌≡◌}
use lib.ListN.{length}
use Rattle.bad.specs.Candidate.{Without}
use Rattle.bad.proofs.without_column.Given as goal

abbrev pub invariant-loop-i : goal.invariant-loop-i
invariant-loop-i l = (length l.rest ≡ 64) × Without l.shape l.totals l.column l.i l.rest
