-- `plan::LostColumn::reads` meets its contract. In the loop `reads` is what is read of the first d columns that exist.
use mathlib.Core.Path.{◌≡◌}
use Rattle.plan.proofs.ByColumns.{first_reads}
use Rattle.plan.proofs.lost.LostColumn.reads.Given as goal

abbrev pub invariant-loop-d : goal.invariant-loop-d
invariant-loop-d l = l.reads ≡ first_reads l.self.shape l.self.k l.self.plan l.d
