-- `spare::short::run_rows` calls itself for one row less, so that the measure is the number of rows.
use Rattle.spare.proofs.short.+run_rows.Given as goal

abbrev pub decreases-run_rows : goal.decreases-run_rows
decreases-run_rows l = l.n
