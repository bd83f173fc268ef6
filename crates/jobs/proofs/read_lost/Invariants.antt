-- `jobs::read_lost` meets its contract. The loop's invariant: the first k numbers are listed.
use mathlib.Core.Path.{◌≡◌}
use lib.ListN.{length, take}
use Rattle.std.specs.List.{concat}
use Rattle.format.specs.Format.{most_lost, numbers}
use Rattle.jobs.proofs.read_lost.Given as goal

abbrev pub invariant-loop-k : goal.invariant-loop-k
invariant-loop-k l = record { long : length l.lost ≡ most_lost; says : numbers (take l.k l.lost) ≡ concat (take l.k l.pairs) }
