-- `jobs::read_lost` meets its contract. The loop's invariant: the first k numbers are listed.
use mathlib.Core.Path.{◌∙◌}
use native.Mathlib.Omega.{arith}
use lib.ListN.{length-set}
use Rattle.jobs.proofs.LostNumbers.{listed_none, listed_more, listed_all}
use Rattle.jobs.proofs.read_lost.Goals as goal

pub loop-k-init : goal.loop-k-init
loop-k-init c = record { long = c.requires.1; says = listed_none }

pub loop-k-preserved : goal.loop-k-preserved
loop-k-preserved c =
    let before = c.loop-k.invariant in
    record { long = length-set c.loop-k.lost c.loop-k.k _ ∙ before.long; says = listed_more _ _ _ _ c.loop-k-test.true (omega arith) before.says c.two_bytes.ensures.0 }

pub returns : goal.returns
returns c = record { long = c.loop-k.invariant.long; says = listed_all _ _ c.loop-k.k (omega arith) c.loop-k.invariant.says }
