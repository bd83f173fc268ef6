-- `xor::nonzero_at` meets its contract. The loop's invariant: the XOR of the runs is zero in the blocks that were given.
use mathlib.Core.Path.{sym, ◌∙◌}
use Prim.Native.Nat.{◌+◌}
use native.Mathlib.Omega.{arith}
use Rattle.std.specs.Prelude.{None}
use Rattle.xor.specs.Runs.{sum_at}
use Rattle.xor.proofs.Runs.{zero_more, nonzero_on}
use Rattle.xor.proofs.nonzero_at.Goals as goal

pub loop-next-preserved : goal.loop-next-preserved
loop-next-preserved c =
    let sum = sum_at c.args.s.now c.args.places.now in
    let step = c.in-Some.ensures.steps in
    let inv = c.loop-next.invariant in
    (step.2 ∙ inv.0, (omega (arith, step.0, step.1, inv.0, inv.1)), zero_more (λ t. sum (c.args.at + t)) _ 128 _ _ (omega (arith, step.0, step.1, inv.0, inv.1)) (sym step.1) inv.2 (nonzero_on sum c.args.at _ 128 None c.in_default.ensures))
