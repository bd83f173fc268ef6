-- `stripe::set_parities_with` meets its contract.
use mathlib.Core.Path.{◌∙◌}
use native.Mathlib.Omega.{arith}
use Rattle.equation.proofs.Windows.{whole}
use Rattle.stripe.proofs.Encoding.{settled_none, settled_more, settled_shares, settled_all}
use Rattle.stripe.proofs.set_parities_with.Goals as goal

pub loop-q-init : goal.loop-q-init
loop-q-init c = settled_none _ _

pub set_parity-requires : goal.set_parity-requires
set_parity-requires c = (
  whole _ _ c.requires.0 (c.loop-q.invariant.long ∙ c.requires.1),
  omega (arith, c.equation_count-n.ensures),
  settled_shares c.args.shape c.requires.0 _ _ _ (omega (arith, c.equation_count-n.ensures)) c.loop-q.invariant c.args.shared.now c.requires.2,
)

pub loop-q-preserved : goal.loop-q-preserved
loop-q-preserved c = settled_more _ c.requires.0 _ _ _ _ (omega (arith, c.equation_count-n.ensures)) c.loop-q.invariant c.set_parity.ensures.0

pub returns : goal.returns
returns c = settled_all _ c.requires.0 _ _ _ c.loop-q.invariant (omega (arith, c.equation_count-n.ensures))
