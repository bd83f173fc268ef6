-- `equation::set_parity` meets its contract. The equation's own cells are summed first; then what it takes in is added.
use mathlib.Core.Path.{sym, ◌∙◌}
use native.Mathlib.Omega.{arith}
use Rattle.codes.specs.Encoded.{parity_cell}
use Rattle.codes.proofs.Ordered.{ordered}
use Rattle.codes.proofs.Geometry.{place_inside, parity_there}
use Rattle.codes.proofs.Walked.{parity_small}
use Rattle.codes.proofs.Shared.{takes_shares}
use Rattle.equation.proofs.Windows.{kept_window, parity_zero, parity_more, set_plain, set_shared}
use Rattle.equation.proofs.set_parity.Goals as goal

pub returns-then-not-takes_shared : goal.returns-then-not-takes_shared
returns-then-not-takes_shared c = (set_plain c.args.shape c.args.stripe.now c.args.at c.args.n c.requires.0.formed c.args.q (sym c.takes_shared.ensures ∙ c.if-not-takes_shared.true) _ c.set_own-zero.ensures.0, c.set_own-zero.ensures.1)

pub overflow_add-to : goal.overflow_add-to
overflow_add-to c = omega (arith, c.parity_place.ensures, parity_small c.args.shape c.requires.0.formed c.args.q c.requires.1, c.requires.0.ends, c.requires.0.formed.cell_high)

pub add_shared-requires : goal.add_shared-requires
add_shared-requires c = (
  omega (arith, c.parity_place.ensures, place_inside c.args.shape c.requires.0.formed (parity_cell c.args.shape c.args.q) ((ordered c.args.shape c.requires.0.formed).inside c.args.q c.requires.1) (parity_there c.args.shape c.requires.0.formed c.args.q c.requires.1), c.set_own-zero.ensures.0.long, c.requires.0.long, c.requires.0.ends),
  omega (arith, c.requires.2.long (takes_shares c.args.shape c.args.q (sym c.takes_shared.ensures ∙ c.if-not-takes_shared.false))),
)

pub returns : goal.returns
returns c =
    let takes = sym c.takes_shared.ensures ∙ c.if-not-takes_shared.false in
    let own = c.set_own-zero.ensures.0 in
    let w = kept_window c.args.shape c.args.stripe.now _ c.args.at c.args.n c.requires.0 own.long in
    let there = c.parity_place.ensures in
    let more = c.add_shared.ensures in (
      set_shared c.args.shape c.args.stripe.now c.args.at c.args.n c.requires.0.formed c.args.q takes c.args.shared.now c.requires.2 _
          (parity_more c.args.shape _ c.args.at c.args.n w c.args.q c.requires.1 _ there _ _ _ _ own more.put),
      parity_zero c.args.shape _ c.args.at c.args.n w c.args.q c.requires.1 _ there _ _ more.zero,
    )
