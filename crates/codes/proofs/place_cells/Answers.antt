-- `codes::place_cells` meets its contract.
use native.Mathlib.Omega.{arith}
use Rattle.codes.proofs.Stepping.{count_most}
use Rattle.codes.proofs.Walked.{filled_none, filled_more, bytes_small, walked_small, all_placed}
use Rattle.codes.proofs.place_cells.Goals as goal

pub loop-k-init : goal.loop-k-init
loop-k-init c = filled_none _ _ _ c.requires.2

pub next_place-at-requires : goal.next_place-at-requires
next_place-at-requires c = (walked_small c.args.shape c.requires.0 c.args.l c.requires.1 c.loop-k.k _ (omega arith) c.loop-k.invariant.here, bytes_small c.args.shape c.requires.0 c.args.l c.requires.1 c.args.l.step c.requires.1.step)

pub loop-k-preserved : goal.loop-k-preserved
loop-k-preserved c = filled_more _ _ _ _ _ _ (omega (arith, c.requires.1.few, count_most c.args.l)) c.loop-k.invariant c.next_place-at.ensures

pub returns : goal.returns
returns c = all_placed c.args.shape c.requires.0 c.args.l _ _ _ c.loop-k.invariant (omega arith)
