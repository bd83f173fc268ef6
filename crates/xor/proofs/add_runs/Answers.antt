-- `xor::add_runs` meets its contract. The loop's invariant: the bytes of the first runs are XORed in.
use native.Mathlib.Omega.{arith}
use Rattle.xor.proofs.Runs.{runs_none, runs_more, runs_all}
use borrow.Author.Rules.{rules}
use Rattle.xor.proofs.add_runs.Goals as goal

pub loop-place-init : goal.loop-place-init
loop-place-init c = (search rules, runs_none c.args.s.now c.args.places.now c.args.sum c.args.n c.args.at)

pub loop-place-preserved : goal.loop-place-preserved
loop-place-preserved c =
    let a = c.args in
    let turn = c.loop-place in
    (search rules, runs_more a.s.now a.places.now a.sum turn.added _ a.n a.at turn.place-index turn.invariant.1 c.add_bytes-next.ensures)

pub returns : goal.returns
returns c =
    let a = c.args in
    runs_all a.s.now a.places.now a.sum _ a.n a.at c.loop-place.place-index (omega arith) c.loop-place.invariant.1
