-- `xor::sum_byte` meets its contract. The loop's invariant: byte t of the first runs is XORed in.
use mathlib.Core.Path.{sym}
use native.Mathlib.Omega.{arith}
use Rattle.xor.proofs.Sums.{xors_none}
use Rattle.xor.proofs.Runs.{byte_more, byte_all}
use Rattle.xor.proofs.sum_byte.Goals as goal

pub loop-place-init : goal.loop-place-init
loop-place-init c = sym (xors_none _)

pub loop-place-preserved : goal.loop-place-preserved
loop-place-preserved c =
    let a = c.args in
    let turn = c.loop-place in
    byte_more a.s.now a.places.now turn.place-index a.t turn.sum turn.invariant

pub returns : goal.returns
returns c = byte_all _ _ _ _ _ (omega arith) c.loop-place.invariant
