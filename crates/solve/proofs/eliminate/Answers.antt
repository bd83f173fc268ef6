-- `solve::eliminate` meets its contract. The loop's invariant: on every problem with the first masks the run has come to lost cell number k,
-- and the masks are those of its state.
use mathlib.Core.Path.{◌≡◌, refl, sym, ◌∙◌, subst}
use native.Mathlib.Omega.{arith}
use Rattle.solve.specs.Masked.{Eliminates}
use Rattle.solve.proofs.Turns.{own_all}
use Rattle.solve.proofs.Eliminating.{sofar_first, found_below, sofar_more, sofar_stops, sofar_all, within_holding}
use Rattle.bits.proofs.Limits.{within_and, within_xor, within_power}
use borrow.Author.Rules.{rules}
use Prim.Native.Nat.{◌<◌}
use lib.ListN.{length}
use Rattle.solve.proofs.eliminate.Goals as goal

pub loop-k-init : goal.loop-k-init
loop-k-init c = sofar_first _ _ _ _ _ _ refl (omega (arith, c.own_sources.auto.sources)) refl (own_all _ _ _ (omega arith) c.own_sources.ensures) c.one_bit-unused.ensures

pub returns-in_err-q : goal.returns-in_err-q
returns-in_err-q c =
    subst (Eliminates _ _ _ _ _) (sym c.from_residual.ensures)
    (sofar_stops _ _ _ _ _ _ _ _ _ c.requires.0 c.requires.2 c.loop-k-test.true c.in_err-q.ensures c.loop-k.invariant)

pub spread-requires : goal.spread-requires
spread-requires c =
    let h = c.loop-k.invariant in
    let q = c.in_ok-q.ensures in
    let below : c.in_ok-q.q < length c.loop-k.rows = omega (arith, h.long_rows, found_below _ c.loop-k.rows _ _ _ h.within q.0 q.1) in
    search (rules, within_and, within_xor, within_holding, within_power)

pub spread-requires-in-loop-k : goal.spread-requires-in-loop-k
spread-requires-in-loop-k c =
    let h = c.loop-k.invariant in
    let q = c.in_ok-q.ensures in
    let same : length c.loop-k.sources ≡ length c.loop-k.rows = h.long_sources ∙ sym h.long_rows in
    let below : c.in_ok-q.q < length c.loop-k.rows = omega (arith, h.long_rows, found_below _ c.loop-k.rows _ _ _ h.within q.0 q.1) in
    rw same (search (rules, within_and, within_xor, within_holding, within_power))

pub loop-k-preserved : goal.loop-k-preserved
loop-k-preserved c =
    let q = c.in_ok-q.ensures in
    sofar_more _ _ _ _ _ _ _ _ _ _ _ _ _ _ c.requires.0 c.requires.2 c.loop-k-test.true q.0 q.1 c.one_bit-one.ensures
    c.holding.ensures c.spread.ensures c.spread-in-loop-k.ensures refl c.loop-k.invariant

pub returns : goal.returns
returns c = sofar_all _ _ _ _ _ _ _ _ (omega arith) c.loop-k.invariant
