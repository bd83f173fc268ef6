-- `stripe::spread` meets its contract. The loop's invariant: the parity cells of the set's equations that are not still to come are done.
use mathlib.Core.Path.{◌≡◌, sym, subst}
use mathlib.Core.Bool.{true}
use Prim.Native.Nat.{ℕ}
use Rattle.std.specs.Prelude.{Some}
use Rattle.bits.specs.Bit.{bit, TakesLowest}
use Rattle.bits.proofs.Finding.{taken_is}
use Rattle.stripe.specs.Parts.{differs}
use Rattle.stripe.proofs.Writing.{SpreadTo, part_fits, spread_none, spread_more, spread_all}
use Rattle.stripe.proofs.spread.Goals as goal

-- an equation that comes is one of the set
member : (set rest q left : ℕ) → ((k : ℕ) → bit k rest ≡ true → bit k set ≡ true) → TakesLowest rest (Some q) left → bit q set ≡ true
member set rest q left within took = within q (taken_is rest q left took)

pub loop-q-init : goal.loop-q-init
loop-q-init c =
    let a = c.args in
    let old = a.stripe.now in
    subst (λ (rest : ℕ). SpreadTo a.shape a.set rest (differs old a.from a.new.now) old old) (cc (c.into_iter-q-iterator.ensures.into_iter_gives, c.members-q-items.ensures))
    (spread_none _ _ _ _ _ c.requires.0)

pub parity_place-to-requires : goal.parity_place-to-requires
parity_place-to-requires c = (c.requires.0.formed, c.requires.1 c.in-Some.q (member _ _ _ _ c.loop-q.invariant.within c.in-Some.ensures.steps))

pub add_difference-requires : goal.add_difference-requires
add_difference-requires c =
    let turn = c.loop-q in
    let q = c.in-Some.q in
    part_fits _ _ _ _ c.requires.0 turn.stripe turn.invariant.so.long q _ c.parity_place-to.ensures (c.requires.1 q (member _ _ _ _ turn.invariant.within c.in-Some.ensures.steps))

pub loop-q-preserved : goal.loop-q-preserved
loop-q-preserved c =
    let a = c.args in
    let old = a.stripe.now in
    let turn = c.loop-q in
    let took = c.in-Some.ensures.steps in
    subst (λ (rest : ℕ). SpreadTo a.shape a.set rest (differs old a.from a.new.now) old c.add_difference.new.s) (sym took.2)
    (spread_more _ _ _ _ _ c.requires.0 turn.q-iterator.rest c.in-Some.q _ _ _ took.0 took.1 (c.requires.1 c.in-Some.q (member _ _ _ _ turn.invariant.within took)) c.parity_place-to.ensures turn.invariant
    c.add_difference.ensures.put)

pub returns : goal.returns
returns c = spread_all _ _ _ _ _ c.requires.0 _ _ c.in-None.ensures.steps.0 c.loop-q.invariant
