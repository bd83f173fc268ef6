-- The loops of a turn, one step of each as a law on lists of masks.
use mathlib.Core.Path.{◌≡◌, refl, sym, ap, ap₂, ◌∙◌, subst}
use mathlib.Core.Logic.{◌≢◌}
use mathlib.Core.Bool.{Bool, true, false, cond, ◌&&◌, xor}
use mathlib.Core.List.{List}
use Prim.Native.Nat.{ℕ, ◌+◌, ◌^◌, ◌≤◌, ◌<◌}
use native.Mathlib.Omega.{arith}
use lib.Bits.{bit_xor, bit_and}
use lib.Dec.{eqb}
use lib.ListN.{length, get_or, set, length-set}
use lib.Seq.{get_or-set_same, get_or-set_other}
use borrow.Author.Tests.{eq-eqb, ne_eqb, lt-ltb, le-ltb}
use Rattle.xor.proofs.Cases.{by_test, by_equal, by_less, clash}
use Rattle.std.specs.Prelude.{Some}
use Rattle.std.proofs.lemmas.List.{get_or_default}
use Rattle.bits.specs.Bit.{bit, TakesLowest}
use Rattle.solve.specs.Masked.{Holding, added_where, AddedBy, Added, Own}
use Rattle.bits.proofs.Finding.{taken_is, left_within, left_without, left_others}
use Rattle.bits.proofs.Bits.{bit_zero, bit_xor_lem, bit_power}
use Rattle.bits.proofs.Tests.{add_nothing}
use Rattle.bits.proofs.Masks.{bit_clear, bit_set}

-- ---- the set of the equations that hold lost cell number k, one equation at a time
module _ (rows : List ℕ) (k : ℕ) where
  pub holding_none : Holding 0 rows k 0
  holding_none = record { bits = λ q. bit_zero q ∙ sym (ap (λ (b : Bool). b && bit k (get_or rows q 0)) (le-ltb q 0 (omega arith))) }

  -- equation q comes to those before it
  holding_next : (m m' q : ℕ) → bit q m' ≡ bit k (get_or rows q 0) → ((r : ℕ) → r ≢ q → bit r m' ≡ bit r m) → Holding q rows k m → Holding (q + 1) rows k m'
  holding_next m m' q here others h = record {
    bits = λ r. by_equal r q
        (λ same. ap (λ (j : ℕ). bit j m') same ∙ here ∙ sym (ap₂ (λ (b : Bool) (j : ℕ). b && bit k (get_or rows j 0)) (lt-ltb r (q + 1) (omega arith)) same))
        (λ other. others r other ∙ h.bits r ∙ ap (λ (b : Bool). b && bit k (get_or rows r 0)) (by_less r q
        (λ l. lt-ltb r q l ∙ sym (lt-ltb r (q + 1) (omega arith))) (λ l. le-ltb r q l ∙ sym (le-ltb r (q + 1) (omega arith)))));
  }

  module _ (m q cell : ℕ) (e : cell ≡ 2 ^ k) (h : Holding q rows k m) where
    absent : bit q m ≡ false
    absent = h.bits q ∙ ap (λ (b : Bool). b && bit k (get_or rows q 0)) (le-ltb q q (omega arith))

    pub holding_less : (m' : ℕ) → m' ≡ m → bit_and (get_or rows q 0) cell ≡ 0 → Holding (q + 1) rows k m'
    holding_less m' same z =
        holding_next m m' q
        (ap (bit q) same ∙ absent ∙ sym (bit_clear k (get_or rows q 0) cell e z))
        (λ r other. ap (bit r) same)
        h

    pub holding_more : (m' one : ℕ) → one ≡ 2 ^ q → m' ≡ bit_xor m one → bit_and (get_or rows q 0) cell ≢ 0 → Holding (q + 1) rows k m'
    unfolding xor
    holding_more m' one e' same z =
        holding_next m m' q
        (joined q ∙ ap₂ xor absent (eq-eqb q q refl) ∙ sym (bit_set k (get_or rows q 0) cell e z))
        (λ r other. joined r ∙ ap (xor (bit r m)) (ne_eqb r q other) ∙ add_nothing (bit r m) true false refl)
        h
      where
        joined : (r : ℕ) → bit r m' ≡ xor (bit r m) (eqb r q)
        joined r = ap (bit r) (same ∙ ap (bit_xor m) e') ∙ bit_xor_lem r m (2 ^ q) ∙ ap (xor (bit r m)) (bit_power r q)

  pub holding_all : (m q n : ℕ) → q ≡ n → Holding q rows k m → Holding n rows k m
  holding_all m q n e h = subst (λ (i : ℕ). Holding i rows k m) e h

-- ---- the values of the members: those in rest are still to come

pub record AddedTo {T : Type 0} (gives : T → T → T → Type 0) (old : List T) (members : ℕ) (more : T) (new : List T) (rest : ℕ) : Type 0 where
  pub long : length new ≡ length old
  pub within : (r : ℕ) → bit r rest ≡ true → bit r members ≡ true
  pub put : (r : ℕ) (d : T) → r < length old → bit r members ≡ true → bit r rest ≡ false → gives (get_or old r d) more (get_or new r d)
  pub coming : (r : ℕ) (d : T) → r < length old → bit r rest ≡ true → get_or new r d ≡ get_or old r d
  pub kept : (r : ℕ) (d : T) → r < length old → bit r members ≡ false → get_or new r d ≡ get_or old r d

module _ {T : Type 0} (gives : T → T → T → Type 0) (old : List T) (members : ℕ) (more : T) where
  pub added_none : (rest : ℕ) → rest ≡ members → AddedTo gives old members more old rest
  added_none rest e = record {
    long = refl;
    within = λ r p. ap (bit r) (sym e) ∙ p;
    put = λ r d l p q. clash p (ap (bit r) (sym e) ∙ q);
    coming = λ r d l p. refl;
    kept = λ r d l p. refl;
  }

  pub added_more : (new : List T) (rest t left : ℕ) (v x : T) → TakesLowest rest (Some t) left → t < length old → v ≡ get_or new t v → gives v more x
      → AddedTo gives old members more new rest → AddedTo gives old members more (set new t x) left
  added_more new rest t left v x took l is gave h = record {
    long = length-set new t x ∙ h.long;
    within = λ r p. h.within r (left_within rest t left took r p);
    put = λ r d lr p q. by_equal r t
        (λ same. subst (λ (k : ℕ). gives (get_or old k d) more (get_or (set new t x) k d)) (sym same)
        (subst (λ (y : T). gives y more (get_or (set new t x) t d)) (is ∙ get_or_default new t v d inside ∙ h.coming t d l here)
        (subst (λ (y : T). gives v more y) (sym (get_or-set_same new t x d inside)) gave)))
        (λ other. subst (λ (y : T). gives (get_or old r d) more y) (sym (get_or-set_other new t r x d other))
        (h.put r d lr p (sym (left_others rest t left took r other) ∙ q)));
    coming = λ r d lr p. get_or-set_other new t r x d (λ same. clash p (left_without rest t left took r same)) ∙ h.coming r d lr (left_within rest t left took r p);
    kept = λ r d lr p. get_or-set_other new t r x d (λ same. clash (ap (λ (k : ℕ). bit k members) same ∙ h.within t here) p) ∙ h.kept r d lr p;
  }
    where
      here : bit t rest ≡ true
      here = taken_is rest t left took

      inside : t < length new
      inside = omega (arith, h.long)

  pub added_all : (new : List T) (rest : ℕ) → rest ≡ 0 → AddedTo gives old members more new rest → AddedBy gives old members more new
  added_all new rest e h = record { long = h.long; put = λ r d l p. h.put r d l p (ap (bit r) e ∙ bit_zero r); kept = h.kept }

-- what it comes to in masks
pub added_mask : (old : List ℕ) (members more : ℕ) (new : List ℕ) → Added old members more new → (r : ℕ) → r < length old → get_or new r 0 ≡ added_where members r (get_or old r 0) more
added_mask old members more new h r l =
    by_test (bit r members) (λ p. h.put r 0 l p ∙ sym (ap (λ (b : Bool). cond b (bit_xor (get_or old r 0) more) (get_or old r 0)) p))
    (λ p. h.kept r 0 l p ∙ sym (ap (λ (b : Bool). cond b (bit_xor (get_or old r 0) more) (get_or old r 0)) p))

-- ---- the first sources

pub own_none : (masks : List ℕ) → Own 0 masks
own_none masks = record { mask = λ q l. absurd (omega arith) }

pub own_more : (masks : List ℕ) (q x : ℕ) → q < length masks → x ≡ 2 ^ q → Own q masks → Own (q + 1) (set masks q x)
own_more masks q x l e h = record {
  mask = λ r lr. by_equal r q
      (λ same. ap (λ (k : ℕ). get_or (set masks q x) k 0) same ∙ get_or-set_same masks q x 0 l ∙ e ∙ ap (λ (k : ℕ). 2 ^ k) (sym same))
      (λ other. get_or-set_other masks q r x 0 other ∙ h.mask r (omega arith));
}

pub own_all : (masks : List ℕ) (q n : ℕ) → n ≤ q → Own q masks → Own n masks
own_all masks q n l h = record { mask = λ r lr. h.mask r (omega arith) }
