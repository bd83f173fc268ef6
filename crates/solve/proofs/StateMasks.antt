-- Laws of the method's state in masks: the start, and one choice.
use mathlib.Core.Path.{◌≡◌, refl, sym, ap, ap₂, ◌∙◌}
use mathlib.Core.Bool.{Bool, true, false, not, ◌&&◌, xor, and-true, and-false}
use mathlib.Core.List.{List}
use Prim.Native.Nat.{ℕ, ◌-◌, ◌^◌, ◌≤◌, ◌<◌}
use native.Mathlib.Omega.{arith}
use lib.Bits.{bit_xor}
use lib.Dec.{eqb, ltb}
use lib.ListN.{get_or}
use borrow.Author.Tests.{eq-eqb, ne_eqb, lt-ltb, le-ltb}
use Rattle.xor.proofs.Cases.{by_test, by_equal}
use Rattle.elimination.specs.Method.{State, start, free, joins, choose}
use Rattle.bits.specs.Bit.{bit, IsLowest}
use Rattle.solve.specs.Masked.{Sources, Unused, first_cell, starts_at, added_where}
use Rattle.bits.proofs.Lowest.{lowest_at, lowest_alike, lowest_within}
use Rattle.bits.proofs.Tests.{add_nothing, added_within, neither_within}
use Rattle.bits.proofs.Bits.{bit_xor_lem, bit_power, bit_ones}
use Rattle.bits.proofs.Masks.{bit_others}

-- a mask added to another where a test passes
pub bit_added : (k r test m more : ℕ) → bit k (added_where test r m more) ≡ xor (bit k m) (bit r test && bit k more)
bit_added k r test m more = by_test (bit r test) (λ e. rw e (bit_xor_lem k m more)) (λ e. rw e (sym (add_nothing (bit k m) true false refl)))

-- ---- the start

pub sources_start : (E : ℕ) (equation : ℕ → ℕ → Bool) (q : ℕ) → q < E → Sources E (start equation) q (2 ^ q)
sources_start E equation q l = record {
  bits = λ r. bit_power r q ∙ by_equal r q
      (λ e. eq-eqb r q e ∙ sym (ap₂ ◌&&◌ (lt-ltb r E (omega arith)) (eq-eqb q r (sym e))))
      (λ e. ne_eqb r q e ∙ sym (ap (◌&&◌ (ltb r E)) (ne_eqb q r (λ z. e (sym z))) ∙ and-false (ltb r E)));
}

pub unused_start : (E : ℕ) (equation : ℕ → ℕ → Bool) → Unused E (start equation) (2 ^ E - 1)
unused_start E equation = record { bits = λ r. bit_ones r E ∙ sym (and-true (ltb r E)) }

-- ---- the lowest unused equation that holds cell c, which is lost cell number k: no unused one holds a lost cell numbered below k
module _ (E : ℕ) (s : State) (c k : ℕ) (rows : List ℕ) (unused : ℕ) (small : E ≤ 64) (inside : k < 64) (hu : Unused E s unused)
    (hk : (r : ℕ) → r < E → bit k (get_or rows r 0) ≡ s.row r c)
    (clear : (r : ℕ) → r < E → s.used r ≡ false → (j : ℕ) → j < k → bit j (get_or rows r 0) ≡ false) where
  -- the equations whose first unsolved cell it is
  starts_free : (r : ℕ) → r < E → starts_at rows unused k r ≡ free s c r
  starts_free r l =
      let first = eqb (first_cell (get_or rows r 0)) k in
      by_test (s.used r)
      (λ p. ap (λ (b : Bool). b && first) (hu.bits r ∙ ap (λ (b : Bool). ltb r E && not b) p ∙ and-false (ltb r E)) ∙ sym (ap (λ (b : Bool). not b && s.row r c) p))
      (λ p. ap₂ ◌&&◌ (hu.bits r ∙ ap (λ (b : Bool). b && not (s.used r)) (lt-ltb r E l)) (lowest_at 64 (λ j. bit j (get_or rows r 0)) k inside (clear r l p) ∙ hk r l))

  starts_inside : (r : ℕ) → E ≤ r → starts_at rows unused k r ≡ false
  starts_inside r l = ap (λ (b : Bool). b && eqb (first_cell (get_or rows r 0)) k) (hu.bits r ∙ ap (λ (b : Bool). b && not (s.used r)) (le-ltb r E l))

  pub free_lowest : (q : ℕ) → q < 64 → IsLowest 64 (starts_at rows unused k) q → (q < E) × IsLowest E (free s c) q
  free_lowest q l h =
      let found = lowest_within 64 E (starts_at rows unused k) q small (λ r lo hi. starts_inside r lo) l h in
      (found.0, lowest_alike E (starts_at rows unused k) (free s c) q starts_free found.1)

  pub free_none : IsLowest 64 (starts_at rows unused k) 64 → (r : ℕ) → r < E → free s c r ≡ false
  free_none h r l = sym (starts_free r l) ∙ h.before r (omega arith)

-- ---- equation q is chosen for cell c, which the members of m hold
module _ (E : ℕ) (s : State) (c q m : ℕ) (below : q < E) (hm : (r : ℕ) → r < E → bit r m ≡ s.row r c) (holds : s.row q c ≡ true) where
  -- the equations that q is added to
  joins_bit : (r : ℕ) → r < E → bit r (bit_xor m (2 ^ q)) ≡ joins s c q r
  joins_bit r l = bit_others q r m (hm q below ∙ holds) ∙ ap (◌&&◌ (not (eqb r q))) (hm r l)

  -- a bit of any equation's mask after it, be it of the lost cells or of the original equations
  pub bit_after : (r : ℕ) → r < E → (k m' mq : ℕ) (x y : Bool) → bit k m' ≡ x → bit k mq ≡ y
      → bit k (added_where (bit_xor m (2 ^ q)) r m' mq) ≡ xor x (joins s c q r && y)
  bit_after r l k m' mq x y e e' =
      bit_added k r (bit_xor m (2 ^ q)) m' mq ∙ ap₂ xor e (ap₂ ◌&&◌ (joins_bit r l) e')

  -- the original equations that it is the sum of
  pub sources_next : (r : ℕ) → r < E → (m' mq : ℕ) → Sources E s r m' → Sources E s q mq → Sources E (choose E s c q) r (added_where (bit_xor m (2 ^ q)) r m' mq)
  sources_next r l m' mq h hq = record {
    bits = λ k. bit_after r l k m' mq (ltb k E && s.from r k) (ltb k E && s.from q k) (h.bits k) (hq.bits k)
        ∙ added_within (ltb k E) (s.from r k) (joins s c q r) (s.from q k);
  }

  -- q is used
  pub unused_next : (u : ℕ) → Unused E s u → s.used q ≡ false → Unused E (choose E s c q) (bit_xor u (2 ^ q))
  unused_next u h unused = record {
    bits = λ r.
        bit_others q r u (h.bits q ∙ ap₂ (λ (x y : Bool). x && not y) (lt-ltb q E below) unused)
        ∙ ap (◌&&◌ (not (eqb r q))) (h.bits r)
        ∙ neither_within (ltb r E) (eqb r q) (s.used r);
  }
