-- The equations that hold a cell: those that sum it where it is data, and for a parity cell its own, and the one that sums it.
-- Each code has a test for their numbers; one law (`held`) makes the set of it.
use mathlib.Core.Path.{◌≡◌, refl, sym, ap, ap₂, ◌∙◌}
use mathlib.Core.Logic.{◌≢◌}
use mathlib.Core.Bool.{Bool, true, false, xor, ◌&&◌, ◌||◌}
use Prim.Native.Nat.{ℕ, ◌+◌, ◌-◌, ◌%◌, ◌^◌, ◌≤◌, ◌<◌}
use native.Mathlib.Omega.{arith}
use lib.Bits.{bit_and, bit_or, bit_xor}
use lib.Dec.{eqb, leb, ltb}
use borrow.Author.Tests.{lt-ltb, le-ltb, lt-leb, le-leb, eq-eqb, ne_eqb, eqb-true, leb-true}
use Rattle.xor.proofs.Cases.{by_less, clash, not_passed, same_test}
use Rattle.bits.specs.Bit.{bit}
use Rattle.bits.proofs.Bits.{bit_and_lem, bit_or_lem, bit_xor_lem, bit_power, bit_ones}
use Rattle.codes.specs.declared.Shape.{Shape}
use Rattle.codes.specs.Shape.{rows, columns, equations, cell_number, WellFormed}
use Rattle.codes.specs.Encoded.{parity_cell, sums_cell, is_parity}
use Rattle.codes.specs.Holders.{holds, SetOf, HeldBy, Named, NamedFrom}
use Rattle.codes.proofs.Shapes.{low, by_code, columns_third}
use Rattle.codes.proofs.Lines.{rdp_rows, rdp_columns, hcode_rows, hcode_columns, evenodd_rows}
use Rattle.codes.proofs.Ordered.{ordered, after, sums_parity}
use Rattle.codes.proofs.Positions.{rdp_n, rdp_first, rdp_second, rdp_parity, rdp_sums, hcode_n, hcode_first, hcode_second, hcode_parity, hcode_sums, xcode_n, xcode_rows, xcode_first_at, xcode_second_at, xcode_parity, xcode_sums, evenodd_n, evenodd_first, evenodd_second, evenodd_parity, evenodd_sums, evenodd_sums_all}
use Rattle.codes.proofs.Units.{not_parity}

-- the set of two numbers, as the code makes it
pub named_is : (s : Shape) (a b n x y z : ℕ) → x ≡ 2 ^ a → y ≡ 2 ^ b → n ≡ equations s → z ≡ 2 ^ n → Named s a b (bit_and (bit_or x y) (z - 1))
named_is s a b n x y z ex ey en ez = record {
  bits = λ q.
      bit_and_lem q (bit_or x y) (z - 1)
      ∙ ap₂ ◌&&◌ (bit_or_lem q x y ∙ ap₂ ◌||◌ (ap (bit q) ex ∙ bit_power q a) (ap (bit q) ey ∙ bit_power q b)) (ap (λ (k : ℕ). bit q (k - 1)) ez ∙ bit_ones q n ∙ ap (ltb q) en)
      ∙ swap (eqb q a || eqb q b) (ltb q (equations s));
}
  where
    swap : (a b : Bool) → (a && b) ≡ (b && a)
    swap true true = refl
    swap true false = refl
    swap false true = refl
    swap false false = refl

-- where both are equations nothing has to be cut off
pub pair_is : (s : Shape) (a b x y : ℕ) → a < equations s → b < equations s → x ≡ 2 ^ a → y ≡ 2 ^ b → Named s a b (bit_or x y)
pair_is s a b x y la lb ex ey = record {
  bits = λ q.
      bit_or_lem q x y ∙ ap₂ ◌||◌ (ap (bit q) ex ∙ bit_power q a) (ap (bit q) ey ∙ bit_power q b)
      ∙ by_less q (equations s) (λ l. rw (lt-ltb q (equations s) l) refl)
      (λ l. rw (le-ltb q (equations s) l, ne_eqb q a (λ e. omega arith), ne_eqb q b (λ e. omega arith)) refl);
}

-- one member, and all from n on
pub from_is : (s : Shape) (a n m x y z : ℕ) → a < equations s → n ≤ equations s → m ≡ equations s → x ≡ 2 ^ a → y ≡ 2 ^ m → z ≡ 2 ^ n → NamedFrom s a n (bit_or x (bit_xor (y - 1) (z - 1)))
unfolding xor
from_is s a n m x y z la ln em ex ey ez = record {
  bits = λ q.
      bit_or_lem q x (bit_xor (y - 1) (z - 1))
      ∙ ap₂ ◌||◌ (ap (bit q) ex ∙ bit_power q a) (bit_xor_lem q (y - 1) (z - 1) ∙ ap₂ xor (ap (λ (k : ℕ). bit q (k - 1)) ey ∙ bit_ones q m ∙ ap (ltb q) em) (ap (λ (k : ℕ). bit q (k - 1)) ez ∙ bit_ones q n))
      ∙ by_less q (equations s)
      (λ l. by_less q n
      (λ k. rw (lt-ltb q (equations s) l, lt-ltb q n k, lt-leb n q k) refl)
      (λ k. rw (lt-ltb q (equations s) l, le-ltb q n k, le-leb n q k) refl))
      (λ l. rw (le-ltb q (equations s) l, le-ltb q n (omega arith), ne_eqb q a (λ e. omega arith)) refl);
}

module _ (s : Shape) where
  -- the equations that pass the test are those that hold the cell
  held : (c : ℕ) (test : ℕ → Bool) (m : ℕ) → SetOf s test m → ((q : ℕ) → q < equations s → holds s q c ≡ test q) → HeldBy s c m
  held c test m h is = record { bits = λ q. h.bits q ∙ by_less q (equations s) (λ l. ap (◌&&◌ (ltb q (equations s))) (sym (is q l))) (λ l. rw (le-ltb q (equations s) l) refl) }

  -- what the set says
  pub held_below : (c m : ℕ) → HeldBy s c m → (q : ℕ) → bit q m ≡ true → q < equations s
  held_below c m h q p = by_less q (equations s) (λ l. l) (λ l. clash p (h.bits q ∙ ap (λ (b : Bool). b && holds s q c) (le-ltb q (equations s) l)))

  pub held_is : (c m : ℕ) → HeldBy s c m → (q : ℕ) → q < equations s → bit q m ≡ holds s q c
  held_is c m h q l = h.bits q ∙ ap (λ (b : Bool). b && holds s q c) (lt-ltb q (equations s) l)

module _ (s : Shape) (w : WellFormed s) where
  -- a data cell is held by those that sum it
  pub data_holds : (c : ℕ) → is_parity s c ≡ false → (q : ℕ) → q < equations s → holds s q c ≡ sums_cell s q c
  unfolding holds
  data_holds c plain q l = ap (λ (b : Bool). b || sums_cell s q c) (ne_eqb c (parity_cell s q) (not_parity s c q plain l))

  -- except in RDP no equation sums a parity cell
  pub none_after : s.code ≢ 1 → (r : ℕ) → equations s ≡ after s r
  none_after n r = by_code s w (λ e. absurd (n e)) (λ e. hcode_n s w e ∙ rw e refl) (λ e. xcode_n s w e ∙ rw e refl) (λ e. evenodd_n s w e ∙ rw e refl)

  -- a parity cell by its own, and by the one after it, if there is such
  pub parity_holds : (r c : ℕ) → parity_cell s r ≡ c → r < equations s → (q : ℕ) → q < equations s → holds s q c ≡ (eqb q r || (ltb r (rows s) && eqb q (after s r)))
  unfolding holds
  parity_holds r c is lr q lq = ap₂ ◌||◌ own (ap (sums_cell s q) (sym is) ∙ sums_parity s w q r lq lr)
    where
      own : eqb c (parity_cell s q) ≡ eqb q r
      own =
          same_test
          (λ h. eq-eqb q r ((ordered s w).once q r lq lr (sym (eqb-true c (parity_cell s q) h) ∙ sym is)))
          (λ h. eq-eqb c (parity_cell s q) (sym is ∙ ap (parity_cell s) (sym (eqb-true q r h))))

  -- the parity cell of r, which no other equation sums
  lone_held : (r c m : ℕ) → parity_cell s r ≡ c → r < equations s → (r < rows s → equations s ≡ after s r) → Named s r r m → HeldBy s c m
  lone_held r c m is lr last named =
      held s c (λ q. eqb q r || eqb q r) m named (λ q l. parity_holds r c is lr q l ∙ ap (◌||◌ (eqb q r)) (none q l) ∙ twice (eqb q r))
    where
      none : (q : ℕ) → q < equations s → (ltb r (rows s) && eqb q (after s r)) ≡ false
      none q l = by_less r (rows s) (λ k. rw (lt-ltb r (rows s) k, ne_eqb q (after s r) (λ e. let z = last k in omega arith)) refl) (λ k. rw (le-ltb r (rows s) k) refl)

      twice : (b : Bool) → (b || false) ≡ (b || b)
      twice true = refl
      twice false = refl

  -- where they stand, code by code
  module _ (i j : ℕ) (li : i < rows s) (lj : j < columns s) (m : ℕ) where
    module _ (is-rdp : s.code ≡ 1) where
      row_small : i < s.p - 1
      row_small = omega (arith, li, rdp_rows s w is-rdp)

      pub rdp_held : (a : ℕ) → j ≢ s.p → a ≡ (i + j) % s.p → Named s i (s.p - 1 + a) m → HeldBy s (cell_number s i j) m
      rdp_held a n ea named =
          held s (cell_number s i j) (λ q. eqb q i || eqb q (s.p - 1 + a)) m named
          (λ q l. by_less j (s.p - 1)
          (λ k. data_holds (cell_number s i j) (plain k) q l ∙ rdp_sums s w is-rdp i j row_small k q l ∙ ap (λ (x : ℕ). eqb q i || eqb q (s.p - 1 + x)) (sym ea))
          (λ k. parity_holds i (cell_number s i j) (rdp_first s w is-rdp i row_small ∙ ap (cell_number s i) (sym (last k))) (omega (arith, rdp_n s w is-rdp, row_small)) q l
          ∙ ap (λ (b : Bool). eqb q i || (b && eqb q (after s i))) (lt-ltb i (rows s) li)
          ∙ ap (λ (x : ℕ). eqb q i || eqb q x) (rw is-rdp (ap (λ (x : ℕ). s.p - 1 + (i + x) % s.p) (sym (last k)) ∙ ap (λ (x : ℕ). s.p - 1 + x) (sym ea)))))
        where
          plain : j < s.p - 1 → is_parity s (cell_number s i j) ≡ false
          plain k = sym (rdp_parity s w is-rdp i j li lj) ∙ not_passed (λ h. absurd (let z = leb-true (s.p - 1) j h in omega arith))

          last : s.p - 1 ≤ j → j ≡ s.p - 1
          last k = omega (arith, lj, rdp_columns s w is-rdp)

      pub rdp_last_held : j ≡ s.p → Named s (s.p - 1 + i) (s.p - 1 + i) m → HeldBy s (cell_number s i j) m
      rdp_last_held e =
          lone_held (s.p - 1 + i) (cell_number s i j) m
          (rdp_second s w is-rdp i row_small ∙ ap (cell_number s i) (sym e))
          (omega (arith, row_small, rdp_n s w is-rdp)) (λ l. absurd (omega (arith, rdp_rows s w is-rdp)))

    module _ (is-hcode : s.code ≡ 2) where
      tall : i < s.p - 1
      tall = omega (arith, li, hcode_rows s w is-hcode)

      lone : (r : ℕ) → r < rows s → equations s ≡ after s r
      lone r l = none_after (λ e. omega arith) r

      pub hcode_last_held : j ≡ s.p → Named s i i m → HeldBy s (cell_number s i j) m
      hcode_last_held e =
          lone_held i (cell_number s i j) m (hcode_first s w is-hcode i tall ∙ ap (cell_number s i) (sym e)) (omega (arith, tall, hcode_n s w is-hcode)) (lone i)

      pub hcode_beside_held : j ≡ i + 1 → Named s (s.p - 1 + i) (s.p - 1 + i) m → HeldBy s (cell_number s i j) m
      hcode_beside_held e =
          lone_held (s.p - 1 + i) (cell_number s i j) m
          (hcode_second s w is-hcode i tall ∙ ap (cell_number s i) (sym e)) (omega (arith, tall, hcode_n s w is-hcode)) (lone (s.p - 1 + i))

      pub hcode_held : (a : ℕ) → j ≢ s.p → j ≢ i + 1 → a ≡ (j + (s.p - 2 - i)) % s.p → Named s i (s.p - 1 + a) m → HeldBy s (cell_number s i j) m
      hcode_held a n off ea named =
          held s (cell_number s i j) (λ q. eqb q i || eqb q (s.p - 1 + a)) m named
          (λ q l. data_holds (cell_number s i j) plain q l ∙ hcode_sums s w is-hcode i j tall (omega (arith, lj, hcode_columns s w is-hcode)) off q l ∙ ap (λ (x : ℕ). eqb q i || eqb q (s.p - 1 + x)) (sym ea))
        where
          plain : is_parity s (cell_number s i j) ≡ false
          plain = hcode_parity s w is-hcode i j li ∙ ap₂ ◌||◌ (ne_eqb j s.p n) (ne_eqb j (i + 1) off)

    module _ (is-xcode : s.code ≡ 3) where
      wide : j < s.p
      wide = omega (arith, lj, columns_third s is-xcode)

      lone' : (r : ℕ) → r < rows s → equations s ≡ after s r
      lone' r l = none_after (λ e. omega arith) r

      pub xcode_last_held : i ≡ s.p - 1 → Named s (s.p + j) (s.p + j) m → HeldBy s (cell_number s i j) m
      xcode_last_held e =
          lone_held (s.p + j) (cell_number s i j) m
          (xcode_second_at s w is-xcode j wide ∙ ap (λ (x : ℕ). cell_number s x j) (sym e)) (omega (arith, wide, xcode_n s w is-xcode)) (lone' (s.p + j))

      pub xcode_before_held : i ≡ s.p - 2 → Named s j j m → HeldBy s (cell_number s i j) m
      xcode_before_held e =
          lone_held j (cell_number s i j) m
          (xcode_first_at s w is-xcode j wide ∙ ap (λ (x : ℕ). cell_number s x j) (sym e)) (omega (arith, wide, xcode_n s w is-xcode)) (lone' j)

      pub xcode_held : (a b : ℕ) → i ≢ s.p - 1 → i ≢ s.p - 2 → a ≡ (j + (s.p - 2 - i)) % s.p → b ≡ (j + (i + 2)) % s.p → Named s a (s.p + b) m → HeldBy s (cell_number s i j) m
      xcode_held a b n n' ea eb named =
          held s (cell_number s i j) (λ q. eqb q a || eqb q (s.p + b)) m named
          (λ q l. data_holds (cell_number s i j) plain q l ∙ xcode_sums s w is-xcode i j short wide q l ∙ ap₂ (λ (x y : ℕ). eqb q x || eqb q (s.p + y)) (sym ea) (sym eb))
        where
          short : i < s.p - 2
          short = omega (arith, li, xcode_rows s w is-xcode, low s w)

          plain : is_parity s (cell_number s i j) ≡ false
          plain = sym (xcode_parity s w is-xcode i j li lj) ∙ not_passed (λ h. absurd (let z = leb-true (s.p - 2) i h in omega (arith, short)))

    module _ (is-evenodd : s.code ≡ 4) where
      level : i < s.p - 1
      level = omega (arith, li, evenodd_rows s w is-evenodd)

      lone'' : (r : ℕ) → r < rows s → equations s ≡ after s r
      lone'' r l = none_after (λ e. omega arith) r

      data_cell : j < s.p → is_parity s (cell_number s i j) ≡ false
      data_cell k = sym (evenodd_parity s w is-evenodd i j li lj) ∙ lt-leb s.p j k

      pub evenodd_row_held : j ≡ s.p → Named s i i m → HeldBy s (cell_number s i j) m
      evenodd_row_held e =
          lone_held i (cell_number s i j) m (evenodd_first s w is-evenodd i level ∙ ap (cell_number s i) (sym e)) (omega (arith, level, evenodd_n s w is-evenodd)) (lone'' i)

      pub evenodd_last_held : j ≡ s.p + 1 → Named s (s.p - 1 + i) (s.p - 1 + i) m → HeldBy s (cell_number s i j) m
      evenodd_last_held e =
          lone_held (s.p - 1 + i) (cell_number s i j) m
          (evenodd_second s w is-evenodd i ∙ ap (cell_number s i) (sym e)) (omega (arith, level, evenodd_n s w is-evenodd)) (lone'' (s.p - 1 + i))

      pub evenodd_held : (a : ℕ) → j < s.p → i + j ≢ s.p - 1 → a ≡ (i + j) % s.p → Named s i (s.p - 1 + a) m → HeldBy s (cell_number s i j) m
      evenodd_held a k off ea named =
          held s (cell_number s i j) (λ q. eqb q i || eqb q (s.p - 1 + a)) m named
          (λ q l. data_holds (cell_number s i j) (data_cell k) q l ∙ evenodd_sums s w is-evenodd i j level k off q l ∙ ap (λ (x : ℕ). eqb q i || eqb q (s.p - 1 + x)) (sym ea))

      pub evenodd_all_held : j < s.p → i + j ≡ s.p - 1 → NamedFrom s i (s.p - 1) m → HeldBy s (cell_number s i j) m
      evenodd_all_held k on named =
          held s (cell_number s i j) (λ q. eqb q i || leb (s.p - 1) q) m named
          (λ q l. data_holds (cell_number s i j) (data_cell k) q l ∙ evenodd_sums_all s w is-evenodd i j level k on q l)
