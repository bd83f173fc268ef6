-- The equations whose parity cells depend on a data cell: those that hold it, and in RDP the diagonal that sums the parity cell of its row.
use mathlib.Core.Path.{◌≡◌, refl, sym, ap, ap₂, ◌∙◌, subst}
use mathlib.Core.Logic.{◌≢◌}
use mathlib.Core.Bool.{Bool, true, false, cond, ◌&&◌, ◌||◌}
use Prim.Native.Nat.{ℕ, ◌+◌, ◌-◌, ◌/◌, ◌%◌, ◌≤◌, ◌<◌}
use native.Mathlib.Nat.{mod-lt, mod-eq_of_lt, add-mod_right, add_comm}
use native.Mathlib.Omega.{arith}
use lib.Bits.{bit_or}
use lib.Dec.{eqb, ltb}
use borrow.Author.Tests.{le-ltb, leb-false, eq-eqb, eqb-true}
use Rattle.xor.specs.Xor.{◌⊕◌}
use Rattle.xor.proofs.Cases.{by_test, by_equal, by_less, clash, either, or_left, or_right, and_left, and_right, not_passed, same_test}
use Rattle.xor.proofs.Algebra.{zero_⊕, ⊕_zero}
use Rattle.xor.proofs.Sums.{xors_zero, xors_one}
use Rattle.xor.proofs.Sets.{any_some}
use Rattle.bits.specs.Bit.{bit}
use Rattle.bits.proofs.Bits.{bit_or_lem, bit_zero}
use Rattle.codes.specs.declared.Shape.{Shape}
use Rattle.codes.specs.Shape.{rows, cells, equations, cell_number, WellFormed}
use Rattle.codes.specs.Encoded.{parity_cell, sums_cell, is_parity}
use Rattle.codes.specs.Depends.{DataCell, DependOn}
use Rattle.codes.specs.Holders.{holds, HeldBy}
use Rattle.codes.proofs.Shapes.{low, by_code, columns_third}
use Rattle.codes.proofs.Residues.{wrapped, there_and_back}
use Rattle.codes.proofs.Lines.{rdp_rows, hcode_rows, hcode_columns, evenodd_rows}
use Rattle.codes.proofs.Ordered.{ordered, after, sums_parity}
use Rattle.codes.proofs.Positions.{cell_inside, rdp_n, rdp_first, rdp_parity, rdp_sums, hcode_n, hcode_parity, hcode_sums, xcode_n, xcode_parity, xcode_sums, evenodd_n, evenodd_parity, evenodd_sums, evenodd_sums_all}
use Rattle.codes.proofs.Geometry.{number_at, row_at, column_at}
use Rattle.codes.proofs.Held.{data_holds, parity_holds, none_after, held_below, held_is}
use Rattle.codes.proofs.Units.{depend}

-- a turned column is a column, and small
pub turn_below : (a n p : ℕ) → 3 ≤ p → a ≡ n % p → a < p
turn_below a n p lo e = let l : n % p < p = mod-lt n (omega arith) in omega arith

pub small_turn : (a n p : ℕ) → 3 ≤ p → p ≤ 31 → a ≡ n % p → a ≤ 31
small_turn a n p lo hi e = omega (arith, turn_below a n p lo e)

-- a diagonal is one of the first p - 1 unless row and column are p - 1 together
pub off_last : (p i j : ℕ) → i < p - 1 → j < p → i + j ≢ p - 1 → (i + j) % p < p - 1
off_last p i j li lj n =
    by_less (i + j) p
    (λ l. let at : (i + j) % p ≡ i + j = mod-eq_of_lt l in omega arith)
    (λ l. let at = wrapped p (i + j) l (omega arith) in omega arith)

module _ (s : Shape) (w : WellFormed s) (c : ℕ) (inside : c < cells s) (plain : is_parity s c ≡ false) where
  -- no equation sums the parity cell of one that holds the cell
  depend_direct : (m : ℕ) → HeldBy s c m → ((q r : ℕ) → q < equations s → r < equations s → sums_cell s q (parity_cell s r) ≡ false) → DependOn s c m
  depend_direct m h none =
      depend s w c m plain inside (held_below s c m h)
      (λ q l. ap (λ (b : Bool). cond b 1 0) (held_is s c m h q l ∙ data_holds s w c plain q l)
      ∙ sym (⊕_zero (cond (sums_cell s q c) 1 0))
      ∙ ap (λ (x : ℕ). cond (sums_cell s q c) 1 0 ⊕ x) (sym (xors_zero (equations s) (λ r. cond (bit r m && sums_cell s q (parity_cell s r)) 1 0) (λ r k. rw (none q r l k) (by_test (bit r m) (λ p. rw p refl) (λ p. rw p refl))))))

  -- of those that hold it one has a parity cell that is summed; those that hold that are added
  depend_onward : (h k r : ℕ) → HeldBy s c h → r < equations s → sums_cell s r c ≡ true → HeldBy s (parity_cell s r) k
      → ((q o : ℕ) → q < equations s → o < equations s → o ≢ r → bit o (bit_or h k) ≡ true → sums_cell s q (parity_cell s o) ≡ false)
      → ((q : ℕ) → q < equations s → sums_cell s q c ≡ true → sums_cell s q (parity_cell s r) ≡ true → ⊥) → DependOn s c (bit_or h k)
  unfolding holds
  depend_onward h k r hh lr first hk none apart =
      depend s w c (bit_or h k) plain inside
      (λ q p. either (bit q h) (bit q k) (sym (bit_or_lem q h k) ∙ p) (held_below s c h hh q) (held_below s (parity_cell s r) k hk q))
      (λ q l. ap (λ (b : Bool). cond b 1 0) (member q l) ∙ split (sums_cell s q c) (sums_cell s q (parity_cell s r)) (apart q l)
      ∙ ap (λ (x : ℕ). cond (sums_cell s q c) 1 0 ⊕ x)
      (sym (xors_one (equations s) (λ o. cond (bit o (bit_or h k) && sums_cell s q (parity_cell s o)) 1 0) r lr (λ o lo n. ap (λ (b : Bool). cond b 1 0) (not_passed (λ p. clash (and_right (bit o (bit_or h k)) (sums_cell s q (parity_cell s o)) p) (none q o l lo n (and_left (bit o (bit_or h k)) (sums_cell s q (parity_cell s o)) p)))))
      ∙ ap (λ (b : Bool). cond (b && sums_cell s q (parity_cell s r)) 1 0) (member r lr ∙ or_left (sums_cell s r (parity_cell s r)) first))))
    where
      split : (a b : Bool) → (a ≡ true → b ≡ true → ⊥) → cond (a || b) 1 0 ≡ cond a 1 0 ⊕ cond b 1 0
      split true true n = absurd (n refl refl)
      split true false n = sym (⊕_zero 1)
      split false b n = sym (zero_⊕ (cond b 1 0))

      member : (q : ℕ) → q < equations s → bit q (bit_or h k) ≡ (sums_cell s q c || sums_cell s q (parity_cell s r))
      member q l =
          bit_or_lem q h k ∙ ap₂ ◌||◌ (held_is s c h hh q l ∙ data_holds s w c plain q l) (held_is s (parity_cell s r) k hk q l)
          ∙ same_test
          (λ p. either (sums_cell s q c) (eqb (parity_cell s r) (parity_cell s q) || sums_cell s q (parity_cell s r)) p (or_left (sums_cell s q (parity_cell s r)))
          (λ p. either (eqb (parity_cell s r) (parity_cell s q)) (sums_cell s q (parity_cell s r)) p own (or_right (sums_cell s q c))))
          (λ p. either (sums_cell s q c) (sums_cell s q (parity_cell s r)) p (or_left (eqb (parity_cell s r) (parity_cell s q) || sums_cell s q (parity_cell s r))) (λ p. or_right (sums_cell s q c) (or_right (eqb (parity_cell s r) (parity_cell s q)) p)))
        where
          own : eqb (parity_cell s r) (parity_cell s q) ≡ true → (sums_cell s q c || sums_cell s q (parity_cell s r)) ≡ true
          own e = or_left (sums_cell s q (parity_cell s r)) (ap (λ (o : ℕ). sums_cell s o c) ((ordered s w).once q r l lr (sym (eqb-true (parity_cell s r) (parity_cell s q) e))) ∙ first)

pub data_at : (s : Shape) → WellFormed s → (c : ℕ) → c < cells s → is_parity s c ≡ false → DataCell s (c % rows s) (c / rows s)
data_at s w c l p = record { low = row_at s w c; right = column_at s w c l; plain = ap (is_parity s) (number_at s w c) ∙ p }

module _ (s : Shape) (w : WellFormed s) (i j : ℕ) (cell : DataCell s i j) where
  pos : 0 < s.p
  pos = omega (arith, low s w)

  here : cell_number s i j < cells s
  here = cell_inside s w i j cell.low cell.right

  module _ (is-rdp : s.code ≡ 1) where
    pub rdp_row_small : i < s.p - 1
    rdp_row_small = omega (arith, cell.low, rdp_rows s w is-rdp)

    pub rdp_column_small : j < s.p - 1
    rdp_column_small = leb-false (s.p - 1) j (rdp_parity s w is-rdp i j cell.low cell.right ∙ cell.plain)

    -- the diagonals of the cell and of its row's parity cell differ
    pub two_diagonals : (i + j) % s.p ≢ (i + (s.p - 1)) % s.p
    two_diagonals e = let z : j ≡ s.p - 1 = back j (omega (arith, rdp_column_small)) ∙ ap (λ (x : ℕ). (x + (s.p - i)) % s.p) e ∙ sym (back (s.p - 1) (omega (arith, pos))) ∙ refl in omega (arith, rdp_column_small)
      where
        back : (k : ℕ) → k < s.p → k ≡ ((i + k) % s.p + (s.p - i)) % s.p
        back k l = sym (ap (λ (x : ℕ). (x % s.p + (s.p - i)) % s.p) (add_comm i k) ∙ there_and_back s.p k i (s.p - i) l whole)
          where
            whole : i + (s.p - i) ≡ s.p
            whole = omega (arith, rdp_row_small)

    pub rdp_depends : (h k : ℕ) → HeldBy s (cell_number s i j) h → HeldBy s (cell_number s i (s.p - 1)) k → DependOn s (cell_number s i j) (bit_or h k)
    rdp_depends h k hh hk =
        depend_onward s w (cell_number s i j) here cell.plain h k i hh known
        (sums i known ∙ or_left _ (eq-eqb i i refl))
        (subst (λ (c : ℕ). HeldBy s c k) (sym at) hk)
        (λ q o lq lo n p. sums_parity s w q o lq lo ∙ ap (λ (b : Bool). b && eqb q (after s o)) (le-ltb o (rows s) (far o lo n p)))
        (λ q l a b. either (eqb q i) (eqb q (s.p - 1 + (i + j) % s.p)) (sym (sums q l) ∙ a)
        (λ e. absurd (let same = eqb-true q i e in omega (arith, second q l b, rdp_row_small)))
        (λ e. two_diagonals (let same = eqb-true q (s.p - 1 + (i + j) % s.p) e in omega (arith, second q l b))))
      where
        known : i < equations s
        known = omega (arith, rdp_row_small, rdp_n s w is-rdp)

        at : parity_cell s i ≡ cell_number s i (s.p - 1)
        at = rdp_first s w is-rdp i rdp_row_small

        sums : (q : ℕ) → q < equations s → sums_cell s q (cell_number s i j) ≡ (eqb q i || eqb q (s.p - 1 + (i + j) % s.p))
        sums = rdp_sums s w is-rdp i j rdp_row_small rdp_column_small

        next : after s i ≡ s.p - 1 + (i + (s.p - 1)) % s.p
        next = rw is-rdp refl

        -- what sums the row's parity cell is its diagonal
        second : (q : ℕ) → q < equations s → sums_cell s q (parity_cell s i) ≡ true → q ≡ s.p - 1 + (i + (s.p - 1)) % s.p
        second q l b = eqb-true q (after s i) (and_right (ltb i (rows s)) (eqb q (after s i)) (sym (sums_parity s w q i l known) ∙ b)) ∙ next

        -- the others are diagonals
        far : (o : ℕ) → o < equations s → o ≢ i → bit o (bit_or h k) ≡ true → rows s ≤ o
        far o lo n p =
            either (bit o h) (bit o k) (sym (bit_or_lem o h k) ∙ p)
            (λ p. either (eqb o i) (eqb o (s.p - 1 + (i + j) % s.p)) (sym (held_is s (cell_number s i j) h hh o lo ∙ data_holds s w (cell_number s i j) cell.plain o lo ∙ sums o lo) ∙ p)
            (λ e. absurd (n (eqb-true o i e)))
            (λ e. let same = eqb-true o (s.p - 1 + (i + j) % s.p) e in omega (arith, rdp_rows s w is-rdp)))
            (λ p. either (eqb o i) (ltb i (rows s) && eqb o (after s i)) (sym (held_is s (cell_number s i (s.p - 1)) k hk o lo ∙ parity_holds s w i (cell_number s i (s.p - 1)) at known o lo) ∙ p)
            (λ e. absurd (n (eqb-true o i e)))
            (λ e. let same = eqb-true o (after s i) (and_right (ltb i (rows s)) (eqb o (after s i)) e) in omega (arith, next, rdp_rows s w is-rdp)))

  module _ (is-hcode : s.code ≡ 2) where
    pub hcode_row_small : i < s.p - 1
    hcode_row_small = omega (arith, cell.low, hcode_rows s w is-hcode)

    pub hcode_off : j ≢ i + 1
    hcode_off e = clash (hcode_parity s w is-hcode i j cell.low ∙ or_right (eqb j s.p) (eq-eqb j (i + 1) e)) cell.plain

    pub hcode_column_small : j < s.p
    hcode_column_small =
        by_equal j s.p (λ e. clash (hcode_parity s w is-hcode i j cell.low ∙ or_left _ (eq-eqb j s.p e)) cell.plain)
        (λ n. omega (arith, cell.right, hcode_columns s w is-hcode))

    -- the anti-diagonal of a data cell is one of the p - 1
    pub one_of_them : (j + (s.p - 2 - i)) % s.p ≢ s.p - 1
    one_of_them e = hcode_off (let z : j ≡ (s.p - 1 + (i + 2)) % s.p = sym (there_and_back s.p j (s.p - 2 - i) (i + 2) hcode_column_small whole) ∙ ap (λ (x : ℕ). (x + (i + 2)) % s.p) e in
        z ∙ ap (λ (x : ℕ). x % s.p) around ∙ add-mod_right (i + 1) s.p ∙ mod-eq_of_lt (omega (arith, hcode_row_small)))
      where
        whole : s.p - 2 - i + (i + 2) ≡ s.p
        whole = omega (arith, hcode_row_small)

        around : s.p - 1 + (i + 2) ≡ i + 1 + s.p
        around = omega (arith, pos)

  module _ (is-xcode : s.code ≡ 3) where
    pub xcode_row_small : i < s.p - 2
    xcode_row_small = leb-false (s.p - 2) i (xcode_parity s w is-xcode i j cell.low cell.right ∙ cell.plain)

    pub xcode_column_small : j < s.p
    xcode_column_small = omega (arith, cell.right, columns_third s is-xcode)

  module _ (is-evenodd : s.code ≡ 4) where
    pub evenodd_row_small : i < s.p - 1
    evenodd_row_small = omega (arith, cell.low, evenodd_rows s w is-evenodd)

    pub evenodd_column_small : j < s.p
    evenodd_column_small = leb-false s.p j (evenodd_parity s w is-evenodd i j cell.low cell.right ∙ cell.plain)

  -- in the other codes no equation sums a parity cell
  pub other_depends : s.code ≢ 1 → (m : ℕ) → HeldBy s (cell_number s i j) m → DependOn s (cell_number s i j) m
  other_depends other m h =
      depend_direct s w (cell_number s i j) here cell.plain m h
      (λ q r lq lr. sums_parity s w q r lq lr ∙ not_passed (λ p. let last = eqb-true q (after s r) (and_right (ltb r (rows s)) (eqb q (after s r)) p) in omega (arith, none_after s w other r)))

  -- an equation that holds the cell: its row, or its line of the first family
  data_some : (q : ℕ) × (q < equations s) × (sums_cell s q (cell_number s i j) ≡ true)
  data_some =
      by_code s w
      (λ e. let l : i < equations s = omega (arith, rdp_row_small e, rdp_n s w e) in
      (i, l, rdp_sums s w e i j (rdp_row_small e) (rdp_column_small e) i l ∙ or_left _ (eq-eqb i i refl)))
      (λ e. let l : i < equations s = omega (arith, hcode_row_small e, hcode_n s w e) in
      (i, l, hcode_sums s w e i j (hcode_row_small e) (hcode_column_small e) (hcode_off e) i l ∙ or_left _ (eq-eqb i i refl)))
      (λ e. let small : (j + (s.p - 2 - i)) % s.p < s.p = mod-lt (j + (s.p - 2 - i)) pos in
      let l : (j + (s.p - 2 - i)) % s.p < equations s = omega (arith, xcode_n s w e) in
      ((j + (s.p - 2 - i)) % s.p, l, xcode_sums s w e i j (xcode_row_small e) (xcode_column_small e) ((j + (s.p - 2 - i)) % s.p) l ∙ or_left _ (eq-eqb ((j + (s.p - 2 - i)) % s.p) ((j + (s.p - 2 - i)) % s.p) refl)))
      (λ e. let l : i < equations s = omega (arith, evenodd_row_small e, evenodd_n s w e) in (
        i,
        l,
        by_equal (i + j) (s.p - 1)
            (λ on. evenodd_sums_all s w e i j (evenodd_row_small e) (evenodd_column_small e) on i l ∙ or_left _ (eq-eqb i i refl))
            (λ off. evenodd_sums s w e i j (evenodd_row_small e) (evenodd_column_small e) off i l ∙ or_left _ (eq-eqb i i refl)),
      ))

-- ---- every cell is held, so the set of the equations that hold it is not empty

module _ (s : Shape) (w : WellFormed s) (c : ℕ) (inside : c < cells s) where
  pub held_some : (q : ℕ) × (q < equations s) × (holds s q c ≡ true)
  unfolding is_parity holds
  held_some =
      by_test (is_parity s c)
      (λ p. let own = any_some (equations s) (λ r. eqb (parity_cell s r) c) p in (own.0, own.1, or_left (sums_cell s own.0 c) (eq-eqb c (parity_cell s own.0) (sym (eqb-true (parity_cell s own.0) c own.2)))))
      (λ p. let by = data_some s w (c % rows s) (c / rows s) (data_at s w c inside p) in (by.0, by.1, or_right (eqb c (parity_cell s by.0)) (ap (sums_cell s by.0) (sym (number_at s w c)) ∙ by.2)))

  pub held_lowest : (m : ℕ) → HeldBy s c m → m ≢ 0
  held_lowest m h e = let some = held_some in clash (held_is s c m h some.0 some.1 ∙ some.2) (ap (bit some.0) e ∙ bit_zero some.0)
