-- Where the cells of a stripe lie: the places of those that exist are inside the stripe, apart from each other, and fill it.
-- All of this follows from five laws of the map between columns and where they lie (`column_there` to `column_lies`).
use mathlib.Core.Path.{◌≡◌, refl, sym, ap, ap₂, ◌∙◌, subst}
use mathlib.Core.Logic.{◌≢◌, ◌⊎◌}
use mathlib.Core.List.{List}
use mathlib.Core.Bool.{true, false}
use Prim.Native.Nat.{ℕ, ◌+◌, ◌-◌, ◌*◌, ◌/◌, ◌%◌, ◌≤◌, ◌<◌}
use native.Mathlib.Nat.{mod-lt, div-lt_iff_lt-mul, div-add-mod', add-mul, mul_assoc, mul-le-mul}
use native.Mathlib.Omega.{arith}
use lib.Arith.{digits_lt}
use lib.Dec.{ltb, leb}
use lib.ListN.{get_or}
use borrow.Author.Tests.{lt-ltb, le-ltb, ltb-true, le-leb, leb-true}
use Rattle.xor.proofs.Cases.{by_less, by_equal, by_test, clash, either, or_left, or_right, not_passed}
use Rattle.codes.specs.declared.Shape.{Shape}
use Rattle.codes.specs.Shape.{rows, columns, equations, cells, cell_number, missing, disks, existing, stripe_length, WellFormed}
use Rattle.codes.specs.Geometry.{gap, is_there, cell_there, column_of, lies_at, cell_of, callers_cell, place}
use Rattle.codes.specs.Encoded.{parity_cell, byte_at, is_parity}
use Rattle.codes.proofs.Shapes.{most_bytes, rows_low, rows_high, few_columns, missing_low, missing_other, disks_is, disks_high, length_high}
use Rattle.codes.proofs.Places.{cell_ends, cells_apart}
use Rattle.codes.proofs.Lines.{rdp_rows}
use Rattle.codes.proofs.Positions.{row_is, column_is, cell_inside, parity_some, families, rdp_n, rdp_first, rdp_second}

-- ---- the map between columns and where they lie

module _ (s : Shape) where
  -- a column that exists is before the gap, or one of those after the data columns
  pub there_cases : {A : Type 0} (j : ℕ) → is_there s j ≡ true → (j < gap s → A) → (s.p - 1 ≤ j → A) → A
  unfolding is_there
  there_cases j h before after = either (ltb j (gap s)) (leb (s.p - 1) j) h (λ p. before (ltb-true j (gap s) p)) (λ p. after (leb-true (s.p - 1) j p))

  pub there_before : (j : ℕ) → j < gap s → is_there s j ≡ true
  unfolding is_there
  there_before j l = or_left (leb (s.p - 1) j) (lt-ltb j (gap s) l)

  pub there_after : (j : ℕ) → s.p - 1 ≤ j → is_there s j ≡ true
  unfolding is_there
  there_after j l = or_right (ltb j (gap s)) (le-leb (s.p - 1) j l)

  -- where no column is missing, each is there and lies by its number
  pub there_all : missing s ≡ 0 → (j : ℕ) → is_there s j ≡ true
  there_all e j = by_less j (s.p - 1) (λ l. there_before j (omega arith)) (there_after j)

  pub column_before : (d : ℕ) → d < gap s → column_of s d ≡ d
  unfolding column_of
  column_before d l = rw (lt-ltb d (gap s) l) refl

  pub column_after : (d : ℕ) → gap s ≤ d → column_of s d ≡ d + missing s
  unfolding column_of
  column_after d l = rw (le-ltb d (gap s) l) refl

  pub lies_before : (j : ℕ) → j < gap s → lies_at s j ≡ j
  unfolding lies_at
  lies_before j l = rw (lt-ltb j (gap s) l) refl

  pub lies_after : (j : ℕ) → gap s ≤ j → lies_at s j ≡ j - missing s
  unfolding lies_at
  lies_after j l = rw (le-ltb j (gap s) l) refl

  pub column_all : missing s ≡ 0 → (d : ℕ) → column_of s d ≡ d
  column_all e d = by_less d (gap s) (column_before d) (λ l. column_after d l ∙ same)
    where
      same : d + missing s ≡ d
      same = omega arith

  pub lies_all : missing s ≡ 0 → (j : ℕ) → lies_at s j ≡ j
  lies_all e j = by_less j (gap s) (lies_before j) (λ l. lies_after j l ∙ same)
    where
      same : j - missing s ≡ j
      same = omega arith

module _ (s : Shape) (w : WellFormed s) where
  pub column_there : (d : ℕ) → d < disks s → column_of s d < columns s
  column_there d l = by_less d (gap s) (λ k. omega (arith, column_before s d k, disks_high s w)) (λ k. omega (arith, column_after s d k, disks_is s w))

  pub is_there_lem : (d : ℕ) → is_there s (column_of s d) ≡ true
  is_there_lem d =
      by_less d (gap s) (λ k. there_before s (column_of s d) (omega (arith, column_before s d k)))
      (λ k. there_after s (column_of s d) (omega (arith, column_after s d k, missing_low s w)))

  pub lies_there : (j : ℕ) → j < columns s → is_there s j ≡ true → lies_at s j < disks s
  lies_there j l h =
      there_cases s j h (λ k. omega (arith, lies_before s j k, disks_is s w, missing_low s w, few_columns s w)) (λ k. omega (arith, lies_after s j (omega (arith, missing_low s w)), disks_is s w, missing_low s w))

  pub lies_column : (d : ℕ) → lies_at s (column_of s d) ≡ d
  lies_column d =
      by_less d (gap s) (λ k. ap (lies_at s) (column_before s d k) ∙ lies_before s d k)
      (λ k. ap (lies_at s) (column_after s d k) ∙ lies_after s (d + missing s) (omega arith) ∙ back)
    where
      back : d + missing s - missing s ≡ d
      back = omega arith

  pub column_lies : (j : ℕ) → is_there s j ≡ true → column_of s (lies_at s j) ≡ j
  column_lies j h =
      there_cases s j h (λ k. ap (column_of s) (lies_before s j k) ∙ column_before s j k)
      (λ k. ap (column_of s) (lies_after s j (omega (arith, missing_low s w))) ∙ column_after s (j - missing s) (omega (arith, missing_low s w)) ∙ back k)
    where
      back : s.p - 1 ≤ j → j - missing s + missing s ≡ j
      back k = omega (arith, missing_low s w)

module _ (s : Shape) (w : WellFormed s) where
  tall : 0 < rows s
  tall = omega (arith, rows_low s w)

  -- ---- a cell by its row and column

  pub number_at : (c : ℕ) → cell_number s (c % rows s) (c / rows s) ≡ c
  unfolding cell_number
  number_at c = div-add-mod' c (rows s)

  pub row_at : (c : ℕ) → c % rows s < rows s
  row_at c = mod-lt c tall

  pub column_at : (c : ℕ) → c < cells s → c / rows s < columns s
  unfolding cells
  column_at c l = (div-lt_iff_lt-mul tall).1 l

  pub disk_at : (c : ℕ) → c < existing s → c / rows s < disks s
  unfolding existing
  disk_at c l = (div-lt_iff_lt-mul tall).1 l

  pub lies_inside : (i d : ℕ) → i < rows s → d < disks s → cell_number s i d < existing s
  unfolding cell_number existing
  lies_inside i d li ld = digits_lt ld li

  pub cell_there_at : (i j : ℕ) → i < rows s → cell_there s (cell_number s i j) ≡ is_there s j
  unfolding cell_there
  cell_there_at i j l = ap (is_there s) (column_is s w i j l)

  -- ---- the equations' number of a cell, and what callers call it

  pub callers_at : (i j : ℕ) → i < rows s → callers_cell s (cell_number s i j) ≡ cell_number s i (lies_at s j)
  unfolding callers_cell
  callers_at i j l = ap₂ (λ (x y : ℕ). cell_number s x (lies_at s y)) (row_is s w i j l) (column_is s w i j l)

  pub cell_of_at : (i d : ℕ) → i < rows s → cell_of s (cell_number s i d) ≡ cell_number s i (column_of s d)
  unfolding cell_of
  cell_of_at i d l = ap₂ (λ (x y : ℕ). cell_number s x (column_of s y)) (row_is s w i d l) (column_is s w i d l)

  pub callers_inside : (c : ℕ) → c < cells s → cell_there s c ≡ true → callers_cell s c < existing s
  unfolding callers_cell cell_there
  callers_inside c l h = lies_inside (c % rows s) (lies_at s (c / rows s)) (row_at c) (lies_there s w (c / rows s) (column_at c l) h)

  pub cell_of_inside : (c : ℕ) → c < existing s → cell_of s c < cells s
  unfolding cell_of
  cell_of_inside c l = cell_inside s w (c % rows s) (column_of s (c / rows s)) (row_at c) (column_there s w (c / rows s) (disk_at c l))

  pub cell_of_there : (c : ℕ) → cell_there s (cell_of s c) ≡ true
  unfolding cell_of
  cell_of_there c = cell_there_at (c % rows s) (column_of s (c / rows s)) (row_at c) ∙ is_there_lem s w (c / rows s)

  pub cell_of_callers : (c : ℕ) → cell_there s c ≡ true → cell_of s (callers_cell s c) ≡ c
  unfolding callers_cell cell_there
  cell_of_callers c h = cell_of_at (c % rows s) (lies_at s (c / rows s)) (row_at c) ∙ ap (cell_number s (c % rows s)) (column_lies s w (c / rows s) h) ∙ number_at c

  pub callers_cell_of : (c : ℕ) → callers_cell s (cell_of s c) ≡ c
  unfolding cell_of
  callers_cell_of c = callers_at (c % rows s) (column_of s (c / rows s)) (row_at c) ∙ ap (cell_number s (c % rows s)) (lies_column s w (c / rows s)) ∙ number_at c

  -- ---- places

  pub place_at : (i j : ℕ) → i < rows s → place s (cell_number s i j) ≡ (lies_at s j * rows s + i) * s.cell
  unfolding place cell_number
  place_at i j l = ap (λ (c : ℕ). c * s.cell) (callers_at i j l)

  pub place_inside : (c : ℕ) → c < cells s → cell_there s c ≡ true → place s c + s.cell ≤ stripe_length s
  unfolding place
  place_inside c l h = cell_ends s w (callers_cell s c) (callers_inside c l h)

  pub place_small : (c : ℕ) → c < cells s → cell_there s c ≡ true → place s c ≤ most_bytes
  place_small c l h = omega (arith, place_inside c l h, length_high s w)

  -- two different cells do not meet
  pub place_apart : (c d : ℕ) → cell_there s c ≡ true → cell_there s d ≡ true → c ≢ d → (place s c + s.cell ≤ place s d) ⊎ (place s d + s.cell ≤ place s c)
  unfolding place
  place_apart c d hc hd n = cells_apart s w (callers_cell s c) (callers_cell s d) (λ e. n (sym (cell_of_callers c hc) ∙ ap (cell_of s) e ∙ cell_of_callers d hd))

  -- every byte of the stripe is one of a cell that exists
  pub place_all : (i : ℕ) → i < stripe_length s → (c : ℕ) × (c < cells s) × (cell_there s c ≡ true) × (t : ℕ) × (t < s.cell) × (i ≡ place s c + t)
  unfolding place stripe_length
  place_all i l =
      let inside : i / s.cell < existing s = (div-lt_iff_lt-mul w.cell_low).1 l in (
        cell_of s (i / s.cell),
        cell_of_inside (i / s.cell) inside,
        cell_of_there (i / s.cell),
        i % s.cell,
        mod-lt i w.cell_low,
        sym (ap (λ (c : ℕ). c * s.cell + i % s.cell) (callers_cell_of (i / s.cell)) ∙ div-add-mod' i s.cell),
      )

  -- ---- bytes: of a cell that exists, and of one that does not

  pub byte_there : (stripe : List ℕ) (c t : ℕ) → cell_there s c ≡ true → byte_at s stripe c t ≡ get_or stripe (place s c + t) 0
  unfolding byte_at
  byte_there stripe c t h = rw h refl

  pub byte_missing : (stripe : List ℕ) (c t : ℕ) → cell_there s c ≡ false → byte_at s stripe c t ≡ 0
  unfolding byte_at
  byte_missing stripe c t h = rw h refl

  -- a byte of bytes is small
  pub byte_small : (stripe : List ℕ) → ((i : ℕ) → get_or stripe i 0 < 256) → (c t : ℕ) → byte_at s stripe c t < 256
  byte_small stripe small c t =
      by_test (cell_there s c) (λ h. subst (λ (x : ℕ). x < 256) (sym (byte_there stripe c t h)) (small (place s c + t)))
      (λ h. subst (λ (x : ℕ). x < 256) (sym (byte_missing stripe c t h)) (omega arith))

  -- bytes that are the same where a cell that exists has them
  pub byte_same : (a b : List ℕ) (c t : ℕ) → (cell_there s c ≡ true → get_or a (place s c + t) 0 ≡ get_or b (place s c + t) 0) → byte_at s a c t ≡ byte_at s b c t
  byte_same a b c t same = by_test (cell_there s c) (λ h. byte_there a c t h ∙ same h ∙ sym (byte_there b c t h)) (λ h. byte_missing a c t h ∙ sym (byte_missing b c t h))

  -- ---- as the code works them out

  pub column_place_is : (j lies n : ℕ) → lies ≡ lies_at s j → n ≡ rows s → lies * (n * s.cell) ≡ place s (cell_number s 0 j)
  column_place_is j lies n el en =
      ap₂ (λ (x y : ℕ). x * (y * s.cell)) el en ∙ sym (mul_assoc (lies_at s j) (rows s) s.cell) ∙ ap (λ (x : ℕ). x * s.cell) none ∙ sym (place_at 0 j tall)
    where
      none : lies_at s j * rows s ≡ lies_at s j * rows s + 0
      none = omega arith

  -- and that is small
  pub column_small : (n : ℕ) → n ≡ rows s → n * s.cell ≤ 126976
  column_small n e = mul-le-mul (let few : n ≤ 31 = omega (arith, rows_high s w) in few) w.cell_high

  pub first_small : (j : ℕ) → j < columns s → is_there s j ≡ true → place s (cell_number s 0 j) ≤ most_bytes
  first_small j l h = place_small (cell_number s 0 j) (cell_inside s w 0 j tall l) (cell_there_at 0 j tall ∙ h)

  pub place_down : (i j from : ℕ) → i < rows s → from ≡ place s (cell_number s 0 j) → from + i * s.cell ≡ place s (cell_number s i j)
  place_down i j from l e = omega (arith, e, place_at 0 j tall, place_at i j l, add-mul (lies_at s j * rows s) 0 s.cell, add-mul (lies_at s j * rows s) i s.cell)

  -- a cell by the number of its place
  pub lent_at : (i d n : ℕ) → n ≡ rows s → i < rows s → (d * n + i) * s.cell ≡ place s (cell_number s i (column_of s d))
  lent_at i d n e l = ap₂ (λ (x y : ℕ). (x * y + i) * s.cell) (sym (lies_column s w d)) e ∙ sym (place_at i (column_of s d) l)

  pub lent_number : (i d n : ℕ) → n ≡ rows s → i < rows s → d < disks s → d * n + i < existing s
  unfolding cell_number
  lent_number i d n e li ld = subst (λ (x : ℕ). d * x + i < existing s) (sym e) (lies_inside i d li ld)

  pub row_seen : (c n : ℕ) → n ≡ rows s → c % n < rows s
  row_seen c n e = subst (λ (k : ℕ). c % k < rows s) (sym e) (row_at c)

  pub number_seen : (c n : ℕ) → n ≡ rows s → cell_number s (c % n) (c / n) ≡ c
  number_seen c n e = ap (λ (k : ℕ). cell_number s (c % k) (c / k)) e ∙ number_at c

  pub column_seen : (c n : ℕ) → n ≡ rows s → c < cells s → c / n < columns s
  column_seen c n e l = subst (λ (k : ℕ). c / k < columns s) (sym e) (column_at c l)

  pub disk_seen : (c n : ℕ) → n ≡ rows s → c < existing s → c / n < disks s
  disk_seen c n e l = subst (λ (k : ℕ). c / k < disks s) (sym e) (disk_at c l)

  pub there_seen : (c n : ℕ) → n ≡ rows s → cell_there s c ≡ true → is_there s (c / n) ≡ true
  unfolding cell_there
  there_seen c n e h = subst (λ (k : ℕ). is_there s (c / k) ≡ true) (sym e) h

  pub cell_of_is : (c d n : ℕ) → n ≡ rows s → d ≡ column_of s (c / n) → d * n + c % n ≡ cell_of s c
  unfolding cell_of cell_number
  cell_of_is c d n en ed = ap₂ (λ (x y : ℕ). x * y + c % y) ed en ∙ ap (λ (y : ℕ). column_of s (c / y) * rows s + c % rows s) en

  -- ---- parity cells exist

  pub parity_there : (q : ℕ) → q < equations s → cell_there s (parity_cell s q) ≡ true
  unfolding cell_there
  parity_there q l =
      by_equal s.code 1
      (λ e. families (λ r. cell_there s (parity_cell s r) ≡ true) (s.p - 1)
      (λ r lr. ap (cell_there s) (rdp_first s w e r lr) ∙ cell_there_at r (s.p - 1) (omega (arith, rdp_rows s w e)) ∙ there_after s (s.p - 1) (omega arith))
      (λ d ld. ap (cell_there s) (rdp_second s w e d ld) ∙ cell_there_at d s.p (omega (arith, rdp_rows s w e)) ∙ there_after s s.p (omega arith))
      q (omega (arith, rdp_n s w e)))
      (λ n. there_all s (missing_other s w n) (parity_cell s q / rows s))

  pub missing_plain : (c : ℕ) → cell_there s c ≡ false → is_parity s c ≡ false
  missing_plain c none = not_passed (λ h. let q = parity_some s w c h in clash (ap (cell_there s) (sym q.2) ∙ parity_there q.0 q.1) none)
