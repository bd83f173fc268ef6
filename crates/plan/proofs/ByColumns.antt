-- How many cells of each column a plan reads, as the code counts them; all reads are the sum over the columns that exist.
use mathlib.Core.Path.{◌≡◌, refl, sym, ap, ap₂, ◌∙◌, subst}
use mathlib.Core.Logic.{◌≢◌}
use mathlib.Core.Bool.{Bool, true, false, not, ◌&&◌, ◌||◌, and-true}
use Prim.Native.Nat.{ℕ, ◌+◌, ◌-◌, ◌*◌, ◌/◌, ◌%◌, ◌^◌, ◌≤◌, ◌<◌}
use native.Mathlib.Nat.{zero-add, add_assoc, mul-zero, mod-lt, add-mod-mod, mod-add-mod, lt_of_le_of_lt}
use native.Mathlib.Omega.{arith}
use lib.Bits.{bit_and, bit_or, and_le_r, mask_lt}
use lib.Count.{ones, ones-le}
use borrow.Author.Tests.{lt-ltb, le-ltb, eq-eqb, ne_eqb}
use Rattle.xor.specs.Sets.{count}
use Rattle.xor.proofs.Cases.{not_passed}
use Rattle.xor.proofs.Sets.{count_same, count_never, count_most}
use Rattle.bits.specs.Bit.{bit}
use Rattle.bits.proofs.Bits.{bit_ones, bit_and_lem, ones_bits}
use Rattle.codes.specs.declared.Shape.{Shape}
use Rattle.codes.specs.Shape.{rows, columns, cells, cell_number, missing, disks, WellFormed}
use Rattle.codes.specs.Geometry.{gap, is_there, column_of}
use Rattle.codes.proofs.Shapes.{most_rows, rows_high, few_columns, missing_low, disks_is}
use Rattle.codes.proofs.Geometry.{there_cases, column_before, column_after, cell_there_at}
use Rattle.plan.specs.Plan.{diagonal, reads_cell, column_reads, cells_read, is_accepted}
use Rattle.plan.specs.Right.{RdpColumn}
use Rattle.plan.proofs.Column.{last_row}
use Rattle.plan.proofs.Diagonals.{home, diagonal_below, diagonal_last}
use Rattle.plan.proofs.Accepted.{plan_low}
use Rattle.plan.proofs.Cells.{is_read, reads_there}
use Rattle.plan.proofs.Counting.{sum_of, sum_same, sum_constant, sum_most, sum_parts, count_columns, count_either}
use Rattle.plan.proofs.Turned.{bit_turned}

-- what is read of the first n columns that exist, as they lie
abbrev pub first_reads : Shape → ℕ → ℕ → ℕ → ℕ
first_reads s k plan n = sum_of n (λ d. column_reads s k plan (column_of s d))

-- of n rows the rows i with i and i+j-k mod p both by diagonal; p is added so that j-k is no less than 0
abbrev pub pairs : ℕ → ℕ → ℕ → ℕ → ℕ → ℕ
pairs n p k plan j = count n (λ i. bit ((i + j + (p - k)) % p) plan && bit i plan)

-- ---- the columns that exist

module _ (s : Shape) (w : WellFormed s) where
  -- no column of the gap exists
  in_gap : (j : ℕ) → gap s ≤ j → j < s.p - 1 → is_there s j ≡ false
  in_gap j lo hi = not_passed (λ h. there_cases s j h (λ l. absurd (omega arith)) (λ l. absurd (omega arith)))

  -- a sum of what is nothing where a column doesn't exist is that over the columns that exist, as they lie
  pub sum_disks : (f : ℕ → ℕ) → ((j : ℕ) → is_there s j ≡ false → f j ≡ 0) → sum_of (columns s) f ≡ sum_of (disks s) (λ d. f (column_of s d))
  sum_disks f none =
      ap (λ (n : ℕ). sum_of n f) all ∙ sum_parts (gap s) (missing s + rest) f ∙ ap (◌+◌ (sum_of (gap s) f)) after
      ∙ sym (ap (λ (n : ℕ). sum_of n g) few ∙ sum_parts (gap s) rest g
      ∙ ap₂ ◌+◌ (sum_same (gap s) g f (λ d l. ap f (column_before s d l))) (sum_same rest (λ i. g (gap s + i)) (λ i. f (gap s + (missing s + i))) (λ i l. ap f (past i))))
    where
      g : ℕ → ℕ
      g d = f (column_of s d)

      rest : ℕ
      rest = columns s - (s.p - 1)

      all : columns s ≡ gap s + (missing s + rest)
      all = omega (arith, few_columns s w, missing_low s w)

      few : disks s ≡ gap s + rest
      few = omega (arith, few_columns s w, missing_low s w, disks_is s w)

      past : (i : ℕ) → column_of s (gap s + i) ≡ gap s + (missing s + i)
      past i = column_after s (gap s + i) (omega arith) ∙ order
        where
          order : gap s + i + missing s ≡ gap s + (missing s + i)
          order = omega arith

      after : sum_of (missing s + rest) (λ i. f (gap s + i)) ≡ sum_of rest (λ i. f (gap s + (missing s + i)))
      after =
          sum_parts (missing s) rest (λ i. f (gap s + i))
          ∙ ap (λ (n : ℕ). n + sum_of rest (λ i. f (gap s + (missing s + i))))
          (sum_same (missing s) (λ i. f (gap s + i)) (λ i. 0) (λ i l. none (gap s + i) (in_gap (gap s + i) (omega arith) (omega (arith, missing_low s w))))
          ∙ sum_constant (missing s) 0 ∙ mul-zero (missing s)) ∙ zero-add _

  -- of a column that doesn't exist nothing is read
  missing_reads : (k plan j : ℕ) → is_there s j ≡ false → column_reads s k plan j ≡ 0
  unfolding column_reads reads_cell
  missing_reads k plan j h = count_never (rows s) (λ i. reads_cell s k plan (cell_number s i j)) (λ i li. rw (cell_there_at s w i j li ∙ h) refl)

  -- all reads, column by column as they lie
  pub reads_columns : (k plan : ℕ) → cells_read s k plan ≡ first_reads s k plan (disks s)
  unfolding cells_read column_reads cells cell_number
  reads_columns k plan = count_columns (columns s) (rows s) (reads_cell s k plan) ∙ sum_disks (column_reads s k plan) (missing_reads k plan)

  -- few of each column
  pub column_few : (k plan j : ℕ) → column_reads s k plan j ≤ most_rows
  unfolding column_reads
  column_few k plan j = omega (arith, count_most (rows s) (λ i. reads_cell s k plan (cell_number s i j)), rows_high s w)

  -- and of the first n
  pub first_few : (k plan n : ℕ) → first_reads s k plan n ≤ n * most_rows
  first_few k plan n = sum_most n most_rows (λ d. column_reads s k plan (column_of s d)) (λ d l. column_few k plan (column_of s d))

-- ---- one column

module _ (s : Shape) (k plan : ℕ) (of : RdpColumn s k) (accepted : is_accepted s k plan ≡ true) where
  -- of one that exists the rows that pass the test
  pub there_reads : (j : ℕ) → j < columns s → is_there s j ≡ true → column_reads s k plan j ≡ count (rows s) (λ i. is_read s k plan i j)
  unfolding column_reads
  there_reads j lj h =
      count_same (rows s) (λ i. reads_cell s k plan (cell_number s i j)) (λ i. is_read s k plan i j) (λ i li. reads_there s k plan of accepted i j li lj h)

  -- of the lost column nothing is read
  pub own_reads : (j : ℕ) → j ≡ k → column_reads s k plan j ≡ 0
  own_reads j e =
      ap (column_reads s k plan) e ∙ there_reads k of.column of.there
      ∙ count_never (rows s) (λ i. is_read s k plan i k) (λ i li. rw (eq-eqb k k refl) refl)

  -- no row more is taken by diagonal than there are
  pub taken_most : ones plan ≤ s.p - 1
  taken_most = omega (arith, ones-le (rows s) plan (plan_low s k plan of accepted), last_row s k of)

  -- of a surviving column j below p it reads p-1-x cells, where x rows are taken by diagonal, and one more for each i with i and i+j-k mod p both
  -- by diagonal
  pub surviving_reads : (j : ℕ) → j < columns s → is_there s j ≡ true → j ≢ k → j < s.p
      → column_reads s k plan j ≡ s.p - 1 - ones plan + pairs (rows s) s.p k plan j
  surviving_reads j lj there other l =
      omega (arith, taken_most, count_either (rows s) taken met, there_reads j lj there, read, ones_bits (rows s) plan (plan_low s k plan of accepted), last_row s k of)
    where
      taken : ℕ → Bool
      taken i = bit i plan

      met : ℕ → Bool
      met i = bit ((i + j + (s.p - k)) % s.p) plan

      same : (i : ℕ) → home s k (diagonal s j i) ≡ (i + j + (s.p - k)) % s.p
      same i = ap (home s k) (diagonal_below s j i l) ∙ mod-add-mod (i + j) s.p (s.p - k)

      read : count (rows s) (λ i. is_read s k plan i j) ≡ count (rows s) (λ i. not (taken i) || met i)
      read =
          count_same (rows s) (λ i. is_read s k plan i j) (λ i. not (taken i) || met i)
          (λ i li. rw (ne_eqb j k other, lt-ltb j s.p l) (ap (λ (x : ℕ). not (bit i plan) || bit x plan) (same i)))

  -- as the code counts another one: `up` is the plan moved up by p
  module _ (j up : ℕ) (at : RdpColumn s j) (other : j ≢ k) (moved : up ≡ plan * 2 ^ s.p) where
    -- the plan turned by so many rows
    turned_by : (i turn : ℕ) → i < rows s → turn ≤ s.p → bit i (bit_or plan up / 2 ^ turn) ≡ bit ((i + turn) % s.p) plan
    turned_by i turn li lt =
        bit_turned s.p (rows s) plan up (plan_low s k plan of accepted) (omega (arith, last_row s k of)) moved i turn (omega (arith, last_row s k of))

    -- of the diagonal parity column the rows that are diagonals by which a row is taken; `all` is the set of all rows
    pub count_last : (all : ℕ) → all ≡ 2 ^ (s.p - 1) - 1 → j ≡ s.p → ones (bit_and (bit_or plan up / 2 ^ (s.p - k)) all) ≡ column_reads s k plan j
    count_last all every e =
        ones_bits (rows s) (bit_and turned all) (subst (λ (x : ℕ). bit_and turned x < 2 ^ rows s) (sym rows_all) (mask_lt turned (rows s)))
        ∙ count_same (rows s) (λ i. bit i (bit_and turned all)) (λ i. is_read s k plan i j)
        (λ i li. bit_and_lem i turned all ∙ ap₂ ◌&&◌ (turned_by i (s.p - k) li (omega arith)) (ap (bit i) rows_all ∙ bit_ones i (rows s) ∙ lt-ltb i (rows s) li)
        ∙ and-true (bit ((i + (s.p - k)) % s.p) plan) ∙ sym (rw (ne_eqb j k other, le-ltb j s.p (omega arith), diagonal_last s j i e) refl))
        ∙ sym (there_reads j at.column at.there)
      where
        turned : ℕ
        turned = bit_or plan up / 2 ^ (s.p - k)

        rows_all : all ≡ 2 ^ rows s - 1
        rows_all = every ∙ ap (λ (n : ℕ). 2 ^ n - 1) (last_row s k of)

    -- of another below p as surviving_reads has it
    pub count_below : (turn : ℕ) → (l : j < s.p) → turn ≡ (j + (s.p - k)) % s.p
        → s.p - 1 - ones plan + ones (bit_and (bit_or plan up / 2 ^ turn) plan) ≡ column_reads s k plan j
    count_below turn l e = ap (◌+◌ (s.p - 1 - ones plan)) both ∙ sym (surviving_reads j at.column at.there other l)
      where
        turned : ℕ
        turned = bit_or plan up / 2 ^ turn

        small : turn ≤ s.p
        small = omega (arith, e, mod-lt (j + (s.p - k)) (let some : 0 < s.p = omega arith in some))

        same : (i : ℕ) → (i + turn) % s.p ≡ (i + j + (s.p - k)) % s.p
        same i = ap (λ (x : ℕ). (i + x) % s.p) e ∙ add-mod-mod i (j + (s.p - k)) s.p ∙ ap (λ (x : ℕ). x % s.p) (sym (add_assoc i j (s.p - k)))

        both : ones (bit_and turned plan) ≡ pairs (rows s) s.p k plan j
        both =
            ones_bits (rows s) (bit_and turned plan) (lt_of_le_of_lt (and_le_r turned plan) (plan_low s k plan of accepted))
            ∙ count_same (rows s) (λ i. bit i (bit_and turned plan)) (λ i. bit ((i + j + (s.p - k)) % s.p) plan && bit i plan)
            (λ i li. bit_and_lem i turned plan ∙ ap (λ (b : Bool). b && bit i plan) (turned_by i turn li small ∙ ap (λ (x : ℕ). bit x plan) (same i)))
