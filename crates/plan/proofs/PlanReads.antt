-- How many distinct cells an accepted plan reads, by how many rows it takes by diagonal.
use mathlib.Core.Path.{◌≡◌, refl, sym, ap, ap₂, ◌∙◌}
use mathlib.Core.Logic.{◌≢◌}
use mathlib.Core.Bool.{Bool, true, false, cond, not, ◌||◌}
use Prim.Native.Nat.{ℕ, zero, suc, ◌+◌, ◌-◌, ◌*◌, ◌%◌, ◌^◌, ◌≤◌, ◌<◌}
use native.Mathlib.Nat.{add-zero, mul-zero, sub-zero, add-sub_cancel_left, mod-lt, mod-eq_of_lt, mod-add-mod, add-mod_right}
use native.Mathlib.Omega.{arith}
use lib.Count.{ones, ones-ones}
use lib.Dec.{eqb, ltb}
use borrow.Author.Tests.{lt-ltb, le-ltb, eq-eqb, ne_eqb}
use Rattle.xor.specs.Sets.{count}
use Rattle.xor.proofs.Cases.{by_test, by_equal, by_less}
use Rattle.xor.proofs.Sets.{count_same, count_more, count_insert, count_all, count_not, count_round}
use Rattle.bits.specs.Bit.{bit}
use Rattle.bits.proofs.Bits.{bit_above, ones_bits}
use Rattle.codes.specs.declared.Shape.{Shape}
use Rattle.codes.specs.Shape.{rows, columns, cells, cell_number, missing, disks}
use Rattle.codes.specs.Geometry.{gap, is_there, column_of}
use Rattle.codes.proofs.Shapes.{low, missing_low, disks_is}
use Rattle.codes.proofs.Geometry.{there_all, there_before, column_before, column_after, is_there_lem}
use Rattle.codes.proofs.Lines.{rdp_columns}
use Rattle.plan.specs.Plan.{diagonal, reads_cell, column_reads, cells_read, is_accepted}
use Rattle.plan.specs.Right.{RdpColumn}
use Rattle.plan.proofs.Counting.{sum_of, sum_same, sum_last, sum_first, sum_more, sum_choice, count_grid}
use Rattle.plan.proofs.Column.{last_row}
use Rattle.plan.proofs.Diagonals.{home, home_back, missing_home, diagonal_last, diagonal_below}
use Rattle.plan.proofs.Accepted.{plan_low, missing_left, all_taken, every_row}
use Rattle.plan.proofs.Cells.{is_read, reads_there}
use Rattle.plan.proofs.Rule.{others_below}
use Rattle.plan.proofs.ByColumns.{reads_columns, there_reads, own_reads}

-- the square less what is not read
square : (x y : ℕ) → x * (x - 1) + y * (x + y) + x ≡ (x + y) * (x + y) - x * (x + y - x)
square x y = rw (add-sub_cancel_left x y) (whole x)
  where
    whole : (x : ℕ) → x * (x - 1) + y * (x + y) + x ≡ (x + y) * (x + y) - x * y
    whole zero = omega arith
    whole (suc x) = let less : suc x - 1 ≡ x = omega arith in rw less (omega arith)

-- n cells of one column, and one fewer of g others
product : (g n : ℕ) → 1 ≤ n → n + g * (n - 1) ≡ (g + 1) * n - g
product g zero l = absurd (omega arith)
product g (suc n) l = let less : suc n - 1 ≡ n = omega arith in rw less (omega arith)

product_less : (n : ℕ) → (n + 1) * n - n ≡ n * n
product_less n = omega arith

module _ (s : Shape) (k plan : ℕ) (c : RdpColumn s k) (accepted : is_accepted s k plan ≡ true) where
  -- whether row i is taken by diagonal
  taken : ℕ → Bool
  taken i = bit i plan

  tall : s.p ≡ rows s + 1
  tall = omega (arith, last_row s k c, low s c.formed)

  wide : columns s ≡ s.p + 1
  wide = sym (rdp_columns s c.formed c.rdp)

  small : plan < 2 ^ rows s
  small = plan_low s k plan c accepted

  -- row p-1 is not there
  taken_residues : count s.p taken ≡ count (rows s) taken
  unfolding taken
  taken_residues =
      ap (λ (n : ℕ). count n taken) tall ∙ count_more (rows s) taken
      ∙ ap (λ (b : Bool). count (rows s) taken + cond b 1 0) (bit_above (rows s) plan small) ∙ add-zero (count (rows s) taken)

  -- row by row, where every column exists
  by_rows : missing s ≡ 0 → cells_read s k plan ≡ sum_of (rows s) (λ r. count s.p (is_read s k plan r)) + count (rows s) (λ r. is_read s k plan r s.p)
  unfolding cells_read cells
  by_rows full =
      count_grid (columns s) (rows s) (reads_cell s k plan)
      ∙ sum_same (rows s) (λ r. count (columns s) (λ j. reads_cell s k plan (j * rows s + r))) (λ r. count s.p (is_read s k plan r) + cond (is_read s k plan r s.p) 1 0)
      (λ r lr. count_same (columns s) (λ j. reads_cell s k plan (j * rows s + r)) (is_read s k plan r) (at r lr)
      ∙ ap (λ (n : ℕ). count n (is_read s k plan r)) wide ∙ count_more s.p (is_read s k plan r))
      ∙ sym (sum_more (rows s) (λ r. count s.p (is_read s k plan r)) (λ r. is_read s k plan r s.p))
    where
      at : (r : ℕ) → r < rows s → (j : ℕ) → j < columns s → reads_cell s k plan (j * rows s + r) ≡ is_read s k plan r j
      at r lr j lj = unfold cell_number in reads_there s k plan c accepted r j lr lj (there_all s full j)

  -- as the column goes round, so does the row of column k on the cell's diagonal
  round : (r : ℕ) → count s.p (λ j. taken (home s k (diagonal s j r))) ≡ count (rows s) taken
  round r =
      count_same s.p (λ j. taken (home s k (diagonal s j r))) (λ j. taken ((j + (r + (s.p - k))) % s.p)) (λ j lj. ap taken (moved j lj))
      ∙ count_round s.p (r + (s.p - k)) taken (omega (arith, low s c.formed))
      ∙ taken_residues
    where
      moved : (j : ℕ) → j < s.p → home s k (diagonal s j r) ≡ (j + (r + (s.p - k))) % s.p
      moved j lj = ap (home s k) (diagonal_below s j r lj) ∙ mod-add-mod (r + j) s.p (s.p - k) ∙ ap (λ (n : ℕ). n % s.p) order
        where
          order : r + j + (s.p - k) ≡ j + (r + (s.p - k))
          order = omega arith

  -- ---- a column below p

  module _ (full : missing s ≡ 0) (below : k < s.p) where
    -- of a row taken by row every other column is read; of one taken by diagonal as many as there are other rows taken by diagonal
    row_reads : (r : ℕ) → r < rows s → 1 + count s.p (is_read s k plan r) ≡ cond (taken r) (count (rows s) taken) s.p
    unfolding taken
    row_reads r lr =
        sym (count_insert s.p (is_read s k plan r) k below (own r))
        ∙ by_test (taken r)
        (λ t. count_same s.p (λ j. eqb j k || is_read s k plan r j) (λ j. taken (home s k (diagonal s j r)))
        (λ j lj. by_equal j k
        (λ e. rw (eq-eqb j k e) (sym (ap taken (ap (λ (x : ℕ). home s k (diagonal s x r)) e ∙ home_back s k r (omega arith) (omega (arith, tall))) ∙ t)))
        (λ n. rw (ne_eqb j k n, lt-ltb j s.p lj, t) refl))
        ∙ round r ∙ sym (ap (λ (b : Bool). cond b (count (rows s) taken) s.p) t))
        (λ t. count_all s.p (λ j. eqb j k || is_read s k plan r j)
        (λ j lj. by_equal j k (λ e. rw (eq-eqb j k e) refl) (λ n. rw (ne_eqb j k n, lt-ltb j s.p lj, t) refl))
        ∙ sym (ap (λ (b : Bool). cond b (count (rows s) taken) s.p) t))
      where
        own : (r : ℕ) → is_read s k plan r k ≡ false
        own r = rw (eq-eqb k k refl) refl

    -- of the diagonal parity column as many as there are rows taken by diagonal
    last_reads : count (rows s) (λ r. is_read s k plan r s.p) ≡ count (rows s) taken
    unfolding taken
    last_reads =
        count_same (rows s) (λ r. is_read s k plan r s.p) (λ r. taken (home s k r))
        (λ r lr. rw (ne_eqb s.p k (λ e. omega arith), le-ltb s.p s.p (omega arith)) (ap (λ (d : ℕ). taken (home s k d)) (diagonal_last s s.p r refl)))
        ∙ sym (add-zero _) ∙ ap (λ (b : Bool). count (rows s) (λ r. taken (home s k r)) + cond b 1 0) (sym missing)
        ∙ sym (count_more (rows s) (λ r. taken (home s k r))) ∙ ap (λ (n : ℕ). count n (λ r. taken (home s k r))) (sym tall)
        ∙ count_round s.p (s.p - k) taken (omega arith) ∙ taken_residues
      where
        missing : taken (home s k (rows s)) ≡ false
        missing =
            ap (λ (d : ℕ). taken (home s k d)) (sym (last_row s k c)) ∙ ap taken (missing_home s k below)
            ∙ missing_left s k plan c accepted below

    -- which is how many cells of it are read
    pub last_surviving : column_reads s k plan s.p ≡ ones plan
    unfolding taken
    last_surviving =
        there_reads s k plan c accepted s.p (omega (arith, wide)) (there_all s full s.p) ∙ last_reads ∙ sym (ones_bits (rows s) plan small)

    -- x rows of x-1 cells, p-1-x rows of p-1 cells, and x cells of column p
    below_reads : cells_read s k plan ≡ (s.p - 1) * (s.p - 1) - ones plan * (s.p - 1 - ones plan)
    unfolding taken
    below_reads =
        by_rows full
        ∙ ap₂ ◌+◌
        (sum_same (rows s) (λ r. count s.p (is_read s k plan r)) (λ r. cond (taken r) (x - 1) (s.p - 1))
        (λ r lr. less (taken r) (row_reads r lr)) ∙ sum_choice (rows s) (x - 1) (s.p - 1) taken) last_reads
        ∙ ap (λ (n : ℕ). x * (x - 1) + y * n + x) all ∙ square x y
        ∙ ap₂ (λ (n m : ℕ). n * n - m * (n - m)) (sym all) (sym (ones_bits (rows s) plan small))
      where
        x : ℕ
        x = count (rows s) taken

        y : ℕ
        y = count (rows s) (λ r. not (taken r))

        all : s.p - 1 ≡ x + y
        all = last_row s k c ∙ sym (count_not (rows s) taken)

        less : {n : ℕ} (b : Bool) → 1 + n ≡ cond b x s.p → n ≡ cond b (x - 1) (s.p - 1)
        less true e = omega arith
        less false e = omega arith

  -- ---- the diagonal parity column

  module _ (last : k ≡ s.p) where
    -- every row is taken by diagonal
    pub all_rows : ones plan ≡ s.p - 1
    all_rows = ap ones (all_taken s k plan c accepted last) ∙ ones-ones (rows s) ∙ sym (last_row s k c)

    -- of a column below p every row is read but that on the missing diagonal
    last_read : (r j : ℕ) → r < rows s → j < s.p → is_read s k plan r j ≡ not (eqb (r + j) (s.p - 1))
    last_read r j lr lj =
        rw (ne_eqb j k (λ e. omega arith), lt-ltb j s.p lj, every_row s k plan c accepted last r lr, diagonal_below s j r lj)
        (by_equal (r + j) (s.p - 1)
        (λ e. ap (λ (x : ℕ). bit x plan) (at ((r + j) % s.p) (mod-lt (r + j) some) ∙ mod-eq_of_lt (omega arith) ∙ e ∙ last_row s k c) ∙ bit_above (rows s) plan small
        ∙ ap not (sym (eq-eqb (r + j) (s.p - 1) e)))
        (λ n. ap (λ (x : ℕ). bit x plan) (at ((r + j) % s.p) (mod-lt (r + j) some)) ∙ every_row s k plan c accepted last ((r + j) % s.p) (inside n)
        ∙ ap not (sym (ne_eqb (r + j) (s.p - 1) n))))
      where
        some : 0 < s.p
        some = omega (arith, low s c.formed)

        at : (d : ℕ) → d < s.p → home s k d ≡ d
        at d l = sym (ap (home s k) (diagonal_last s k d last)) ∙ home_back s k d (omega arith) l

        inside : r + j ≢ s.p - 1 → (r + j) % s.p < rows s
        inside n = by_less (r + j) s.p (λ l. omega (arith, mod-eq_of_lt l, tall)) (λ l. omega (arith, round_once l, tall))
          where
            round_once : s.p ≤ r + j → (r + j) % s.p ≡ r + j - s.p
            round_once l = ap (λ (x : ℕ). x % s.p) back ∙ add-mod_right (r + j - s.p) s.p ∙ mod-eq_of_lt (omega (arith, tall))
              where
                back : r + j ≡ r + j - s.p + s.p
                back = omega arith

    last_column_of : (j : ℕ) → j < s.p → is_there s j ≡ true → column_reads s k plan j ≡ cond (ltb (s.p - 1 - j) (rows s)) (rows s - 1) (rows s)
    last_column_of j lj h =
        there_reads s k plan c accepted j (omega (arith, wide)) h
        ∙ count_same (rows s) (λ r. is_read s k plan r j) (λ r. not (eqb (r + j) (s.p - 1))) (λ r lr. last_read r j lr lj)
        ∙ others_below j (s.p - 1) (s.p - 1 - j) (rows s) (omega arith)

    -- of m data columns and the row parity column every cell is read but m, those on the missing diagonal
    pub last_column_reads : cells_read s k plan ≡ (gap s + 1) * (s.p - 1) - gap s
    last_column_reads =
        reads_columns s c.formed k plan ∙ ap (λ (n : ℕ). sum_of n read) all
        ∙ sum_last (suc (gap s)) read ∙ ap₂ ◌+◌ (sum_first (gap s) (rows s) (rows s - 1) read first next) end ∙ add-zero _
        ∙ ap (λ (n : ℕ). n + gap s * (n - 1)) (sym (last_row s k c)) ∙ product (gap s) (s.p - 1) (omega (arith, low s c.formed))
      where
        read : ℕ → ℕ
        read d = column_reads s k plan (column_of s d)

        few : missing s + 2 ≤ s.p
        few = missing_low s c.formed

        all : disks s ≡ suc (suc (gap s))
        all = omega (arith, few, wide, disks_is s c.formed)

        first : read 0 ≡ rows s
        first =
            ap (column_reads s k plan) (column_before s 0 (omega (arith, few))) ∙ last_column_of 0 (omega (arith, few)) (there_before s 0 (omega (arith, few)))
            ∙ rw (le-ltb (s.p - 1 - 0) (rows s) (omega (arith, tall))) refl

        next : (d : ℕ) → 0 < d → d < gap s + 1 → read d ≡ rows s - 1
        next d lo hi =
            let column : (0 < column_of s d) × (column_of s d < s.p) =
            by_less d (gap s) (λ l. (omega (arith, column_before s d l), omega (arith, column_before s d l, few))) (λ l. (omega (arith, column_after s d l), omega (arith, column_after s d l, few))) in
            last_column_of (column_of s d) column.1 (is_there_lem s c.formed d)
            ∙ rw (lt-ltb (s.p - 1 - column_of s d) (rows s) (omega (arith, column.0, column.1, tall))) refl

        end : read (suc (gap s)) ≡ 0
        end = own_reads s k plan c accepted (column_of s (suc (gap s))) (omega (arith, column_after s (suc (gap s)) (omega arith), few))

    -- that is all of them but p-1, where every column exists
    pub last_column_full : missing s ≡ 0 → cells_read s k plan ≡ (s.p - 1) * (s.p - 1)
    last_column_full full = last_column_reads ∙ ap (λ (n : ℕ). (n + 1) * (s.p - 1) - n) every ∙ product_less (s.p - 1)
      where
        every : gap s ≡ s.p - 1
        every = omega arith

  -- where every column exists, an accepted plan with x rows by diagonal reads exactly (p-1)² - x(p-1-x) distinct cells
  pub plan_reads : missing s ≡ 0 → cells_read s k plan ≡ (s.p - 1) * (s.p - 1) - ones plan * (s.p - 1 - ones plan)
  plan_reads full =
      by_equal k s.p
      (λ e. last_column_full e full ∙ let none : s.p - 1 - ones plan ≡ 0 = omega (arith, all_rows e) in rw (none, mul-zero, sub-zero) refl)
      (λ n. below_reads full (omega (arith, wide, c.column)))
