-- RDP's equations as tracks: each track goes once through the cells that its equation sums, those that don't exist too. The extent of the codes.
use mathlib.Core.Path.{◌≡◌, refl, sym, ap, ap₂, ◌∙◌, subst}
use mathlib.Core.Bool.{true, ◌&&◌}
use Prim.Native.Nat.{ℕ, ◌+◌, ◌-◌, ◌*◌, ◌/◌, ◌%◌, ◌≤◌, ◌<◌}
use native.Mathlib.Nat.{mod-lt, mod-eq_of_lt, mod-add-mod, add-mod-mod, div-lt_iff_lt-mul, div-add-mod'}
use native.Mathlib.Omega.{arith}
use lib.Arith.{digits_lt, digits_div, digits_mod}
use lib.Dec.{eqb, ltb}
use borrow.Author.Tests.{lt-ltb, eq-eqb, ltb-true, eqb-true}
use Rattle.xor.proofs.Cases.{and_left, and_right, and_both}
use Rattle.xor.specs.Xor.{xors}
use Rattle.xor.proofs.Sums.{xors_same, Lists, xors_listed}
use Rattle.codes.specs.declared.Shape.{Shape}
use Rattle.codes.specs.Shape.{rows, columns, cells, cell_number, equations, WellFormed}
use Rattle.codes.specs.Equations.{Equation, rdp, hcode, xcode, evenodd, equation, rdp_row, rdp_diagonal, hcode_row, hcode_anti_diagonal, xcode_first, xcode_second, evenodd_row, evenodd_diagonal}
use Rattle.codes.specs.Encoded.{sums_cell, sum_over}
use Rattle.codes.proofs.Shapes.{low, high, rows_low, few_columns, rdp_is, hcode_is, xcode_is, evenodd_is, rows_of, columns_of, equations_of, first_of, second_of}
use Rattle.codes.proofs.Residues.{steps_back, turns}

-- a track of `count` cells: it starts in a row and a column, and each next cell is `fall` rows down and `step` columns on, mod p
pub record Track : Type 0 where
  pub count : ℕ
  pub row : ℕ
  pub fall : ℕ
  pub column : ℕ
  pub step : ℕ

-- row and column of cell k
abbrev pub track_row : Track → ℕ → ℕ
track_row l k = l.row + l.fall * k

abbrev pub track_column : ℕ → Track → ℕ → ℕ
track_column p l k = (l.column + l.step * k) % p

abbrev pub track_cell : Shape → Track → ℕ → ℕ
track_cell s l k = cell_number s (track_row l k) (track_column s.p l k)

-- a track that falls from row 0 on, and one along row r
abbrev pub fallen : ℕ → ℕ → ℕ → Track
fallen count column step = record { count = count; row = 0; fall = 1; column = column; step = step }

abbrev pub flat : ℕ → ℕ → ℕ → Track
flat count r column = record { count = count; row = r; fall = 0; column = column; step = 1 }

-- the track of equation q: it stays inside the stripe, and goes once through the cells that the equation sums
pub record Tracked (s : Shape) (q : ℕ) (l : Track) : Type 0 where
  pub some : 1 ≤ l.count
  pub few : l.count ≤ 30
  pub column : l.column < s.p
  pub step : l.step < s.p
  pub in_row : (k : ℕ) → k < l.count → track_row l k < rows s
  pub in_column_lem : (k : ℕ) → track_column s.p l k < columns s
  pub lists : Lists (cells s) (sums_cell s q) l.count (track_cell s l)

-- its sum is that of the equation
pub track_sum : (s : Shape) (q : ℕ) (l : Track) → Tracked s q l → (f : ℕ → ℕ) → sum_over s q f ≡ xors l.count (λ k. f (track_cell s l k))
unfolding sum_over
track_sum s q l h = xors_listed (cells s) (sums_cell s q) l.count (track_cell s l) h.lists

-- the track goes through the cells (i, j) that pass the test, once through each
record Through (s : Shape) (e : Equation) (l : Track) : Type 0 where
  some : 1 ≤ l.count
  few : l.count ≤ 30
  column : l.column < s.p
  step : l.step < s.p
  in_row : (k : ℕ) → k < l.count → track_row l k < rows s
  passes : (k : ℕ) → k < l.count → e.sums (track_row l k) (track_column s.p l k) ≡ true
  all : (i j : ℕ) → i < rows s → j < columns s → e.sums i j ≡ true → (k : ℕ) × (k < l.count) × (track_row l k ≡ i) × (track_column s.p l k ≡ j)
  once : (j k : ℕ) → j < l.count → k < l.count → track_row l j ≡ track_row l k → track_column s.p l j ≡ track_column s.p l k → j ≡ k

module _ (s : Shape) (w : WellFormed s) where
  module _ (q : ℕ) (e : Equation) (l : Track) (is : equation s q ≡ e) (h : Through s e l) where
    in_column_lem : (k : ℕ) → track_column s.p l k < columns s
    in_column_lem k = let small : track_column s.p l k < s.p = mod-lt (l.column + l.step * k) (omega (arith, low s w)) in omega (arith, few_columns s w)

    row_of : (k : ℕ) → k < l.count → track_cell s l k % rows s ≡ track_row l k
    unfolding cell_number
    row_of k lk = digits_mod (track_column s.p l k) (h.in_row k lk)

    column_of_lem : (k : ℕ) → k < l.count → track_cell s l k / rows s ≡ track_column s.p l k
    unfolding cell_number
    column_of_lem k lk = digits_div (track_column s.p l k) (h.in_row k lk)

    sums_is : (c : ℕ) → sums_cell s q c ≡ e.sums (c % rows s) (c / rows s)
    unfolding sums_cell
    sums_is c = ap (λ (x : Equation). x.sums (c % rows s) (c / rows s)) is

    lists : Lists (cells s) (sums_cell s q) l.count (track_cell s l)
    unfolding cells cell_number
    lists = record {
      below = λ k lk. digits_lt (in_column_lem k) (h.in_row k lk);
      passes = λ k lk. sums_is (track_cell s l k) ∙ ap₂ (λ (i j : ℕ). e.sums i j) (row_of k lk) (column_of_lem k lk) ∙ h.passes k lk;
      all = λ c lc p.
          let found = h.all (c % rows s) (c / rows s) (mod-lt c (omega (arith, rows_low s w))) ((div-lt_iff_lt-mul (omega (arith, rows_low s w))).1 lc) (sym (sums_is c) ∙ p) in
          (found.0, found.1, ap₂ (λ (i j : ℕ). j * rows s + i) found.2 found.3 ∙ div-add-mod' c (rows s));
      once = λ j k lj lk same.
          h.once j k lj lk (sym (row_of j lj) ∙ ap (λ (c : ℕ). c % rows s) same ∙ row_of k lk) (sym (column_of_lem j lj) ∙ ap (λ (c : ℕ). c / rows s) same ∙ column_of_lem k lk);
    }

    walks : Tracked s q l
    walks = record { some = h.some; few = h.few; column = h.column; step = h.step; in_row = h.in_row; in_column_lem = in_column_lem; lists = lists }

  -- ---- lines that fall: row k holds cell k

  module _ (e : Equation) (count column step : ℕ) where
    falling : 1 ≤ count → count ≤ 30 → count ≤ rows s → column < s.p → step < s.p
        → ((k : ℕ) → k < count → e.sums k ((column + step * k) % s.p) ≡ true)
        → ((i j : ℕ) → i < rows s → j < columns s → e.sums i j ≡ true → (i < count) × ((column + step * i) % s.p ≡ j))
        → Through s e (fallen count column step)
    falling some few short lc ls pass every = record {
      some = some;
      few = few;
      column = lc;
      step = ls;
      in_row = λ k lk. omega arith;
      passes = λ k lk. ap (λ (i : ℕ). e.sums i ((column + step * k) % s.p)) (row_is k) ∙ pass k lk;
      all = λ i j li lj p. (i, (every i j li lj p).0, row_is i, (every i j li lj p).1);
      once = λ j k lj lk r c. sym (row_is j) ∙ r ∙ row_is k;
    }
      where
        row_is : (k : ℕ) → 0 + 1 * k ≡ k
        row_is k = omega arith

  -- ---- lines along a row

  module _ (e : Equation) (count r column : ℕ) where
    along : 1 ≤ count → count ≤ 30 → r < rows s → column < s.p
        → ((k : ℕ) → k < count → e.sums r ((column + 1 * k) % s.p) ≡ true)
        → ((i j : ℕ) → i < rows s → j < columns s → e.sums i j ≡ true → (k : ℕ) × (k < count) × (i ≡ r) × ((column + 1 * k) % s.p ≡ j))
        → ((j k : ℕ) → j < count → k < count → (column + 1 * j) % s.p ≡ (column + 1 * k) % s.p → j ≡ k)
        → Through s e (flat count r column)
    along some few lr lc pass every one = record {
      some = some;
      few = few;
      column = lc;
      step = omega (arith, low s w);
      in_row = λ k lk. omega arith;
      passes = λ k lk. ap (λ (i : ℕ). e.sums i ((column + 1 * k) % s.p)) (row_is k) ∙ pass k lk;
      all = λ i j li lj p. let found = every i j li lj p in (found.0, found.1, row_is found.0 ∙ sym found.2, found.3);
      once = λ j k lj lk same c. one j k lj lk c;
    }
      where
        row_is : (k : ℕ) → r + 0 * k ≡ r
        row_is k = omega arith

  -- ---- RDP

  module _ (is-rdp : s.code ≡ 1) where
    pub rdp_rows : s.p - 1 ≡ rows s
    rdp_rows = rows_of s (rdp s.p) (rdp_is s is-rdp)

    pub rdp_columns : s.p + 1 ≡ columns s
    rdp_columns = columns_of s (rdp s.p) (rdp_is s is-rdp)

    pub rdp_n : equations s ≡ 2 * (s.p - 1)
    rdp_n = sym (equations_of s (rdp s.p) (rdp_is s is-rdp))

    pub rdp_row_is : (q : ℕ) → q < s.p - 1 → equation s q ≡ rdp_row s.p q
    rdp_row_is = first_of s (rdp s.p) (rdp_is s is-rdp)

    pub rdp_diagonal_is : (q : ℕ) → s.p - 1 ≤ q → equation s q ≡ rdp_diagonal s.p (q - (s.p - 1))
    rdp_diagonal_is = second_of s (rdp s.p) (rdp_is s is-rdp)

    pub rdp_row_lem : (q : ℕ) → q < s.p - 1 → Tracked s q (flat (s.p - 1) q 0)
    rdp_row_lem q l =
        walks q (rdp_row s.p q) _ (rdp_row_is q l)
        (along (rdp_row s.p q) (s.p - 1) q 0
        (omega (arith, low s w)) (omega (arith, high s w)) (omega (arith, rdp_rows)) (omega (arith, low s w))
        (λ k lk. and_both (eq-eqb q q refl) (lt-ltb ((0 + 1 * k) % s.p) (s.p - 1) (subst (λ (n : ℕ). n < s.p - 1) (sym (column_is k lk)) lk)))
        (λ i j li lj p.
        let lj' : j < s.p - 1 = ltb-true j (s.p - 1) (and_right (eqb i q) (ltb j (s.p - 1)) p) in
        (j, lj', eqb-true i q (and_left (eqb i q) (ltb j (s.p - 1)) p), column_is j lj'))
        (λ j k lj lk c. sym (column_is j lj) ∙ c ∙ column_is k lk))
      where
        column_is : (k : ℕ) → k < s.p - 1 → (0 + 1 * k) % s.p ≡ k
        column_is k lk = ap (λ (n : ℕ). n % s.p) (plain k) ∙ mod-eq_of_lt (omega arith)
          where
            plain : (n : ℕ) → 0 + 1 * n ≡ n
            plain n = omega arith

    -- a cell of diagonal d is where the line passes its row
    rdp_back : (d i j : ℕ) → j < s.p → (i + j) % s.p ≡ d → (d + (s.p - 1) * i) % s.p ≡ j
    rdp_back d i j lj h = ap (λ (n : ℕ). (n + (s.p - 1) * i) % s.p) (sym h) ∙ mod-add-mod (i + j) s.p ((s.p - 1) * i) ∙ ap (λ (n : ℕ). n % s.p) whole ∙ turns s.p i j ∙ mod-eq_of_lt lj
      where
        whole : i + j + (s.p - 1) * i ≡ i * s.p + j
        whole = omega (arith, steps_back s.p i (let pos : 0 < s.p = omega (arith, low s w) in pos))

    pub rdp_diagonal_lem : (q : ℕ) → s.p - 1 ≤ q → q < equations s
        → Tracked s q (fallen (s.p - 1) (q - (s.p - 1)) (s.p - 1))
    rdp_diagonal_lem q lo hi =
        walks q (rdp_diagonal s.p d) _ (rdp_diagonal_is q lo)
        (falling (rdp_diagonal s.p d) (s.p - 1) d (s.p - 1)
        (omega (arith, low s w)) (omega (arith, high s w)) (omega (arith, rdp_rows)) (omega (arith, d_small)) (omega (arith, low s w))
        (λ k lk.
        and_both (lt-ltb ((d + (s.p - 1) * k) % s.p) s.p (mod-lt (d + (s.p - 1) * k) pos))
        (and_both (lt-ltb k (s.p - 1) lk) (eq-eqb ((k + (d + (s.p - 1) * k) % s.p) % s.p) d (on k))))
        (λ i j li lj p.
        let rest = and_right (ltb j s.p) (ltb i (s.p - 1) && eqb ((i + j) % s.p) d) p in (
          ltb-true i (s.p - 1) (and_left (ltb i (s.p - 1)) (eqb ((i + j) % s.p) d) rest),
          rdp_back d i j (ltb-true j s.p (and_left (ltb j s.p) (ltb i (s.p - 1) && eqb ((i + j) % s.p) d) p)) (eqb-true ((i + j) % s.p) d (and_right (ltb i (s.p - 1)) (eqb ((i + j) % s.p) d) rest)),
        ))
        )
      where
        d : ℕ
        d = q - (s.p - 1)

        pos : 0 < s.p
        pos = omega (arith, low s w)

        d_small : d < s.p - 1
        d_small = omega (arith, rdp_n)

        -- cell k is on diagonal d
        on : (k : ℕ) → (k + (d + (s.p - 1) * k) % s.p) % s.p ≡ d
        on k = add-mod-mod k (d + (s.p - 1) * k) s.p ∙ ap (λ (n : ℕ). n % s.p) whole ∙ turns s.p k d ∙ mod-eq_of_lt (omega (arith, d_small))
          where
            whole : k + (d + (s.p - 1) * k) ≡ k * s.p + d
            whole = omega (arith, steps_back s.p k pos)

    -- what a row sums, column after column
    pub rdp_row_sum : (q : ℕ) → q < s.p - 1 → (f : ℕ → ℕ) → sum_over s q f ≡ xors (s.p - 1) (λ j. f (cell_number s q j))
    rdp_row_sum q l f =
        track_sum s q _ (rdp_row_lem q l) f
        ∙ xors_same (s.p - 1) (λ j. f (cell_number s (q + 0 * j) ((0 + 1 * j) % s.p))) (λ j. f (cell_number s q j))
        (λ j lj. ap f (ap₂ (cell_number s) (let same : q + 0 * j ≡ q = omega arith in same) (ap (λ (n : ℕ). n % s.p) (let same : 0 + 1 * j ≡ j = omega arith in same) ∙ mod-eq_of_lt (omega arith))))

    -- what diagonal d sums, row after row: the cell of each row that is on it
    pub rdp_diagonal_sum : (d : ℕ) → d < s.p - 1 → (column : ℕ → ℕ) → ((i : ℕ) → i < s.p - 1 → (column i < s.p) × ((i + column i) % s.p ≡ d))
        → (f : ℕ → ℕ) → sum_over s (s.p - 1 + d) f ≡ xors (s.p - 1) (λ i. f (cell_number s i (column i)))
    rdp_diagonal_sum d l column on f =
        track_sum s (s.p - 1 + d) _ (rdp_diagonal_lem (s.p - 1 + d) (omega arith) (omega (arith, rdp_n))) f
        ∙ xors_same (s.p - 1) (λ i. f (cell_number s (0 + 1 * i) ((s.p - 1 + d - (s.p - 1) + (s.p - 1) * i) % s.p))) (λ i. f (cell_number s i (column i)))
        (λ i li. ap f (ap₂ (cell_number s) (let same : 0 + 1 * i ≡ i = omega arith in same)
        (ap (λ (n : ℕ). (n + (s.p - 1) * i) % s.p) (let same : s.p - 1 + d - (s.p - 1) ≡ d = omega arith in same) ∙ rdp_back d i (column i) (on i li).0 (on i li).1)))

  -- ---- H-Code

  module _ (is-hcode : s.code ≡ 2) where
    pub hcode_rows : s.p - 1 ≡ rows s
    hcode_rows = rows_of s (hcode s.p) (hcode_is s is-hcode)

    pub hcode_columns : s.p + 1 ≡ columns s
    hcode_columns = columns_of s (hcode s.p) (hcode_is s is-hcode)

    pub hcode_n : equations s ≡ 2 * (s.p - 1)
    hcode_n = sym (equations_of s (hcode s.p) (hcode_is s is-hcode))

    pub hcode_row_is : (q : ℕ) → q < s.p - 1 → equation s q ≡ hcode_row s.p q
    hcode_row_is = first_of s (hcode s.p) (hcode_is s is-hcode)

    pub hcode_anti_is : (q : ℕ) → s.p - 1 ≤ q → equation s q ≡ hcode_anti_diagonal s.p (q - (s.p - 1))
    hcode_anti_is = second_of s (hcode s.p) (hcode_is s is-hcode)

  -- ---- X-Code

  module _ (is-xcode : s.code ≡ 3) where
    pub xcode_rows : s.p ≡ rows s
    xcode_rows = rows_of s (xcode s.p) (xcode_is s is-xcode)

    pub xcode_columns : s.p ≡ columns s
    xcode_columns = columns_of s (xcode s.p) (xcode_is s is-xcode)

    pub xcode_n : equations s ≡ 2 * s.p
    xcode_n = sym (equations_of s (xcode s.p) (xcode_is s is-xcode))

    pub xcode_first_is : (q : ℕ) → q < s.p → equation s q ≡ xcode_first s.p q
    xcode_first_is = first_of s (xcode s.p) (xcode_is s is-xcode)

    pub xcode_second_is : (q : ℕ) → s.p ≤ q → equation s q ≡ xcode_second s.p (q - s.p)
    xcode_second_is = second_of s (xcode s.p) (xcode_is s is-xcode)

  -- ---- EVENODD

  module _ (is-evenodd : s.code ≡ 4) where
    pub evenodd_rows : s.p - 1 ≡ rows s
    evenodd_rows = rows_of s (evenodd s.p) (evenodd_is s is-evenodd)

    pub evenodd_columns : s.p + 2 ≡ columns s
    evenodd_columns = columns_of s (evenodd s.p) (evenodd_is s is-evenodd)

    pub evenodd_n : equations s ≡ 2 * (s.p - 1)
    evenodd_n = sym (equations_of s (evenodd s.p) (evenodd_is s is-evenodd))

    pub evenodd_row_is : (q : ℕ) → q < s.p - 1 → equation s q ≡ evenodd_row s.p q
    evenodd_row_is = first_of s (evenodd s.p) (evenodd_is s is-evenodd)

    pub evenodd_diagonal_is : (q : ℕ) → s.p - 1 ≤ q → equation s q ≡ evenodd_diagonal s.p (q - (s.p - 1))
    evenodd_diagonal_is = second_of s (evenodd s.p) (evenodd_is s is-evenodd)
