-- EVENODD: a solution that is 0 off two columns is 0. There are p lines: the diagonals, each with its parity cell, and line p-1, whose cells are those of S.
-- A diagonal's equation says that its line and line p-1 have the same sum, so all lines have one sum. It turns out to be 0; then going along a row and along
-- a line in turn leads through both columns, from the row p-1, which is not there.
use mathlib.Core.Path.{◌≡◌, refl, sym, ap, ap₂, ◌∙◌, subst}
use mathlib.Core.Logic.{◌≢◌, inl, inr}
use mathlib.Core.Bool.{Bool, true, false, cond, ◌&&◌, ◌||◌}
use Prim.Native.Nat.{ℕ, zero, suc, ◌+◌, ◌-◌, ◌/◌, ◌%◌, ◌≤◌, ◌<◌}
use native.Mathlib.Nat.{mod-lt, mod-eq_of_lt, mod-add-mod}
use native.Mathlib.Omega.{arith}
use lib.Dec.{eqb, ltb}
use borrow.Author.Tests.{lt-ltb, le-ltb, eq-eqb, ne_eqb, ltb-true, eqb-true}
use Rattle.xor.specs.Xor.{◌⊕◌, xors}
use Rattle.xor.proofs.Cases.{by_equal, by_less, clash, and_left, and_right, and_both, either, or_left, or_right, same_test}
use Rattle.xor.proofs.Algebra.{zero_⊕, ⊕_zero, ⊕_self, ⊕_assoc, ⊕_equal, equal_⊕}
use Rattle.xor.proofs.Sums.{xors_more, xors_same, xors_plus, xors_listed}
use Rattle.codes.specs.declared.Shape.{Shape}
use Rattle.codes.specs.Shape.{listed, rows, columns, cells, equations, cell_number, WellFormed}
use Rattle.codes.specs.Equations.{evenodd_row, evenodd_s, evenodd_diagonal}
use Rattle.codes.specs.Encoded.{parity_cell, sums_cell, Solves}
use Rattle.codes.specs.Holders.{holds}
use Rattle.codes.specs.Lines.{sum_where}
use Rattle.codes.proofs.Shapes.{low, each_prime}
use Rattle.codes.proofs.Residues.{wrapped}
use Rattle.codes.proofs.Lines.{evenodd_rows, evenodd_columns, evenodd_n, evenodd_row_is}
use Rattle.codes.proofs.Positions.{families, row_is, column_is, cell_is, same_row, same_column, sums_of, evenodd_second_is, evenodd_second, s_test}
use Rattle.codes.proofs.Geometry.{row_at, column_at}
use Rattle.codes.proofs.Solutions.{total_zero, total_holds}
use Rattle.columns.proofs.Paths.{shift_once, shift_from, along_path}
use Rattle.columns.proofs.Columns.{Crosses, Meets, OnTwo, entry, entry_out, meets, crossed, balanced, all_zero}

-- ---- sums over all residues mod p

-- a shift goes once through all of them
shift_sum : (p a : ℕ) (f : ℕ → ℕ) → 0 < p → xors p (λ r. f ((r + a) % p)) ≡ xors p f
shift_sum p a f pos =
    sym (xors_listed p (λ c. true) p (λ r. (r + a) % p)
    (record { below = λ k l. mod-lt (k + a) pos; passes = λ k l. refl; all = λ c l h. shift_from p a c l; once = λ j k lj lk. shift_once p j k a lj lk }) f)

-- of two equal numbers nothing is left, so of an odd number of them one is
odd_sum : (n x : ℕ) → xors (n + n + 1) (λ k. x) ≡ x
unfolding xors
odd_sum zero x = zero_⊕ x
odd_sum (suc n) x =
    ap (λ (k : ℕ). xors k (λ i. x)) two_more ∙ xors_more (n + n + 1 + 1) (λ k. x) ∙ ap (λ (y : ℕ). y ⊕ x) (xors_more (n + n + 1) (λ k. x))
    ∙ ⊕_assoc (xors (n + n + 1) (λ k. x)) x x ∙ ap (λ (y : ℕ). xors (n + n + 1) (λ k. x) ⊕ y) (⊕_self x) ∙ ⊕_zero (xors (n + n + 1) (λ k. x)) ∙ odd_sum n x
  where
    two_more : suc n + suc n + 1 ≡ n + n + 1 + 1 + 1
    two_more = omega arith

-- the primes are odd
odd : (p : ℕ) → listed p ≡ true → p / 2 + p / 2 + 1 ≡ p
odd = each_prime (λ p. p / 2 + p / 2 + 1 ≡ p) refl refl refl refl refl refl refl refl refl refl

-- ---- the lines

-- the line of the cell in row i and column j: its diagonal's number in a data column, p in column p, which is on no line, and in column p+1 the row's number
line_of : ℕ → ℕ → ℕ → ℕ
line_of p i j = cond (ltb j p) ((i + j) % p) (cond (eqb j p) p i)

line_data : (p i j : ℕ) → j < p → line_of p i j ≡ (i + j) % p
unfolding line_of
line_data p i j l = rw (lt-ltb j p l) refl

line_none : (p i : ℕ) → line_of p i p ≡ p
unfolding line_of
line_none p i = rw (le-ltb p p (omega arith), eq-eqb p p refl) refl

line_last : (p i : ℕ) → line_of p i (p + 1) ≡ i
unfolding line_of
line_last p i = rw (le-ltb (p + 1) p (omega arith), ne_eqb (p + 1) p (λ e. omega arith)) refl

-- whether cell c is on line d
abbrev on : Shape → ℕ → ℕ → Bool
on s d c = eqb (line_of s.p (c % rows s) (c / rows s)) d

-- the sum of line p-1
abbrev last_sum : Shape → (ℕ → ℕ) → ℕ
last_sum s v = sum_where s (on s (s.p - 1)) v

-- a number is one of two at most
one_of_two : (n d e x : ℕ) → d ≢ e → cond (eqb n d || eqb n e) x 0 ≡ cond (eqb n d) x 0 ⊕ cond (eqb n e) x 0
one_of_two n d e x apart = by_equal n d (λ h. rw (eq-eqb n d h, ne_eqb n e (λ k. apart (sym h ∙ k))) (sym (⊕_zero x))) (λ h. rw (ne_eqb n d h) (sym (zero_⊕ (cond (eqb n e) x 0))))

module _ (s : Shape) (w : WellFormed s) (is-evenodd : s.code ≡ 4) where
  height : s.p - 1 ≡ rows s
  height = evenodd_rows s w is-evenodd

  width : s.p + 2 ≡ columns s
  width = evenodd_columns s w is-evenodd

  pos : 0 < s.p
  pos = omega (arith, low s w)

  -- ---- where the rows and the lines cross the columns

  row_number : (r : ℕ) → r < s.p - 1 → r < equations s
  row_number r l = omega (arith, evenodd_n s w is-evenodd)

  -- equation r has the cell in row r of every column up to p
  row_meets : (r j : ℕ) → r < s.p - 1 → j ≤ s.p → Meets s r j r
  row_meets r j lr lj =
      meets s w r (evenodd_row s.p r) (evenodd_row_is s w is-evenodd r lr) (omega (arith, height)) j r
      (λ l. by_equal j s.p (λ e. inl (refl, e)) (λ n. inr (and_both (eq-eqb r r refl) (lt-ltb j s.p (omega arith)))))
      (λ e. refl)
      (λ i l t. eqb-true i r (and_left (eqb i r) (ltb j s.p) t))

  row_ends : (r : ℕ) → r < s.p - 1 → Meets s r (s.p + 1) (rows s)
  row_ends r lr =
      meets s w r (evenodd_row s.p r) (evenodd_row_is s w is-evenodd r lr) (omega (arith, height)) (s.p + 1) (rows s)
      (λ l. absurd (omega arith)) (λ e. absurd (omega arith))
      (λ i l t. let small = ltb-true (s.p + 1) s.p (and_right (eqb i r) (ltb (s.p + 1) s.p) t) in absurd (omega arith))

  crosses : (d j r : ℕ) → (r < rows s → line_of s.p r j ≡ d) → ((i : ℕ) → i < rows s → line_of s.p i j ≡ d → i ≡ r) → Crosses s (on s d) j r
  crosses d j r here elsewhere = record {
    there = λ l. at r l ∙ eq-eqb (line_of s.p r j) d (here l);
    nowhere_else = λ i l h. elsewhere i l (eqb-true (line_of s.p i j) d (sym (at i l) ∙ h));
  }
    where
      at : (i : ℕ) → i < rows s → on s d (cell_number s i j) ≡ eqb (line_of s.p i j) d
      at i l = ap₂ (λ (x y : ℕ). eqb (line_of s.p x y) d) (row_is s w i j l) (column_is s w i j l)

  -- line d has the cell in row r of data column j where r + j is d mod p, none in column p, and the cell in row d of column p+1
  line_crosses : (d j r : ℕ) → j < s.p → r < s.p → (r + j) % s.p ≡ d → Crosses s (on s d) j r
  line_crosses d j r lj lr e = crosses d j r (λ l. line_data s.p r j lj ∙ e) (λ i l h. shift_once s.p i r j (omega (arith, height)) lr (sym (line_data s.p i j lj) ∙ h ∙ sym e))

  line_misses : (d : ℕ) → d < s.p → Crosses s (on s d) s.p (rows s)
  line_misses d ld = crosses d s.p (rows s) (λ l. absurd (omega arith)) (λ i l h. let none = line_none s.p i in absurd (omega arith))

  line_ends : (d : ℕ) → Crosses s (on s d) (s.p + 1) d
  line_ends d = crosses d (s.p + 1) d (λ l. line_last s.p d) (λ i l h. sym (line_last s.p i) ∙ h)

  -- ---- a diagonal equation holds the cells of its line and those of line p-1

  diagonal_number : (d : ℕ) → d < s.p - 1 → s.p - 1 + d < equations s
  diagonal_number d l = omega (arith, evenodd_n s w is-evenodd)

  -- a cell on a line is a data cell on that diagonal, or in column p+1 and that row
  line_cases : {A : Type 0} (i j d : ℕ) → j < columns s → d < s.p → line_of s.p i j ≡ d → (j < s.p → (i + j) % s.p ≡ d → A) → (j ≡ s.p + 1 → i ≡ d → A) → A
  line_cases i j d lj ld h inside last =
      by_less j s.p (λ l. inside l (sym (line_data s.p i j l) ∙ h))
      (λ l. by_equal j s.p (λ e. let none = ap (line_of s.p i) (sym e) ∙ h in let no = line_none s.p i in absurd (omega arith))
      (λ n. let e : j ≡ s.p + 1 = omega (arith, width) in last e (sym (line_last s.p i) ∙ ap (line_of s.p i) (sym e) ∙ h)))

  -- row and column are p-1 together where they are p-1 mod p
  whole_line : (i j : ℕ) → i < s.p - 1 → j < s.p → (i + j) % s.p ≡ s.p - 1 → i + j ≡ s.p - 1
  whole_line i j li lj e =
      by_less (i + j) s.p (λ l. sym (mod-eq_of_lt l) ∙ e) (λ l. let over = wrapped s.p (i + j) l (omega arith) in absurd (omega arith))

  diagonal_holds : (d i j : ℕ) → d < s.p - 1 → i < rows s → j < columns s → holds s (s.p - 1 + d) (cell_number s i j) ≡ (eqb (line_of s.p i j) d || eqb (line_of s.p i j) (s.p - 1))
  unfolding holds
  diagonal_holds d i j ld li lj =
      same_test
      (λ h. either (eqb (cell_number s i j) (parity_cell s (s.p - 1 + d))) (sums_cell s (s.p - 1 + d) (cell_number s i j)) h
      (λ h. let same = eqb-true (cell_number s i j) (parity_cell s (s.p - 1 + d)) h ∙ evenodd_second s w is-evenodd d in
      own (ap₂ (line_of s.p) (same_row s w i j d (s.p + 1) li (omega (arith, height)) same) (same_column s w i j d (s.p + 1) li (omega (arith, height)) same) ∙ line_last s.p d))
      (λ h. either (evenodd_s s.p i j) (ltb j s.p && eqb ((i + j) % s.p) d) (sym sums ∙ h)
      (λ h. let lj' = ltb-true j s.p (and_left (ltb j s.p) (eqb i (s.p - 1 - j)) (and_right (ltb 0 j) (ltb j s.p && eqb i (s.p - 1 - j)) h)) in
      of_s (line_data s.p i j lj' ∙ ap (λ (n : ℕ). n % s.p) (eqb-true (i + j) (s.p - 1) (sym (s_test s w is-evenodd i j li' lj') ∙ h)) ∙ mod-eq_of_lt (omega (arith, pos))))
      (λ h. own (line_data s.p i j (ltb-true j s.p (and_left (ltb j s.p) (eqb ((i + j) % s.p) d) h)) ∙ eqb-true ((i + j) % s.p) d (and_right (ltb j s.p) (eqb ((i + j) % s.p) d) h)))))
      (λ h. either (eqb (line_of s.p i j) d) (eqb (line_of s.p i j) (s.p - 1)) h
      (λ h. line_cases i j d lj (omega arith) (eqb-true (line_of s.p i j) d h)
      (λ l e. summed (or_right (evenodd_s s.p i j) (and_both (lt-ltb j s.p l) (eq-eqb ((i + j) % s.p) d e))))
      (λ ej ei. or_left (sums_cell s (s.p - 1 + d) (cell_number s i j)) (eq-eqb (cell_number s i j) (parity_cell s (s.p - 1 + d)) (ap₂ (cell_number s) ei ej ∙ sym (evenodd_second s w is-evenodd d)))))
      (λ h. line_cases i j (s.p - 1) lj (omega (arith, pos)) (eqb-true (line_of s.p i j) (s.p - 1) h)
      (λ l e. summed (or_left (ltb j s.p && eqb ((i + j) % s.p) d) (s_test s w is-evenodd i j li' l ∙ eq-eqb (i + j) (s.p - 1) (whole_line i j li' l e))))
      (λ ej ei. absurd (omega (arith, height)))))
    where
      li' : i < s.p - 1
      li' = omega (arith, height)

      own : line_of s.p i j ≡ d → (eqb (line_of s.p i j) d || eqb (line_of s.p i j) (s.p - 1)) ≡ true
      own e = or_left (eqb (line_of s.p i j) (s.p - 1)) (eq-eqb (line_of s.p i j) d e)

      of_s : line_of s.p i j ≡ s.p - 1 → (eqb (line_of s.p i j) d || eqb (line_of s.p i j) (s.p - 1)) ≡ true
      of_s e = or_right (eqb (line_of s.p i j) d) (eq-eqb (line_of s.p i j) (s.p - 1) e)

      sums : sums_cell s (s.p - 1 + d) (cell_number s i j) ≡ (evenodd_s s.p i j || (ltb j s.p && eqb ((i + j) % s.p) d))
      sums = sums_of s w (s.p - 1 + d) (evenodd_diagonal s.p d) (evenodd_second_is s w is-evenodd d) i j li

      summed : (evenodd_s s.p i j || (ltb j s.p && eqb ((i + j) % s.p) d)) ≡ true → (eqb (cell_number s i j) (parity_cell s (s.p - 1 + d)) || sums_cell s (s.p - 1 + d) (cell_number s i j)) ≡ true
      summed e = or_right (eqb (cell_number s i j) (parity_cell s (s.p - 1 + d))) (sums ∙ e)

  -- so all lines have one sum
  one_sum : (v : ℕ → ℕ) → Solves s v → (d : ℕ) → d < s.p → sum_where s (on s d) v ≡ last_sum s v
  unfolding sum_where
  one_sum v h d l = by_less d (s.p - 1) on_equation (λ k. ap (λ (e : ℕ). sum_where s (on s e) v) (last k))
    where
      last : s.p - 1 ≤ d → d ≡ s.p - 1
      last k = omega arith

      on_equation : d < s.p - 1 → sum_where s (on s d) v ≡ last_sum s v
      on_equation k =
          ⊕_equal (sum_where s (on s d) v) (last_sum s v)
          (sym (xors_plus (cells s) (λ c. cond (on s d c) (v c) 0) (λ c. cond (on s (s.p - 1) c) (v c) 0))
          ∙ sym (xors_same (cells s) (λ c. cond (holds s (s.p - 1 + d) c) (v c) 0) (λ c. cond (on s d c) (v c) 0 ⊕ cond (on s (s.p - 1) c) (v c) 0)
          (λ c lc. ap (λ (b : Bool). cond b (v c) 0) (ap (holds s (s.p - 1 + d)) (sym (cell_is s w c)) ∙ diagonal_holds d (c % rows s) (c / rows s) k (row_at s w c) (column_at s w c lc))
          ∙ one_of_two (line_of s.p (c % rows s) (c / rows s)) d (s.p - 1) (v c) (λ e. omega arith)))
          ∙ total_holds s w (s.p - 1 + d) (diagonal_number d k) v ∙ total_zero s (s.p - 1 + d) v (h (s.p - 1 + d) (diagonal_number d k)))

  -- ---- the lowest equation that holds a cell: its row's up to column p, and in column p+1 its diagonal's, which has one cell there

  diagonal_ends : (d : ℕ) → d < s.p - 1 → Meets s (s.p - 1 + d) (s.p + 1) d
  diagonal_ends d ld = record {
    there = λ l. is d l ∙ or_left (eqb (line_of s.p d (s.p + 1)) (s.p - 1)) (eq-eqb (line_of s.p d (s.p + 1)) d (line_last s.p d));
    nowhere_else = λ i l h. either (eqb (line_of s.p i (s.p + 1)) d) (eqb (line_of s.p i (s.p + 1)) (s.p - 1)) (sym (is i l) ∙ h)
        (λ e. sym (line_last s.p i) ∙ eqb-true (line_of s.p i (s.p + 1)) d e)
        (λ e. let at = sym (line_last s.p i) ∙ eqb-true (line_of s.p i (s.p + 1)) (s.p - 1) e in absurd (omega (arith, height)));
  }
    where
      is : (i : ℕ) → i < rows s → holds s (s.p - 1 + d) (cell_number s i (s.p + 1)) ≡ (eqb (line_of s.p i (s.p + 1)) d || eqb (line_of s.p i (s.p + 1)) (s.p - 1))
      is i l = diagonal_holds d i (s.p + 1) ld l (omega (arith, width))

  pub evenodd_meets : (q c : ℕ) → q < equations s → c < cells s → ((k : ℕ) → k < q → holds s k c ≡ false) → (r : ℕ) × Meets s q (c / rows s) r
  evenodd_meets q c lq lc =
      families (λ e. ((k : ℕ) → k < e → holds s k c ≡ false) → (r : ℕ) × Meets s e (c / rows s) r) (s.p - 1)
      (λ r l none. by_equal (c / rows s) (s.p + 1) (λ e. (rows s, subst (λ (x : ℕ). Meets s r x (rows s)) (sym e) (row_ends r l))) (λ n. (r, row_meets r (c / rows s) l (up_to n))))
      (λ d l none. by_equal (c / rows s) (s.p + 1) (λ e. (d, subst (λ (x : ℕ). Meets s (s.p - 1 + d) x d) (sym e) (diagonal_ends d l)))
      (λ n. clash (ap (holds s (c % rows s)) (sym (cell_is s w c)) ∙ (row_meets (c % rows s) (c / rows s) row (up_to n)).there (row_at s w c)) (none (c % rows s) (omega (arith, row)))))
      q (omega (arith, evenodd_n s w is-evenodd))
    where
      row : c % rows s < s.p - 1
      row = omega (arith, height, row_at s w c)

      up_to : c / rows s ≢ s.p + 1 → c / rows s ≤ s.p
      up_to n = omega (arith, width, column_at s w c lc)

  -- a column that has the same in all rows, the row p-1 too, is 0
  level : (v : ℕ → ℕ) (j x : ℕ) → ((r : ℕ) → r < s.p → entry s v j r ≡ x) → (r : ℕ) → r < rows s → entry s v j r ≡ 0
  level v j x h r l = h r (omega (arith, height)) ∙ sym (h (s.p - 1) (omega (arith, pos))) ∙ entry_out s v j (s.p - 1) (omega (arith, height))

  -- a line's cells in the two columns have the one sum
  lines_agree : (v : ℕ → ℕ) (a b : ℕ) → OnTwo s v a b → a < columns s → b < columns s
      → (d i k : ℕ) → d < s.p → Crosses s (on s d) a i → Crosses s (on s d) b k → entry s v a i ⊕ entry s v b k ≡ last_sum s v
  lines_agree v a b h la lb d i k ld xa xb = sym (crossed s w v a b h (on s d) i k la lb xa xb) ∙ one_sum v h.solves d ld

  -- ---- two columns below p

  module _ (v : ℕ → ℕ) (a b : ℕ) (h : OnTwo s v a b) (ab : a < b) (lb : b < s.p) where
    rows_agree : (r : ℕ) → r < s.p → entry s v a r ≡ entry s v b r
    rows_agree r l =
        by_less r (s.p - 1)
        (λ lr. balanced s w v a b h r r r (row_number r lr) (omega (arith, width)) (omega (arith, width)) (row_meets r a lr (omega arith)) (row_meets r b lr (omega arith)))
        (λ lr. entry_out s v a r (omega (arith, height)) ∙ sym (entry_out s v b r (omega (arith, height))))

    -- along the row to column b, and along the line back to column a
    step : (r : ℕ) → r < s.p → entry s v a ((r + (b - a)) % s.p) ⊕ entry s v a r ≡ last_sum s v
    step r l =
        ap (λ (x : ℕ). entry s v a ((r + (b - a)) % s.p) ⊕ x) (rows_agree r l)
        ∙ lines_agree v a b h (omega (arith, width)) (omega (arith, width)) ((r + b) % s.p) ((r + (b - a)) % s.p) r (mod-lt (r + b) pos)
        (line_crosses ((r + b) % s.p) a ((r + (b - a)) % s.p) (omega arith) (mod-lt (r + (b - a)) pos) same) (line_crosses ((r + b) % s.p) b r lb l refl)
      where
        same : ((r + (b - a)) % s.p + a) % s.p ≡ (r + b) % s.p
        same = mod-add-mod (r + (b - a)) s.p a ∙ ap (λ (n : ℕ). n % s.p) whole
          where
            whole : r + (b - a) + a ≡ r + b
            whole = omega arith

    -- all steps together go twice through column a, and have the one sum p times
    sum_zero : last_sum s v ≡ 0
    sum_zero =
        sym (odd_sum (s.p / 2) (last_sum s v)) ∙ ap (λ (n : ℕ). xors n (λ r. last_sum s v)) (odd s.p w.prime)
        ∙ sym (xors_same s.p (λ r. entry s v a ((r + (b - a)) % s.p) ⊕ entry s v a r) (λ r. last_sum s v) step)
        ∙ xors_plus s.p (λ r. entry s v a ((r + (b - a)) % s.p)) (entry s v a)
        ∙ equal_⊕ (xors s.p (λ r. entry s v a ((r + (b - a)) % s.p))) (xors s.p (entry s v a)) (shift_sum s.p (b - a) (entry s v a) pos)

    stays : (r : ℕ) → r < s.p → entry s v a ((r + (b - a)) % s.p) ≡ entry s v a r
    stays r l = ⊕_equal (entry s v a ((r + (b - a)) % s.p)) (entry s v a r) (step r l ∙ sum_zero)

    first_zero : (r : ℕ) → r < s.p → entry s v a r ≡ 0
    first_zero =
        along_path s.p (b - a) 0 (λ r. entry s v a r ≡ 0) w.prime (omega arith) (omega arith) pos
        (λ r l n z. stays r l ∙ z) (λ r l n z. sym (stays r l) ∙ z)
        (s.p - 1) (omega arith) (entry_out s v a (s.p - 1) (omega (arith, height)))

    below : (c : ℕ) → c < cells s → v c ≡ 0
    below = all_zero s w v a b h (λ i l. first_zero i (omega (arith, height))) (λ i l. sym (rows_agree i (omega (arith, height))) ∙ first_zero i (omega (arith, height)))

  -- ---- a column below p, and column p: in this no line has a cell

  module _ (v : ℕ → ℕ) (a : ℕ) (h : OnTwo s v a s.p) (la : a < s.p) where
    by_lines : (r : ℕ) → r < rows s → entry s v a r ≡ 0
    by_lines =
        level v a (last_sum s v)
        (λ r l. sym (⊕_zero (entry s v a r)) ∙ ap (λ (x : ℕ). entry s v a r ⊕ x) (sym (entry_out s v s.p (rows s) (omega arith)))
        ∙ lines_agree v a s.p h (omega (arith, width)) (omega (arith, width)) ((r + a) % s.p) r (rows s) (mod-lt (r + a) pos) (line_crosses ((r + a) % s.p) a r la l refl) (line_misses ((r + a) % s.p) (mod-lt (r + a) pos)))

    with_rows : (c : ℕ) → c < cells s → v c ≡ 0
    with_rows =
        all_zero s w v a s.p h by_lines
        (λ r l. sym (balanced s w v a s.p h r r r (row_number r (omega (arith, height))) (omega (arith, width)) (omega (arith, width))
        (row_meets r a (omega (arith, height)) (omega arith)) (row_meets r s.p (omega (arith, height)) (omega arith))) ∙ by_lines r l)

  -- ---- a column up to p, and column p+1: in this no row has a cell

  module _ (v : ℕ → ℕ) (a : ℕ) (h : OnTwo s v a (s.p + 1)) (la : a ≤ s.p) where
    by_rows : (r : ℕ) → r < rows s → entry s v a r ≡ 0
    by_rows r l =
        balanced s w v a (s.p + 1) h r r (rows s) (row_number r (omega (arith, height))) (omega (arith, width)) (omega (arith, width))
        (row_meets r a (omega (arith, height)) la) (row_ends r (omega (arith, height)))
        ∙ entry_out s v (s.p + 1) (rows s) (omega arith)

    -- where a line crosses column a
    crossing : (d : ℕ) → d < s.p → (r : ℕ) × Crosses s (on s d) a r
    crossing d l =
        by_equal a s.p (λ e. (rows s, subst (λ (x : ℕ). Crosses s (on s d) x (rows s)) (sym e) (line_misses d l)))
        (λ n. let at = shift_from s.p a d l in (at.0, line_crosses d a at.0 (omega arith) at.1 at.2))

    with_diagonals : (c : ℕ) → c < cells s → v c ≡ 0
    with_diagonals =
        all_zero s w v a (s.p + 1) h by_rows
        (level v (s.p + 1) (last_sum s v)
        (λ d l. let at = crossing d l in
        sym (zero_⊕ (entry s v (s.p + 1) d)) ∙ ap (λ (x : ℕ). x ⊕ entry s v (s.p + 1) d) (sym (by_less at.0 (rows s) (by_rows at.0) (entry_out s v a at.0)))
        ∙ lines_agree v a (s.p + 1) h (omega (arith, width)) (omega (arith, width)) d at.0 d l at.1 (line_ends d)))

  pub two_evenodd : (v : ℕ → ℕ) (a b : ℕ) → OnTwo s v a b → a < b → b < columns s → (c : ℕ) → c < cells s → v c ≡ 0
  two_evenodd v a b h ab lb =
      by_equal b (s.p + 1) (λ e. with_diagonals v a (subst (OnTwo s v a) e h) (omega arith))
      (λ n. by_equal b s.p (λ e. with_rows v a (subst (OnTwo s v a) e h) (omega arith)) (λ m. below v a b h ab (omega (arith, width))))
