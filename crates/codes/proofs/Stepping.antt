-- Lines as the code walks them, column after column as they lie: where each next cell is, and that a line which lies on the cells of a
-- test covers them.
use mathlib.Core.Path.{◌≡◌, refl, sym, ap, ap₂, ◌∙◌}
use mathlib.Core.Logic.{◌≢◌}
use mathlib.Core.Bool.{Bool, true, false, cond, ◌&&◌}
use Prim.Native.Nat.{ℕ, zero, suc, ◌+◌, ◌*◌, ◌/◌, ◌%◌, ◌≤◌, ◌<◌}
use native.Mathlib.Nat.{add-mul, one-mul}
use native.Mathlib.Numerals.{add-one}
use native.Mathlib.Omega.{arith}
use lib.Dec.{eqb}
use borrow.Author.Tests.{eq-eqb, ne_eqb, lt-ltb, le-ltb}
use Rattle.std.specs.Option.{unwrap_or}
use Rattle.std.specs.declared.option.Option.{Option}
use Rattle.std.specs.declared.option.Option.TheVariants.{None, Some}
use Rattle.xor.specs.Xor.{xors}
use Rattle.xor.proofs.Cases.{by_equal, by_test, and_left, and_right, and_both}
use Rattle.xor.proofs.Sums.{xors_same, nothing, Lists, xors_listed}
use Rattle.codes.specs.declared.Shape.{Shape}
use Rattle.codes.specs.declared.Line.{Line}
use Rattle.codes.specs.Shape.{rows, columns, cells, disks, cell_number, WellFormed}
use Rattle.codes.specs.Geometry.{is_there, cell_there, column_of, lies_at, callers_cell}
use Rattle.codes.specs.Lines.{sum_where, walked, line_count, line_cell, Covers}
use Rattle.codes.proofs.Shapes.{existing_high, cells_high}
use Rattle.codes.proofs.Positions.{cell_inside, same_row, same_column}
use Rattle.codes.proofs.Geometry.{column_there, is_there_lem, lies_column, column_lies, number_at, row_at, column_at, cell_there_at, callers_at, callers_inside}

-- ---- one cell after the other

pub walked_next : (l : Line) (k : ℕ) → walked l (k + 1) ≡ cond (eqb (k + 1) l.turn) l.second (walked l k + l.step)
unfolding walked
walked_next l k = rw add-one refl

-- a line that goes one column on at each step, in columns of n rows, is in column u k and row i k at cell k
pub walk_is : (l : Line) (n : ℕ) (u i : ℕ → ℕ) → l.first ≡ u 0 * n + i 0
    → ((k : ℕ) → suc k < l.count → suc k ≡ l.turn → l.second ≡ u (suc k) * n + i (suc k))
    → ((k : ℕ) → suc k < l.count → suc k ≢ l.turn → (u (suc k) ≡ u k + 1) × (i (suc k) + n ≡ i k + l.step))
    → (k : ℕ) → k < l.count → walked l k ≡ u k * n + i k
unfolding walked
walk_is l n u i first turned next zero lk = first
walk_is l n u i first turned next (suc k) lk =
    by_equal (suc k) l.turn
    (λ e. rw (eq-eqb (suc k) l.turn e) (turned k lk e))
    (λ e. rw (ne_eqb (suc k) l.turn e) (ap (λ (x : ℕ). x + l.step) (walk_is l n u i first turned next k (omega arith)) ∙ on k (next k lk e)))
  where
    on : (k : ℕ) → (u (suc k) ≡ u k + 1) × (i (suc k) + n ≡ i k + l.step) → u k * n + i k + l.step ≡ u (suc k) * n + i (suc k)
    on k h = omega (arith, h.1, ap (λ (x : ℕ). x * n) h.0, add-mul (u k) 1 n, one-mul n)

-- ---- the cells of a line

pub count_plain : (l : Line) → l.extra ≡ None → line_count l ≡ l.count
unfolding line_count
count_plain l e = rw e refl

pub count_extra : (l : Line) (x : ℕ) → l.extra ≡ Some x → line_count l ≡ l.count + 1
unfolding line_count
count_extra l x e = rw e refl

pub cell_walked : (l : Line) (k : ℕ) → k < l.count → line_cell l k ≡ walked l k
unfolding line_cell
cell_walked l k lk = rw (lt-ltb k l.count lk) refl

pub cell_extra : (l : Line) (k : ℕ) → l.count ≤ k → line_cell l k ≡ unwrap_or l.extra 0
unfolding line_cell
cell_extra l k lk = rw (le-ltb k l.count lk) refl

-- there is an extra cell, or there is none
by_extra : {A : Type 0} (l : Line) → (l.extra ≡ None → A) → ((x : ℕ) → l.extra ≡ Some x → A) → A
by_extra {A} l none some = cases l.extra refl
  where
    cases : (o : Option ℕ) → l.extra ≡ o → A
    cases None e = none e
    cases (Some x) e = some x e

pub count_most : (l : Line) → l.count ≤ line_count l
count_most l = by_extra l (λ e. omega (arith, count_plain l e)) (λ x e. omega (arith, count_extra l x e))

pub count_few : (l : Line) → l.count ≤ 30 → line_count l ≤ 31
count_few l h = by_extra l (λ e. omega (arith, count_plain l e)) (λ x e. omega (arith, count_extra l x e))

-- ---- a line that lies on the cells of a test

-- cell k of the line lies in row i k of the column at place u k: once for each cell that passes the test and exists
pub record Goes (s : Shape) (test : ℕ → Bool) (l : Line) (u i : ℕ → ℕ) : Type 0 where
  pub in_row : (k : ℕ) → k < line_count l → i k < rows s
  pub in_place : (k : ℕ) → k < line_count l → u k < disks s
  pub passes : (k : ℕ) → k < line_count l → test (cell_number s (i k) (column_of s (u k))) ≡ true
  pub all : (x y : ℕ) → x < rows s → y < columns s → is_there s y ≡ true → test (cell_number s x y) ≡ true → (k : ℕ) × (k < line_count l) × (i k ≡ x) × (u k ≡ lies_at s y)
  pub once : (j k : ℕ) → j < line_count l → k < line_count l → i j ≡ i k → u j ≡ u k → j ≡ k
  pub at : (k : ℕ) → k < line_count l → line_cell l k ≡ u k * rows s + i k

module _ (s : Shape) (w : WellFormed s) (test : ℕ → Bool) (l : Line) where
  -- which cells pass the test, of those that exist
  abbrev passes_there : ℕ → Bool
  passes_there c = test c && cell_there s c

  sum_there : (f : ℕ → ℕ) → ((c : ℕ) → cell_there s c ≡ false → f c ≡ 0) → sum_where s test f ≡ xors (cells s) (λ c. cond (passes_there c) (f c) 0)
  unfolding sum_where
  sum_there f blank =
      xors_same (cells s) (λ c. cond (test c) (f c) 0) (λ c. cond (passes_there c) (f c) 0)
      (λ c lc. by_test (cell_there s c) (λ h. rw h (ap (λ (b : Bool). cond b (f c) 0) (both (test c)))) (λ h. rw h (nothing (test c) (f c) (blank c h) ∙ sym (nothing (test c && false) (f c) (blank c h)))))
    where
      both : (b : Bool) → b ≡ (b && true)
      both true = refl
      both false = refl

  module _ (u i : ℕ → ℕ) (h : Goes s test l u i) where
    cell : ℕ → ℕ
    cell k = cell_number s (i k) (column_of s (u k))

    inside : (k : ℕ) → k < line_count l → cell k < cells s
    unfolding cell
    inside k lk = cell_inside s w (i k) (column_of s (u k)) (h.in_row k lk) (column_there s w (u k) (h.in_place k lk))

    there : (k : ℕ) → k < line_count l → cell_there s (cell k) ≡ true
    unfolding cell
    there k lk = cell_there_at s w (i k) (column_of s (u k)) (h.in_row k lk) ∙ is_there_lem s w (u k)

    at_callers : (k : ℕ) → k < line_count l → line_cell l k ≡ callers_cell s (cell k)
    unfolding cell cell_number
    at_callers k lk = h.at k lk ∙ ap (λ (x : ℕ). x * rows s + i k) (sym (lies_column s w (u k))) ∙ sym (callers_at s w (i k) (column_of s (u k)) (h.in_row k lk))

    lists : Lists (cells s) passes_there (line_count l) cell
    unfolding cell
    lists = record {
      below = inside;
      passes = λ k lk. and_both (h.passes k lk) (there k lk);
      all = λ c lc p.
          let x = c % rows s in
          let y = c / rows s in
          let here : is_there s y ≡ true = sym (cell_there_at s w x y (row_at s w c)) ∙ ap (cell_there s) (number_at s w c) ∙ and_right (test c) (cell_there s c) p in
          let found = h.all x y (row_at s w c) (column_at s w c lc) here (ap test (number_at s w c) ∙ and_left (test c) (cell_there s c) p) in
          (found.0, found.1, ap₂ (λ (a b : ℕ). cell_number s a (column_of s b)) found.2 found.3 ∙ ap (cell_number s x) (column_lies s w y here) ∙ number_at s w c);
      once = λ j k lj lk e. h.once j k lj lk (same_row s w (i j) (column_of s (u j)) (i k) (column_of s (u k)) (h.in_row j lj) (h.in_row k lk) e)
          (sym (lies_column s w (u j)) ∙ ap (lies_at s) (same_column s w (i j) (column_of s (u j)) (i k) (column_of s (u k)) (h.in_row j lj) (h.in_row k lk) e) ∙ lies_column s w (u k));
    }

    small : (k : ℕ) → k < line_count l → line_cell l k ≤ 1024
    small k lk = omega (arith, at_callers k lk, callers_inside s w (cell k) (inside k lk) (there k lk), existing_high s w, cells_high s w)

    pub goes_covers : 1 ≤ l.count → line_count l ≤ 31 → l.step ≤ 1024 → l.second ≤ 1024 → Covers s test l
    unfolding walked
    goes_covers some few step second = record {
      short = record { few = few; first = omega (arith, walked_small 0 some); step = step; second = second; extra = extra_small; at = walked_small };
      cell = cell;
      inside = inside;
      there = there;
      at = at_callers;
      passes = λ k lk. and_left (test (cell k)) (cell_there s (cell k)) (lists.passes k lk);
      sum = λ f blank. sum_there f blank ∙ xors_listed (cells s) passes_there (line_count l) cell lists f;
    }
      where
        walked_small : (k : ℕ) → k < l.count → walked l k ≤ 1024
        walked_small k lk = omega (arith, cell_walked l k lk, small k (omega (arith, count_most l)))

        extra_small : unwrap_or l.extra 0 ≤ 1024
        extra_small = by_extra l (λ e. rw e (omega arith)) (λ x e. omega (arith, cell_extra l l.count (omega arith), small l.count (omega (arith, count_extra l x e))))
