-- The lines of H-Code, X-Code and EVENODD, of which every column exists.
use mathlib.Core.Path.{◌≡◌, refl, sym, ap, ap₂, ◌∙◌}
use mathlib.Core.Logic.{◌≢◌}
use mathlib.Core.Bool.{Bool, true, false, cond, not, ◌&&◌, ◌||◌}
use Prim.Native.Nat.{ℕ, suc, ◌+◌, ◌-◌, ◌*◌, ◌/◌, ◌%◌, ◌≤◌, ◌<◌}
use native.Mathlib.Nat.{mod-lt, mod-eq_of_lt, mod-add-mod, add-mod_right, mul-le-mul, add-mul, one-mul, zero-mul}
use native.Mathlib.Omega.{arith}
use lib.Dec.{eqb, leb, ltb}
use borrow.Author.Tests.{lt-ltb, le-ltb, le-leb, eq-eqb, ne_eqb, ltb-true, eqb-true, eqb-false, not-true}
use Rattle.std.specs.declared.option.Option.TheVariants.{None}
use Rattle.xor.proofs.Cases.{by_less, and_left, and_right, and_both}
use Rattle.codes.specs.declared.Shape.{Shape}
use Rattle.codes.specs.declared.Line.{Line}
use Rattle.codes.specs.Shape.{rows, columns, equations, cell_number, missing, WellFormed}
use Rattle.codes.specs.Geometry.{callers_cell}
use Rattle.codes.specs.Equations.{Equation, hcode_row, hcode_anti_diagonal, evenodd_row, evenodd_s, evenodd_diagonal, equation}
use Rattle.codes.specs.Encoded.{parity_cell, sums_cell}
use Rattle.codes.specs.Lines.{line_count, shares, shares_cell, takes_shared, own_cell, Covers}
use Rattle.codes.proofs.Shapes.{low, high, small_equations, missing_other, disks_is}
use Rattle.codes.proofs.Residues.{wrapped, shift_once}
use Rattle.codes.proofs.Lines.{hcode_rows, hcode_columns, hcode_n, hcode_row_is, xcode_rows, xcode_columns, xcode_n, xcode_first_is, xcode_second_is, evenodd_rows, evenodd_columns, evenodd_n, evenodd_row_is, evenodd_diagonal_is}
use Rattle.codes.proofs.Positions.{row_is, column_is, families, sums_of, hcode_first, hcode_second, xcode_first_at, xcode_second_at, evenodd_first, evenodd_second, s_test}
use Rattle.codes.proofs.Geometry.{lies_all, column_all, callers_at}
use Rattle.codes.proofs.Stepping.{walk_is, count_plain, cell_walked, goes_covers}
use Rattle.codes.proofs.Shared.{none_takes, row_takes, plain_walks}

-- a row counted from the last but two
lifted : (p c k : ℕ) → k < p - 2 → c + 1 + k ≡ p + c - (p - 3 - k) - 2
lifted p c k l = omega arith

one_up : (p k step : ℕ) → suc k < p - 2 → step ≡ p - 1 → p - 3 - suc k + p ≡ p - 3 - k + step
one_up p k step l e = omega arith

lowered : (p k : ℕ) → k < p - 2 → p - 3 - (p - 3 - k) ≡ k
lowered p k l = omega arith

module _ (s : Shape) (w : WellFormed s) where
  -- as many cells as so many columns have
  pub small_columns : (a n : ℕ) → a ≤ 32 → n ≤ s.p → a * n ≤ 992
  small_columns a n la ln = mul-le-mul la (let few : n ≤ 31 = omega (arith, high s w) in few)

  module _ (other : s.code ≢ 1) where
    full : missing s ≡ 0
    full = missing_other s w other

    -- the number of a parity cell
    pub whole_at : (q i j n : ℕ) → n ≡ rows s → i < rows s → parity_cell s q ≡ cell_number s i j → j * n + i ≡ callers_cell s (parity_cell s q)
    unfolding cell_number
    whole_at q i j n height li at =
        ap₂ (λ (x y : ℕ). x * y + i) (sym (lies_all s full j)) height ∙ sym (callers_at s w i j li) ∙ ap (callers_cell s) (sym at)

    -- a line that is in row i k of column u k at cell k, once in each cell that passes the test, covers them
    module _ (test : ℕ → Bool) (sums : ℕ → ℕ → Bool) (is : (x y : ℕ) → x < rows s → y < columns s → test (cell_number s x y) ≡ sums x y) (l : Line) (extra : l.extra ≡ None) (u i : ℕ → ℕ) where
      pub whole_covers : ((k : ℕ) → k < l.count → (i k < rows s) × (u k < columns s) × (sums (i k) (u k) ≡ true))
          → ((x y : ℕ) → x < rows s → y < columns s → sums x y ≡ true → (k : ℕ) × (k < l.count) × (i k ≡ x) × (u k ≡ y))
          → ((j k : ℕ) → j < l.count → k < l.count → i j ≡ i k → u j ≡ u k → j ≡ k)
          → l.first ≡ u 0 * rows s + i 0 → ((k : ℕ) → suc k < l.count → suc k ≡ l.turn → l.second ≡ u (suc k) * rows s + i (suc k))
          → ((k : ℕ) → suc k < l.count → suc k ≢ l.turn → (u (suc k) ≡ u k + 1) × (i (suc k) + rows s ≡ i k + l.step))
          → 1 ≤ l.count → l.count ≤ 31 → l.step ≤ 1024 → l.second ≤ 1024 → Covers s test l
      whole_covers on every once first turned next some few step second =
          goes_covers s w test l u i
          (record {
            in_row = λ k lk. (on k (omega (arith, many))).0;
            in_place = λ k lk. omega (arith, (on k (omega (arith, many))).1, disks_is s w, full);
            passes = λ k lk. let here = on k (omega (arith, many)) in ap (λ (j : ℕ). test (cell_number s (i k) j)) (column_all s full (u k)) ∙ is (i k) (u k) here.0 here.1 ∙ here.2;
            all = λ x y lx ly here p. let found = every x y lx ly (sym (is x y lx ly) ∙ p) in (found.0, omega (arith, many, found.1), found.2, found.3 ∙ sym (lies_all s full y));
            once = λ j k lj lk. once j k (omega (arith, many)) (omega (arith, many));
            at = λ k lk. let lk' : k < l.count = omega (arith, many) in cell_walked l k lk' ∙ walk_is l (rows s) u i first turned next k lk';
          })
          some (omega (arith, many)) step second
        where
          many : line_count l ≡ l.count
          many = count_plain l extra

    -- and walks its equation, where that takes in nothing
    module _ (q : ℕ) (e : Equation) (is : equation s q ≡ e) (plain : takes_shared s q ≡ false) (l : Line) (extra : l.extra ≡ None) (u i : ℕ → ℕ) where
      pub whole_walks : ((k : ℕ) → k < l.count → (i k < rows s) × (u k < columns s) × (e.sums (i k) (u k) ≡ true))
          → ((x y : ℕ) → x < rows s → y < columns s → e.sums x y ≡ true → (k : ℕ) × (k < l.count) × (i k ≡ x) × (u k ≡ y))
          → ((j k : ℕ) → j < l.count → k < l.count → i j ≡ i k → u j ≡ u k → j ≡ k)
          → l.first ≡ u 0 * rows s + i 0 → ((k : ℕ) → suc k < l.count → suc k ≡ l.turn → l.second ≡ u (suc k) * rows s + i (suc k))
          → ((k : ℕ) → suc k < l.count → suc k ≢ l.turn → (u (suc k) ≡ u k + 1) × (i (suc k) + rows s ≡ i k + l.step))
          → 1 ≤ l.count → l.count ≤ 31 → l.step ≤ 1024 → l.second ≤ 1024 → Covers s (own_cell s q) l
      whole_walks on every once first turned next some few step second =
          plain_walks s q l plain (whole_covers (sums_cell s q) e.sums (λ x y lx ly. sums_of s w q e is x y lx) l extra u i on every once first turned next some few step second)

  -- ---- H-Code: column k, or k + 1 past column r

  skip : ℕ → ℕ → ℕ
  skip r k = cond (ltb k (r + 1)) k (k + 1)

  before : (r k : ℕ) → k < r + 1 → skip r k ≡ k
  unfolding skip
  before r k a = rw (lt-ltb k (r + 1) a) refl

  behind : (r k : ℕ) → r + 1 ≤ k → skip r k ≡ k + 1
  unfolding skip
  behind r k a = rw (le-ltb k (r + 1) a) refl

  -- it never is column r + 1, and each other one is met once
  misses : (r k : ℕ) → skip r k ≢ r + 1
  misses r k e = by_less k (r + 1) (λ a. omega (arith, before r k a)) (λ a. omega (arith, behind r k a))

  meets : (r y : ℕ) → y ≢ r + 1 → (k : ℕ) × (k ≤ y) × (y ≤ k + 1) × (skip r k ≡ y)
  meets r y other = by_less y (r + 1) (λ a. (y, omega arith, omega arith, before r y a)) (λ a. (y - 1, omega arith, omega arith, behind r (y - 1) (omega arith) ∙ (let z : y - 1 + 1 ≡ y = omega arith in z)))

  alone : (r j k : ℕ) → skip r j ≡ skip r k → j ≡ k
  alone r j k e =
      by_less j (r + 1)
      (λ a. by_less k (r + 1) (λ b. sym (before r j a) ∙ e ∙ before r k b) (λ b. absurd (omega (arith, before r j a, behind r k b))))
      (λ a. by_less k (r + 1) (λ b. absurd (omega (arith, behind r j a, before r k b))) (λ b. omega (arith, behind r j a, behind r k b)))

  onward : (r k : ℕ) → suc k ≢ r + 1 → skip r (suc k) ≡ skip r k + 1
  onward r k e = by_less (suc k) (r + 1) (λ a. omega (arith, before r (suc k) a, before r k (omega arith))) (λ a. omega (arith, behind r (suc k) a, behind r k (omega arith)))

  below_p : (r k : ℕ) → k < s.p - 1 → skip r k < s.p
  below_p r k lk = by_less k (r + 1) (λ a. omega (arith, before r k a)) (λ a. omega (arith, behind r k a))

  module _ (is-hcode : s.code ≡ 2) where
    pub not_rdp_lem : s.code ≢ 1
    not_rdp_lem e = omega arith

    tall : s.p - 1 ≡ rows s
    tall = hcode_rows s w is-hcode

    -- where parity cells lie
    pub hcode_row_lies : (q : ℕ) → q < s.p - 1 → s.p * (s.p - 1) + q ≡ callers_cell s (parity_cell s q)
    hcode_row_lies q lq = whole_at not_rdp_lem q q s.p (s.p - 1) tall (omega (arith, tall)) (hcode_first s w is-hcode q lq)

    pub hcode_anti_lies : (q : ℕ) → s.p - 1 ≤ q → q < equations s → (q - (s.p - 1) + 1) * (s.p - 1) + (q - (s.p - 1)) ≡ callers_cell s (parity_cell s q)
    hcode_anti_lies q lo hi =
        whole_at not_rdp_lem q (q - (s.p - 1)) (q - (s.p - 1) + 1) (s.p - 1) tall (omega (arith, tall, rest)) (ap (parity_cell s) (let same : q ≡ s.p - 1 + (q - (s.p - 1)) = omega arith in same) ∙ hcode_second s w is-hcode (q - (s.p - 1)) rest)
      where
        rest : q - (s.p - 1) < s.p - 1
        rest = omega (arith, hcode_n s w is-hcode)

    pub hcode_row_walks : (q : ℕ) → q < s.p - 1 → (l : Line) → l.count ≡ s.p - 1 → l.first ≡ q → l.step ≡ s.p - 1 → l.turn ≡ q + 1 → l.second ≡ (q + 2) * (s.p - 1) + q → l.extra ≡ None → Covers s (own_cell s q) l
    hcode_row_walks q lq l count first step turn second extra =
        whole_walks not_rdp_lem q (hcode_row s.p q) (hcode_row_is s w is-hcode q lq) (none_takes s (λ e. omega arith) q) l extra (skip q) (λ k. q)
        (λ k lk. (
          omega (arith, tall),
          omega (arith, below_p q k (omega arith), hcode_columns s w is-hcode),
          and_both (eq-eqb q q refl) (and_both (lt-ltb (skip q k) s.p (below_p q k (omega arith))) (ap not (ne_eqb (skip q k) (q + 1) (misses q k)))),
        ))
        (λ x y lx ly p.
        let rest = and_right (eqb x q) (ltb y s.p && not (eqb y (q + 1))) p in
        let ly' : y < s.p = ltb-true y s.p (and_left (ltb y s.p) (not (eqb y (q + 1))) rest) in
        let other : y ≢ q + 1 = eqb-false y (q + 1) (not-true (eqb y (q + 1)) (and_right (ltb y s.p) (not (eqb y (q + 1))) rest)) in
        let found = meets q y other in
        (found.0, ends q found.0 found.1 found.3 ly' lq count, sym (eqb-true x q (and_left (eqb x q) (ltb y s.p && not (eqb y (q + 1))) p)), found.3))
        (λ j k lj lk a b. alone q j k b)
        (first ∙ (let z : q ≡ 0 * rows s + q = omega (arith, zero-mul (rows s)) in z) ∙ ap (λ (x : ℕ). x * rows s + q) (sym (before q 0 (omega arith))))
        (λ k lk e. second ∙ ap₂ (λ (x y : ℕ). x * y + q) (let z : q + 2 ≡ suc k + 1 = omega arith in z) tall ∙ ap (λ (x : ℕ). x * rows s + q) (sym (behind q (suc k) (omega arith))))
        (λ k lk e. (onward q k (λ z. e (omega arith)), omega (arith, tall)))
        (omega (arith, low s w)) (omega (arith, high s w)) (omega (arith, high s w)) (omega (arith, small_columns (q + 2) (s.p - 1) (omega (arith, high s w)) (omega arith), high s w))
      where
        ends : (r k : ℕ) {y : ℕ} → k ≤ y → skip r k ≡ y → y < s.p → r < s.p - 1 → l.count ≡ s.p - 1 → k < l.count
        ends r k ky e ly lr c = by_less k (r + 1) (λ a. omega (arith, before r k a)) (λ a. omega (arith, behind r k a))

    -- row of cell k of anti-diagonal r
    row : ℕ → ℕ → ℕ
    row r k = cond (ltb k (r + 1)) (s.p - 1 - 1 - r + k) (k - (r + 1))

    row_before : (r k : ℕ) → k < r + 1 → row r k ≡ s.p - 1 - 1 - r + k
    unfolding row
    row_before r k a = rw (lt-ltb k (r + 1) a) refl

    row_behind : (r k : ℕ) → r + 1 ≤ k → row r k ≡ k - (r + 1)
    unfolding row
    row_behind r k a = rw (le-ltb k (r + 1) a) refl

    module _ (r : ℕ) (lr : r < s.p - 1) where
      -- the row in which the anti-diagonal meets a column
      meets_in : (k : ℕ) → k < s.p - 1 → row r k ≡ (s.p - 2 - r + skip r k) % s.p
      meets_in k lk =
          by_less k (r + 1)
          (λ a. row_before r k a ∙ (let z : s.p - 1 - 1 - r + k ≡ s.p - 2 - r + k = omega arith in z) ∙ sym (ap (λ (x : ℕ). (s.p - 2 - r + x) % s.p) (before r k a) ∙ mod-eq_of_lt (omega arith)))
          (λ a. row_behind r k a ∙ (let z : k - (r + 1) ≡ s.p - 2 - r + (k + 1) - s.p = omega arith in z)
          ∙ wrapped s.p (s.p - 2 - r + (k + 1)) (omega arith) (omega arith) ∙ ap (λ (x : ℕ). (s.p - 2 - r + x) % s.p) (sym (behind r k a)))

      row_low : (k : ℕ) → k < s.p - 1 → row r k < s.p - 1
      row_low k lk = by_less k (r + 1) (λ a. omega (arith, row_before r k a)) (λ a. omega (arith, row_behind r k a))

      pub hcode_anti_walks : (q : ℕ) → equation s q ≡ hcode_anti_diagonal s.p r → (l : Line) → l.count ≡ s.p - 1 → l.first ≡ s.p - 1 - 1 - r → l.step ≡ s.p - 1 + 1 → l.turn ≡ r + 1
          → l.second ≡ (r + 2) * (s.p - 1) → l.extra ≡ None → Covers s (own_cell s q) l
      hcode_anti_walks q is l count first step turn second extra =
          whole_walks not_rdp_lem q (hcode_anti_diagonal s.p r) is (none_takes s (λ e. omega arith) q) l extra (skip r) (row r)
          (λ k lk. (
            omega (arith, row_low k (omega arith), tall),
            omega (arith, below_p r k (omega arith), hcode_columns s w is-hcode),
            and_both (lt-ltb (skip r k) s.p (below_p r k (omega arith))) (and_both (ap not (ne_eqb (skip r k) (r + 1) (misses r k))) (eq-eqb (row r k) ((s.p - 2 - r + skip r k) % s.p) (meets_in k (omega arith)))),
          ))
          (λ x y lx ly p.
          let rest = and_right (ltb y s.p) (not (eqb y (r + 1)) && eqb x ((s.p - 2 - r + y) % s.p)) p in
          let ly' : y < s.p = ltb-true y s.p (and_left (ltb y s.p) (not (eqb y (r + 1)) && eqb x ((s.p - 2 - r + y) % s.p)) p) in
          let other : y ≢ r + 1 = eqb-false y (r + 1) (not-true (eqb y (r + 1)) (and_left (not (eqb y (r + 1))) (eqb x ((s.p - 2 - r + y) % s.p)) rest)) in
          let found = meets r y other in
          let lk : found.0 < s.p - 1 = ends found.0 found.1 found.3 ly' in
          (found.0, omega arith, meets_in found.0 lk ∙ ap (λ (j : ℕ). (s.p - 2 - r + j) % s.p) found.3 ∙ sym (eqb-true x ((s.p - 2 - r + y) % s.p) (and_right (not (eqb y (r + 1))) (eqb x ((s.p - 2 - r + y) % s.p)) rest)), found.3))
          (λ j k lj lk a b. alone r j k b)
          (first ∙ (let z : s.p - 1 - 1 - r ≡ 0 * rows s + (s.p - 1 - 1 - r + 0) = omega (arith, zero-mul (rows s)) in z) ∙ sym (ap₂ (λ (x y : ℕ). x * rows s + y) (before r 0 (omega arith)) (row_before r 0 (omega arith))))
          (λ k lk e. second ∙ (let z : (r + 2) * (s.p - 1) ≡ (r + 2) * (s.p - 1) + 0 = omega arith in z) ∙ ap₂ (λ (x y : ℕ). x * y + 0) (let z : r + 2 ≡ suc k + 1 = omega arith in z) tall
          ∙ sym (ap₂ (λ (x y : ℕ). x * rows s + y) (behind r (suc k) (omega arith)) (row_behind r (suc k) (omega arith) ∙ (let z : suc k - (r + 1) ≡ 0 = omega arith in z))))
          (λ k lk e. (
            onward r k (λ z. e (omega arith)),
            by_less (suc k) (r + 1)
                (λ a. omega (arith, row_before r (suc k) a, row_before r k (omega arith), tall))
                (λ a. omega (arith, row_behind r (suc k) a, row_behind r k (omega arith), tall)),
          ))
          (omega (arith, low s w)) (omega (arith, high s w)) (omega (arith, high s w)) (omega (arith, small_columns (r + 2) (s.p - 1) (omega (arith, high s w)) (omega arith)))
        where
          ends : (k : ℕ) {y : ℕ} → k ≤ y → skip r k ≡ y → y < s.p → k < s.p - 1
          ends k ky e ly = by_less k (r + 1) (λ a. omega (arith, before r k a)) (λ a. omega (arith, behind r k a))

  below_mod : (x : ℕ) → x % s.p < s.p
  below_mod x = mod-lt x (omega (arith, low s w))

  -- ---- X-Code: columns from one on, round after the last

  around : ℕ → ℕ → ℕ
  around c k = cond (ltb k (s.p - c)) (c + k) (k - (s.p - c))

  near : (c k : ℕ) → k < s.p - c → around c k ≡ c + k
  unfolding around
  near c k a = rw (lt-ltb k (s.p - c) a) refl

  far : (c k : ℕ) → s.p - c ≤ k → around c k ≡ k - (s.p - c)
  unfolding around
  far c k a = rw (le-ltb k (s.p - c) a) refl

  around_is : (c k : ℕ) → c < s.p → k < s.p → around c k ≡ (c + k) % s.p
  around_is c k lc lk =
      by_less k (s.p - c) (λ a. near c k a ∙ sym (mod-eq_of_lt (omega arith)))
      (λ a. far c k a ∙ (let z : k - (s.p - c) ≡ c + k - s.p = omega arith in z) ∙ wrapped s.p (c + k) (omega arith) (omega arith))

  module _ (is-xcode : s.code ≡ 3) where
    pub not_rdp' : s.code ≢ 1
    not_rdp' e = omega arith

    square : s.p ≡ rows s
    square = xcode_rows s w is-xcode

    -- where parity cells lie
    pub xcode_first_lies : (q : ℕ) → q < s.p → q * s.p + (s.p - 2) ≡ callers_cell s (parity_cell s q)
    xcode_first_lies q lq = whole_at not_rdp' q (s.p - 2) q s.p square (omega (arith, low s w, square)) (xcode_first_at s w is-xcode q lq)

    pub xcode_second_lies : (q : ℕ) → s.p ≤ q → q < equations s → (q - s.p) * s.p + (s.p - 1) ≡ callers_cell s (parity_cell s q)
    xcode_second_lies q lo hi =
        whole_at not_rdp' q (s.p - 1) (q - s.p) s.p square (omega (arith, low s w, square)) (ap (parity_cell s) (let same : q ≡ s.p + (q - s.p) = omega arith in same) ∙ xcode_second_at s w is-xcode (q - s.p) (omega (arith, xcode_n s w is-xcode)))

    -- a family whose line is in row i k at cell k, which is one row of each below p - 2
    module _ (q row c : ℕ) (at : ℕ → ℕ) (is : equation s q ≡ record { row = row; column = c; sums = λ x y. ltb x (s.p - 2) && eqb y (at x) }) (l : Line) (count : l.count ≡ s.p - 2)
        (column : ℕ) (lc : column < s.p) (turn : l.turn ≡ s.p - column) (extra : l.extra ≡ None) (i : ℕ → ℕ) (low-i : (k : ℕ) → k < s.p - 2 → i k < s.p - 2) (back : (k : ℕ) → k < s.p - 2 → i (i k) ≡ k)
        (goes : (k : ℕ) → k < s.p - 2 → (column + k) % s.p ≡ at (i k)) where
      family : l.first ≡ column * s.p + i 0 → ((k : ℕ) → suc k < s.p - 2 → suc k ≡ l.turn → l.second ≡ i (suc k)) → ((k : ℕ) → suc k < s.p - 2 → i (suc k) + s.p ≡ i k + l.step)
          → l.step ≤ 1024 → l.second ≤ 1024 → Covers s (own_cell s q) l
      family first second next step small =
          whole_walks not_rdp' q (record { row = row; column = c; sums = λ x y. ltb x (s.p - 2) && eqb y (at x) }) is (none_takes s (λ e. omega arith) q) l extra (around column) i
          (λ k lk. let lk' : k < s.p - 2 = omega arith in
          (omega (arith, low-i k lk', square), omega (arith, around_is column k lc (omega arith), below_mod (column + k), xcode_columns s w is-xcode), and_both (lt-ltb (i k) (s.p - 2) (low-i k lk')) (eq-eqb (around column k) (at (i k)) (around_is column k lc (omega arith) ∙ goes k lk'))))
          (λ x y lx ly p.
          let lx' : x < s.p - 2 = ltb-true x (s.p - 2) (and_left (ltb x (s.p - 2)) (eqb y (at x)) p) in
          (i x, omega (arith, low-i x lx'), back x lx', around_is column (i x) lc (omega (arith, low-i x lx')) ∙ goes (i x) (low-i x lx') ∙ ap at (back x lx') ∙ sym (eqb-true y (at x) (and_right (ltb x (s.p - 2)) (eqb y (at x)) p))))
          (λ j k lj lk a b. sym (back j (omega arith)) ∙ ap i a ∙ back k (omega arith))
          (first ∙ ap₂ (λ (x y : ℕ). x * y + i 0) (sym (near column 0 (omega arith) ∙ (let z : column + 0 ≡ column = omega arith in z))) square)
          (λ k lk e. second k (omega arith) e ∙ (let z : i (suc k) ≡ 0 * rows s + i (suc k) = omega (arith, zero-mul (rows s)) in z) ∙ ap (λ (x : ℕ). x * rows s + i (suc k)) (sym (far column (suc k) (omega arith) ∙ (let z : suc k - (s.p - column) ≡ 0 = omega arith in z))))
          (λ k lk e. (by_less (suc k) (s.p - column) (λ a. omega (arith, near column (suc k) a, near column k (omega arith))) (λ a. omega (arith, far column (suc k) a, far column k (omega arith))), omega (arith, next k (omega arith), square)))
          (omega (arith, low s w)) (omega (arith, high s w)) step small

    pub xcode_first_walks : (q column : ℕ) → q < s.p → column ≡ (q + 2) % s.p → (l : Line) → l.count ≡ s.p - 2 → l.first ≡ column * s.p → l.step ≡ s.p + 1 → l.turn ≡ s.p - column → l.second ≡ s.p - column → l.extra ≡ None → Covers s (own_cell s q) l
    xcode_first_walks q column lq starts l count first step turn second extra =
        family q (s.p - 2) q (λ k. (q + k + 2) % s.p) (xcode_first_is s w is-xcode q lq) l count column below turn extra (λ k. k) (λ k lk. lk) (λ k lk. refl)
        (λ k lk. ap (λ (x : ℕ). (x + k) % s.p) starts ∙ mod-add-mod (q + 2) s.p k ∙ ap (λ (x : ℕ). x % s.p) (let z : q + 2 + k ≡ q + k + 2 = omega arith in z))
        (first ∙ (let z : column * s.p ≡ column * s.p + 0 = omega arith in z)) (λ k lk e. second ∙ sym turn ∙ sym e) (λ k lk. omega arith) (omega (arith, high s w)) (omega (arith, high s w))
      where
        below : column < s.p
        below = omega (arith, starts, below_mod (q + 2))

    pub xcode_second_walks : (q column : ℕ) → s.p ≤ q → q < equations s → column ≡ (q - s.p + 1) % s.p → (l : Line) → l.count ≡ s.p - 2 → l.first ≡ column * s.p + (s.p - 3) → l.step ≡ s.p - 1
        → l.turn ≡ s.p - column → l.second ≡ column - 3 → l.extra ≡ None → Covers s (own_cell s q) l
    xcode_second_walks q column lo hi starts l count first step turn second extra =
        family q (s.p - 1) (q - s.p) (λ k. (s.p + (q - s.p) - k - 2) % s.p) (xcode_second_is s w is-xcode q lo) l count column below turn extra (λ k. s.p - 3 - k) (λ k lk. omega (arith, low s w)) (λ k lk. twice k lk)
        (λ k lk. ap (λ (x : ℕ). (x + k) % s.p) starts ∙ mod-add-mod (q - s.p + 1) s.p k ∙ ap (λ (x : ℕ). x % s.p) (up k lk))
        (first ∙ ap (λ (x : ℕ). column * s.p + x) (let z : s.p - 3 ≡ s.p - 3 - 0 = omega arith in z)) (λ k lk e. second ∙ (let z : column - 3 ≡ s.p - 3 - suc k = omega (arith, turn) in z)) (λ k lk. one_up s.p k l.step lk step) (omega (arith, high s w)) (omega (arith, below, high s w))
      where
        below : column < s.p
        below = omega (arith, starts, below_mod (q - s.p + 1))

        twice : (k : ℕ) → k < s.p - 2 → s.p - 3 - (s.p - 3 - k) ≡ k
        twice k lk = lowered s.p k lk

        up : (k : ℕ) → k < s.p - 2 → q - s.p + 1 + k ≡ s.p + (q - s.p) - (s.p - 3 - k) - 2
        up k lk = lifted s.p (q - s.p) k lk

  -- ---- EVENODD

  module _ (is-evenodd : s.code ≡ 4) where
    pub not_rdp'' : s.code ≢ 1
    not_rdp'' e = omega arith

    level : s.p - 1 ≡ rows s
    level = evenodd_rows s w is-evenodd

    -- the numbers of a line are small
    pub evenodd_small : (q : ℕ) → q < equations s → s.p * (s.p - 1) + q ≤ 1054
    evenodd_small q lq = omega (arith, small_columns s.p (s.p - 1) (omega (arith, high s w)) (omega arith), small_equations s w)

    pub evenodd_second_small : (d : ℕ) → d < s.p - 1 → (d + 2) * (s.p - 1) + (s.p - 1 - 1) ≤ 1024
    evenodd_second_small d ld = omega (arith, small_columns (d + 2) (s.p - 1) (omega (arith, high s w)) (omega arith), high s w)

    -- where parity cells lie
    pub evenodd_lies : (q : ℕ) → q < equations s → s.p * (s.p - 1) + q ≡ callers_cell s (parity_cell s q)
    evenodd_lies q lq =
        families (λ r. s.p * (s.p - 1) + r ≡ callers_cell s (parity_cell s r)) (s.p - 1)
        (λ r l. whole_at not_rdp'' r r s.p (s.p - 1) level (omega (arith, level)) (evenodd_first s w is-evenodd r l))
        (λ d l. (let z : s.p * (s.p - 1) + (s.p - 1 + d) ≡ (s.p + 1) * (s.p - 1) + d = omega (arith, add-mul s.p 1 (s.p - 1), one-mul (s.p - 1)) in z)
        ∙ whole_at not_rdp'' (s.p - 1 + d) d (s.p + 1) (s.p - 1) level (omega (arith, level)) (evenodd_second s w is-evenodd d))
        q (omega (arith, evenodd_n s w is-evenodd))

    pub evenodd_row_walks : (q : ℕ) → q < s.p - 1 → (l : Line) → l.count ≡ s.p → l.first ≡ q → l.step ≡ s.p - 1 → l.turn ≡ 0 → l.second ≡ 0 → l.extra ≡ None → Covers s (own_cell s q) l
    evenodd_row_walks q lq l count first step turn second extra =
        whole_walks not_rdp'' q (evenodd_row s.p q) (evenodd_row_is s w is-evenodd q lq) (row_takes s q (omega (arith, level))) l extra (λ k. k) (λ k. q)
        (λ k lk. (omega (arith, level), omega (arith, evenodd_columns s w is-evenodd), and_both (eq-eqb q q refl) (lt-ltb k s.p (omega arith))))
        (λ x y lx ly p. let ly' : y < s.p = ltb-true y s.p (and_right (eqb x q) (ltb y s.p) p) in (y, omega arith, sym (eqb-true x q (and_left (eqb x q) (ltb y s.p) p)), refl))
        (λ j k lj lk a b. b)
        (first ∙ (let z : q ≡ 0 * rows s + q = omega (arith, zero-mul (rows s)) in z)) (λ k lk e. absurd (omega arith)) (λ k lk e. (omega arith, omega (arith, level)))
        (omega (arith, low s w)) (omega (arith, high s w)) (omega (arith, high s w)) (omega arith)

    -- the row in which diagonal d, or that of S, meets the column of cell k
    up : ℕ → ℕ → ℕ
    up d k = cond (ltb k (d + 1)) (d - k) (s.p - 1 + d - k)

    up_before : (d k : ℕ) → k < d + 1 → up d k ≡ d - k
    unfolding up
    up_before d k a = rw (lt-ltb k (d + 1) a) refl

    up_behind : (d k : ℕ) → d + 1 ≤ k → up d k ≡ s.p - 1 + d - k
    unfolding up
    up_behind d k a = rw (le-ltb k (d + 1) a) refl

    module _ (d : ℕ) (ld : d < s.p - 1) where
      up_low : (k : ℕ) → k < s.p - 1 → up d k < s.p - 1
      up_low k lk = by_less k (d + 1) (λ a. omega (arith, up_before d k a)) (λ a. omega (arith, up_behind d k a))

      up_on : (k : ℕ) → k < s.p - 1 → (up d k + skip d k) % s.p ≡ d
      up_on k lk =
          by_less k (d + 1)
          (λ a. ap (λ (x : ℕ). x % s.p) (let z : up d k + skip d k ≡ d = omega (arith, up_before d k a, before d k a) in z) ∙ mod-eq_of_lt (omega arith))
          (λ a. ap (λ (x : ℕ). x % s.p) (let z : up d k + skip d k ≡ d + s.p = omega (arith, up_behind d k a, behind d k a) in z) ∙ add-mod_right d s.p ∙ mod-eq_of_lt (omega arith))

      -- a cell of the diagonal is where the line meets its column
      meets_up : (x y k : ℕ) → x < s.p - 1 → y < s.p → (x + y) % s.p ≡ d → skip d k ≡ y → k < s.p - 1 → up d k ≡ x
      meets_up x y k lx ly on e lk = let z = up_low k lk in shift_once s.p (up d k) x y (omega arith) (omega arith) (ap (λ (n : ℕ). (up d k + n) % s.p) (sym e) ∙ up_on k lk ∙ sym on)

      -- it would meet column d + 1 in row p - 1
      misses_up : (x y : ℕ) → x < s.p - 1 → (x + y) % s.p ≡ d → y ≢ d + 1
      misses_up x y lx on e =
          let same : x + 1 ≡ 0 = shift_once s.p (x + 1) 0 d (omega arith) (omega arith) (ap (λ (n : ℕ). n % s.p) around ∙ on ∙ sym (ap (λ (n : ℕ). n % s.p) none ∙ mod-eq_of_lt (omega arith))) in
          omega arith
        where
          around : x + 1 + d ≡ x + y
          around = omega arith

          none : 0 + d ≡ d
          none = omega arith

      -- of the cells that the equation sums its own are those on the diagonal
      own_is : (q : ℕ) → s.p - 1 ≤ q → q - (s.p - 1) ≡ d → (x y : ℕ) → x < rows s → y < columns s → own_cell s q (cell_number s x y) ≡ (ltb y s.p && eqb ((x + y) % s.p) d)
      unfolding own_cell takes_shared shares_cell shares
      own_is q past known x y lx ly =
          ap₂ (λ (a b : Bool). a && not b) (sums_of s w q (evenodd_diagonal s.p d) (evenodd_diagonal_is s w is-evenodd q past ∙ ap (evenodd_diagonal s.p) known) x y lx) taken
          ∙ apart (evenodd_s s.p x y) (ltb y s.p && eqb ((x + y) % s.p) d)
          (λ h k. let ly' = ltb-true y s.p (and_left (ltb y s.p) (eqb ((x + y) % s.p) d) k) in
          let at = eqb-true (x + y) (s.p - 1) (sym (s_test s w is-evenodd x y (omega (arith, level)) ly') ∙ h) in
          let on = eqb-true ((x + y) % s.p) d (and_right (ltb y s.p) (eqb ((x + y) % s.p) d) k) in
          let small : (x + y) % s.p ≡ x + y = mod-eq_of_lt (omega (arith, low s w)) in omega arith)
        where
          taken : ((eqb s.code 4 && leb (rows s) q) && (eqb s.code 4 && evenodd_s s.p (cell_number s x y % rows s) (cell_number s x y / rows s))) ≡ evenodd_s s.p x y
          taken = rw (eq-eqb s.code 4 is-evenodd, le-leb (rows s) q (omega (arith, level)), row_is s w x y lx, column_is s w x y lx) refl

          apart : (a b : Bool) → (a ≡ true → b ≡ true → ⊥) → ((a || b) && not a) ≡ b
          apart true true n = absurd (n refl refl)
          apart true false n = refl
          apart false true n = refl
          apart false false n = refl

      pub evenodd_diagonal_walks : (q : ℕ) → s.p - 1 ≤ q → q - (s.p - 1) ≡ d → (l : Line) → l.count ≡ s.p - 1 → l.first ≡ d → l.step ≡ s.p - 1 - 1 → l.turn ≡ d + 1
          → l.second ≡ (d + 2) * (s.p - 1) + (s.p - 1 - 1) → l.extra ≡ None → Covers s (own_cell s q) l
      evenodd_diagonal_walks q far known l count first step turn second extra =
          whole_covers not_rdp'' (own_cell s q) (λ x y. ltb y s.p && eqb ((x + y) % s.p) d) (own_is q far known) l extra (skip d) (up d)
          (λ k lk. (
            omega (arith, up_low k (omega arith), level),
            omega (arith, below_p d k (omega arith), evenodd_columns s w is-evenodd),
            and_both (lt-ltb (skip d k) s.p (below_p d k (omega arith))) (eq-eqb ((up d k + skip d k) % s.p) d (up_on k (omega arith))),
          ))
          (λ x y lx ly p.
          let ly' : y < s.p = ltb-true y s.p (and_left (ltb y s.p) (eqb ((x + y) % s.p) d) p) in
          let on : (x + y) % s.p ≡ d = eqb-true ((x + y) % s.p) d (and_right (ltb y s.p) (eqb ((x + y) % s.p) d) p) in
          let found = meets d y (misses_up x y (omega (arith, level)) on) in
          let lk : found.0 < s.p - 1 = ends found.0 found.1 found.3 ly' in
          (found.0, omega arith, meets_up x y found.0 (omega (arith, level)) ly' on found.3 lk, found.3))
          (λ j k lj lk a b. alone d j k b)
          (first ∙ (let z : d ≡ 0 * rows s + d = omega (arith, zero-mul (rows s)) in z) ∙ sym (ap₂ (λ (x y : ℕ). x * rows s + y) (before d 0 (omega arith)) (up_before d 0 (omega arith) ∙ (let z : d - 0 ≡ d = omega arith in z))))
          (λ k lk e. second ∙ ap₂ (λ (x y : ℕ). x * y + (s.p - 1 - 1)) (let z : d + 2 ≡ suc k + 1 = omega arith in z) level
          ∙ sym (ap₂ (λ (x y : ℕ). x * rows s + y) (behind d (suc k) (omega arith)) (up_behind d (suc k) (omega arith) ∙ (let z : s.p - 1 + d - suc k ≡ s.p - 1 - 1 = omega arith in z))))
          (λ k lk e. (
            onward d k (λ z. e (omega arith)),
            by_less (suc k) (d + 1)
                (λ a. omega (arith, up_before d (suc k) a, up_before d k (omega arith), level))
                (λ a. omega (arith, up_behind d (suc k) a, up_behind d k (omega arith), level)),
          ))
          (omega (arith, low s w)) (omega (arith, high s w)) (omega (arith, high s w)) (omega (arith, evenodd_second_small d ld))
        where
          ends : (k : ℕ) {y : ℕ} → k ≤ y → skip d k ≡ y → y < s.p → k < s.p - 1
          ends k ky e ly = by_less k (d + 1) (λ a. omega (arith, before d k a)) (λ a. omega (arith, behind d k a))

    -- the line of S
    shared_is : (x y : ℕ) → x < rows s → y < columns s → shares_cell s (cell_number s x y) ≡ evenodd_s s.p x y
    unfolding shares_cell shares
    shared_is x y lx ly = rw (eq-eqb s.code 4 is-evenodd, row_is s w x y lx, column_is s w x y lx) refl

    pub shared_covers : (l : Line) → l.count ≡ s.p - 1 → l.first ≡ s.p - 1 + (s.p - 1 - 1) → l.step ≡ s.p - 1 - 1 → l.turn ≡ 0 → l.second ≡ 0 → l.extra ≡ None → Covers s (shares_cell s) l
    shared_covers l count first step turn second extra =
        whole_covers not_rdp'' (shares_cell s) (evenodd_s s.p) shared_is l extra (λ k. k + 1) (λ k. s.p - 1 - 1 - k)
        (λ k lk. (
          omega (arith, level, low s w),
          omega (arith, evenodd_columns s w is-evenodd),
          and_both (lt-ltb 0 (k + 1) (omega arith)) (and_both (lt-ltb (k + 1) s.p (omega arith)) (eq-eqb (s.p - 1 - 1 - k) (s.p - 1 - (k + 1)) (omega arith))),
        ))
        (λ x y lx ly p.
        let rest = and_right (ltb 0 y) (ltb y s.p && eqb x (s.p - 1 - y)) p in
        let some : 0 < y = ltb-true 0 y (and_left (ltb 0 y) (ltb y s.p && eqb x (s.p - 1 - y)) p) in
        let ly' : y < s.p = ltb-true y s.p (and_left (ltb y s.p) (eqb x (s.p - 1 - y)) rest) in
        let at : x ≡ s.p - 1 - y = eqb-true x (s.p - 1 - y) (and_right (ltb y s.p) (eqb x (s.p - 1 - y)) rest) in
        (y - 1, omega arith, omega arith, omega arith))
        (λ j k lj lk a b. omega arith)
        (first ∙ (let z : s.p - 1 + (s.p - 1 - 1) ≡ (0 + 1) * (s.p - 1) + (s.p - 1 - 1 - 0) = omega (arith, one-mul (s.p - 1)) in z) ∙ ap (λ (x : ℕ). (0 + 1) * x + (s.p - 1 - 1 - 0)) level)
        (λ k lk e. absurd (omega arith))
        (λ k lk e. (omega arith, omega (arith, level)))
        (omega (arith, low s w)) (omega (arith, high s w)) (omega (arith, high s w)) (omega arith)
