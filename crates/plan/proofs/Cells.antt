-- Which cells an equation of RDP holds, and which cells a plan reads: tests on the row, the column and two bits of the plan.
use mathlib.Core.Path.{◌≡◌, refl, sym, ap, ap₂, ◌∙◌}
use mathlib.Core.Bool.{Bool, true, false, not, ◌&&◌, ◌||◌}
use Prim.Native.Nat.{ℕ, ◌+◌, ◌-◌, ◌%◌, ◌<◌}
use native.Mathlib.Nat.{mod-lt}
use native.Mathlib.Omega.{arith}
use lib.Dec.{eqb, ltb}
use borrow.Author.Tests.{lt-ltb, le-ltb, eq-eqb, ne_eqb, eqb-true, ltb-true, eqb-false, not-true}
use Rattle.xor.proofs.Cases.{by_test, by_equal, clash, and_left, and_right, and_both, either, or_left, or_right, not_passed, same_test}
use Rattle.xor.proofs.Sets.{any_at, any_some}
use Rattle.bits.specs.Bit.{bit}
use Rattle.bits.proofs.Bits.{bit_above}
use Rattle.codes.specs.declared.Shape.{Shape}
use Rattle.codes.specs.Shape.{rows, columns, cell_number, WellFormed}
use Rattle.codes.specs.Equations.{Equation, equation, rdp_row, rdp_diagonal}
use Rattle.codes.specs.Geometry.{is_there}
use Rattle.codes.specs.Holders.{holds}
use Rattle.codes.proofs.Shapes.{low}
use Rattle.codes.proofs.Lines.{rdp_rows, rdp_columns, rdp_row_is}
use Rattle.codes.proofs.Geometry.{cell_there_at}
use Rattle.codes.proofs.Positions.{same_row, same_column, parity_of, sums_of, rdp_second_is}
use Rattle.plan.specs.Plan.{diagonal, chosen, reads_cell, is_accepted}
use Rattle.plan.specs.Right.{RdpColumn}
use Rattle.plan.proofs.Column.{last_row, last_column}
use Rattle.plan.proofs.Diagonals.{home, home_back, missing_home, diagonal_last, diagonal_low, diagonal_back}
use Rattle.plan.proofs.Accepted.{plan_low, missing_left, every_row}

-- ---- which cells an equation holds

-- one of the two parts of a diagonal's test: its parity cell, or the cells that it sums
one_left : (a : Bool) → ((a && true) || false) ≡ a
one_left true = refl
one_left false = refl

one_right : (a b : Bool) → ((a && false) || b) ≡ b
one_right true b = refl
one_right false b = refl

module _ (s : Shape) (w : WellFormed s) (is-rdp : s.code ≡ 1) where
  -- a cell has one row and one column
  same_cell : (i j a b : ℕ) → i < rows s → a < rows s → eqb (cell_number s i j) (cell_number s a b) ≡ (eqb i a && eqb j b)
  same_cell i j a b li la =
      same_test
      (λ h. let same = eqb-true (cell_number s i j) (cell_number s a b) h in
      and_both (eq-eqb i a (same_row s w i j a b li la same)) (eq-eqb j b (same_column s w i j a b li la same)))
      (λ h. eq-eqb (cell_number s i j) (cell_number s a b) (ap₂ (cell_number s) (eqb-true i a (and_left (eqb i a) (eqb j b) h)) (eqb-true j b (and_right (eqb i a) (eqb j b) h))))

  -- an equation holds its parity cell and the cells that pass its test
  holds_of : (q : ℕ) (e : Equation) → equation s q ≡ e → e.row < rows s → (i j : ℕ) → i < rows s
      → holds s q (cell_number s i j) ≡ ((eqb i e.row && eqb j e.column) || e.sums i j)
  unfolding holds
  holds_of q e is le i j li =
      ap₂ ◌||◌ (ap (eqb (cell_number s i j)) (parity_of s w q e is) ∙ same_cell i j e.row e.column li le) (sums_of s w q e is i j li)

  -- equation r holds the cells of row r but the one in column p
  row_holds : (r i j : ℕ) → r < rows s → i < rows s → holds s r (cell_number s i j) ≡ (eqb i r && ltb j s.p)
  row_holds r i j lr li =
      holds_of r (rdp_row s.p r) (rdp_row_is s w is-rdp r (omega (arith, rdp_rows s w is-rdp))) lr i j li
      ∙ same_test
      (λ h. either (eqb i r && eqb j (s.p - 1)) (eqb i r && ltb j (s.p - 1)) h
      (λ t. and_both (and_left (eqb i r) (eqb j (s.p - 1)) t) (lt-ltb j s.p (omega (arith, low s w, eqb-true j (s.p - 1) (and_right (eqb i r) (eqb j (s.p - 1)) t)))))
      (λ t. and_both (and_left (eqb i r) (ltb j (s.p - 1)) t) (lt-ltb j s.p (omega (arith, ltb-true j (s.p - 1) (and_right (eqb i r) (ltb j (s.p - 1)) t))))))
      (λ h. let here = and_left (eqb i r) (ltb j s.p) h in
      let left = ltb-true j s.p (and_right (eqb i r) (ltb j s.p) h) in
      by_equal j (s.p - 1) (λ e. or_left _ (and_both here (eq-eqb j (s.p - 1) e)))
      (λ n. or_right (eqb i r && eqb j (s.p - 1)) (and_both here (lt-ltb j (s.p - 1) (omega arith)))))

  -- the equation of diagonal d holds the cells on that diagonal
  diagonal_holds : (d i j : ℕ) → d < rows s → i < rows s → j < columns s → holds s (rows s + d) (cell_number s i j) ≡ eqb (diagonal s j i) d
  unfolding diagonal
  diagonal_holds d i j ld li lj =
      holds_of (rows s + d) (rdp_diagonal s.p d) (ap (λ (n : ℕ). equation s (n + d)) (sym (rdp_rows s w is-rdp)) ∙ rdp_second_is s w is-rdp d) ld i j li
      ∙ by_equal j s.p
      (λ e. rw (eq-eqb j s.p e, le-ltb j s.p (omega arith)) (one_left (eqb i d)))
      (λ n. rw (ne_eqb j s.p n, lt-ltb j s.p (omega (arith, rdp_columns s w is-rdp)), lt-ltb i (s.p - 1) (omega (arith, rdp_rows s w is-rdp))) (one_right (eqb i d) (eqb ((i + j) % s.p) d)))

-- ---- which cells a plan reads, by the equation of each row

-- whether the cell in row r of column j is read: it is of another column, and its row is taken by row, or the row of column k on its diagonal by diagonal
abbrev pub is_read : Shape → ℕ → ℕ → ℕ → ℕ → Bool
is_read s k plan r j = not (eqb j k) && ((ltb j s.p && not (bit r plan)) || bit (home s k (diagonal s j r)) plan)

module _ (s : Shape) (k plan : ℕ) (of : RdpColumn s k) (accepted : is_accepted s k plan ≡ true) where
  -- a row that is taken by diagonal is not on the missing one
  pub taken_low : (i : ℕ) → i < rows s → bit i plan ≡ true → diagonal s k i < rows s
  taken_low i li taken =
      by_equal (diagonal s k i) (s.p - 1)
      (λ e. by_equal k s.p
      (λ last. absurd (omega (arith, last_row s k of, diagonal_last s k i last)))
      (λ n. let l : k < s.p = omega (arith, last_column s k of) in
      clash taken (ap (λ (x : ℕ). bit x plan) (sym (home_back s k i (omega arith) (omega (arith, last_row s k of)))
      ∙ ap (home s k) e ∙ missing_home s k l) ∙ missing_left s k plan of accepted l)))
      (λ n. let small = diagonal_low s k i (omega (arith, low s of.formed)) (omega (arith, last_row s k of)) in omega (arith, last_row s k of))

  -- the cells of the equation by which row i is taken
  row_cells : (i r j : ℕ) → i < rows s → r < rows s → bit i plan ≡ false → holds s (chosen s k plan i) (cell_number s r j) ≡ (eqb r i && ltb j s.p)
  unfolding chosen
  row_cells i r j li lr taken = rw taken (row_holds s of.formed of.rdp i r j li lr)

  diagonal_cells : (i r j : ℕ) → i < rows s → r < rows s → j < columns s → bit i plan ≡ true
      → holds s (chosen s k plan i) (cell_number s r j) ≡ eqb (diagonal s j r) (diagonal s k i)
  unfolding chosen
  diagonal_cells i r j li lr lj taken = rw taken (diagonal_holds s of.formed of.rdp (diagonal s k i) r j (taken_low i li taken) lr lj)

  -- the row's own cell of column k is one of them
  pub own_held : (i : ℕ) → i < rows s → holds s (chosen s k plan i) (cell_number s i k) ≡ true
  own_held i li =
      by_test (bit i plan)
      (λ taken. diagonal_cells i i k li li of.column taken ∙ eq-eqb (diagonal s k i) (diagonal s k i) refl)
      (λ taken. row_cells i i k li li taken ∙ and_both (eq-eqb i i refl)
      (by_equal k s.p (λ e. clash (every_row s k plan of accepted e i li) taken) (λ n. lt-ltb k s.p (omega (arith, last_column s k of)))))

  module _ (r j : ℕ) (lr : r < rows s) (lj : j < columns s) where
    -- whether the equation by which row i is taken reads the cell
    takes : ℕ → Bool
    takes i = holds s (chosen s k plan i) (cell_number s r j) && not (eqb (cell_number s r j) (cell_number s i k))

    -- some row takes the cell
    read_of : (i : ℕ) → i < rows s → takes i ≡ true → is_read s k plan r j ≡ true
    unfolding takes
    read_of i li t =
        by_test (bit i plan)
        (λ taken.
        let same : diagonal s j r ≡ diagonal s k i = eqb-true (diagonal s j r) (diagonal s k i) (sym (diagonal_cells i r j li lr lj taken) ∙ held) in
        let at : home s k (diagonal s j r) ≡ i = ap (home s k) same ∙ home_back s k i (omega (arith, last_column s k of)) (omega (arith, last_row s k of)) in
        and_both
        (other (λ z. sym (home_back s k r (omega (arith, last_column s k of)) (omega (arith, last_row s k of))) ∙ ap (λ (x : ℕ). home s k (diagonal s x r)) (sym z) ∙ at))
        (or_right (ltb j s.p && not (bit r plan)) (ap (λ (x : ℕ). bit x plan) at ∙ taken)))
        (λ taken.
        let both : (eqb r i && ltb j s.p) ≡ true = sym (row_cells i r j li lr taken) ∙ held in
        let same : r ≡ i = eqb-true r i (and_left (eqb r i) (ltb j s.p) both) in
        and_both (other (λ z. same))
        (or_left _ (and_both (and_right (eqb r i) (ltb j s.p) both) (ap not (ap (λ (x : ℕ). bit x plan) same ∙ taken)))))
      where
        held : holds s (chosen s k plan i) (cell_number s r j) ≡ true
        held = and_left (holds s (chosen s k plan i) (cell_number s r j)) (not (eqb (cell_number s r j) (cell_number s i k))) t

        other : (j ≡ k → r ≡ i) → not (eqb j k) ≡ true
        other h =
            ap not (ne_eqb j k (λ z. eqb-false (cell_number s r j) (cell_number s i k)
            (not-true _ (and_right (holds s (chosen s k plan i) (cell_number s r j)) (not (eqb (cell_number s r j) (cell_number s i k))) t)) (ap₂ (cell_number s) (h z) z)))

    -- of another column it is not the lost cell itself
    apart : (i : ℕ) → i < rows s → not (eqb j k) ≡ true → not (eqb (cell_number s r j) (cell_number s i k)) ≡ true
    apart i li h = ap not (same_cell s of.formed of.rdp r j i k lr li ∙ not_passed (λ t. clash (and_right (eqb r i) (eqb j k) t) (not-true (eqb j k) h)))

    -- a row that takes the cell
    read_by : is_read s k plan r j ≡ true → (i : ℕ) × (i < rows s) × (takes i ≡ true)
    unfolding takes
    read_by h =
        let off = and_left (not (eqb j k)) ((ltb j s.p && not (bit r plan)) || bit (home s k (diagonal s j r)) plan) h in
        either (ltb j s.p && not (bit r plan)) (bit (home s k (diagonal s j r)) plan) (and_right (not (eqb j k)) _ h)
        (λ t. (
          r,
          lr,
          and_both (row_cells r r j lr lr (not-true (bit r plan) (and_right (ltb j s.p) (not (bit r plan)) t))
              ∙ and_both (eq-eqb r r refl) (and_left (ltb j s.p) (not (bit r plan)) t)) (apart r lr off),
        ))
        (λ t. (
          home s k (diagonal s j r),
          below t,
          and_both (diagonal_cells (home s k (diagonal s j r)) r j (below t) lr lj t
              ∙ eq-eqb (diagonal s j r) (diagonal s k (home s k (diagonal s j r)))
              (sym (diagonal_back s k (diagonal s j r) (omega (arith, last_column s k of)) (diagonal_low s j r (omega (arith, low s of.formed)) (omega (arith, last_row s k of)))))) (apart (home s k (diagonal s j r)) (below t) off),
        ))
      where
        below : bit (home s k (diagonal s j r)) plan ≡ true → home s k (diagonal s j r) < rows s
        below t =
            by_equal (home s k (diagonal s j r)) (rows s)
            (λ e. clash t (ap (λ (x : ℕ). bit x plan) e ∙ bit_above (rows s) plan (plan_low s k plan of accepted)))
            (λ n. let small : home s k (diagonal s j r) < s.p = mod-lt (diagonal s j r + (s.p - k)) (omega (arith, low s of.formed)) in omega (arith, last_row s k of))

    -- a plan reads the cells that exist and pass the test
    pub reads_is : reads_cell s k plan (cell_number s r j) ≡ (is_there s j && is_read s k plan r j)
    unfolding reads_cell takes
    reads_is =
        ap₂ ◌&&◌ (cell_there_at s of.formed r j lr)
        (same_test
        (λ h. let found = any_some (rows s) takes h in read_of found.0 found.1 found.2)
        (λ h. let found = read_by h in any_at (rows s) takes found.0 found.1 found.2))

    pub reads_there : is_there s j ≡ true → reads_cell s k plan (cell_number s r j) ≡ is_read s k plan r j
    reads_there h = reads_is ∙ ap (λ (b : Bool). b && is_read s k plan r j) h
