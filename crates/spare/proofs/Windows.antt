-- A row's own places, among those that are listed for all rows: p - 1 side by side, and the row's cells are as far past them as the row, or the row in which its
-- diagonal meets the column that leads, is past 0.
use mathlib.Core.Path.{◌≡◌, refl, sym, ap, ap₂, ◌∙◌, subst}
use mathlib.Core.Logic.{◌≢◌}
use mathlib.Core.List.{List}
use mathlib.Core.Bool.{true, false}
use Prim.Native.Nat.{ℕ, ◌+◌, ◌-◌, ◌*◌, ◌%◌, ◌≤◌, ◌<◌}
use native.Mathlib.Nat.{add-mul, add_comm, mod-lt}
use native.Mathlib.Omega.{arith}
use lib.ListN.{length, get_or, take, drop}
use Rattle.xor.specs.Xor.{xors}
use Rattle.xor.proofs.Cases.{by_equal, clash}
use Rattle.xor.proofs.Runs.{part_long, part_byte}
use Rattle.bits.specs.Bit.{bit}
use Rattle.codes.specs.declared.Shape.{Shape}
use Rattle.codes.specs.Shape.{rows, cells, cell_number, missing, WellFormed}
use Rattle.codes.specs.Geometry.{cell_there, place}
use Rattle.codes.specs.Encoded.{parity_cell, sum_over}
use Rattle.codes.proofs.Shapes.{low, high}
use Rattle.codes.proofs.Lines.{rdp_columns, rdp_row_sum, rdp_diagonal_sum}
use Rattle.codes.proofs.Geometry.{there_all, cell_there_at, place_down}
use Rattle.codes.proofs.Positions.{cell_inside, rdp_first, rdp_second}
use Rattle.plan.specs.Plan.{diagonal, chosen}
use Rattle.plan.proofs.Column.{last_row, last_column}
use Rattle.plan.proofs.Diagonals.{home, home_back, diagonal_back, diagonal_below, diagonal_last, diagonal_turned}
use Rattle.plan.proofs.Accepted.{every_row}
use Rattle.plan.proofs.Cells.{taken_low}
use Rattle.spare.specs.Places.{starts, LevelPlaces, in_slot, SlantPlaces, RowRight, OthersAt, Aimed}
use Rattle.plan.proofs.Chosen.{by_row, by_diagonal}
use Rattle.spare.proofs.Choice.{chosen_held}
use Rattle.spare.proofs.Leads.{OnDiagonal, slot_column, row_low}
use Rattle.spare.proofs.Slots.{Held, others_kept, others_swapped}
use Rattle.spare.proofs.Tables.{Swapped}

module _ (s : Shape) (k plan i : ℕ) (right : RowRight s k plan i) (full : missing s ≡ 0) where
  w : WellFormed s
  w = right.of.formed

  n_is : s.p - 1 ≡ rows s
  n_is = last_row s k right.of

  li : i < s.p - 1
  li = omega (arith, right.row, n_is)

  cell_below : (r j : ℕ) → r < s.p - 1 → j < s.p → cell_number s r j < cells s
  cell_below r j lr lj = cell_inside s w r j (omega (arith, n_is)) (omega (arith, rdp_columns s w right.of.rdp))

  cell_there_lem : (r j : ℕ) → r < s.p - 1 → cell_there s (cell_number s r j) ≡ true
  cell_there_lem r j lr = cell_there_at s w r j (omega (arith, n_is)) ∙ there_all s full j

  held : (q : ℕ) → chosen s k plan i ≡ q → Held s q (cell_number s i k)
  held q e = subst (λ (x : ℕ). Held s x (cell_number s i k)) e (chosen_held s k plan i right)

  -- ---- p - 1 places side by side, as the code lends them

  module _ (from : ℕ) (places : List ℕ) (fits : from + (s.p - 1) ≤ length places) where
    abbrev part : List ℕ
    part = take (from + (s.p - 1) - from) (drop from places)

    exact : from + (s.p - 1) - from ≡ s.p - 1
    exact = omega arith

    long : length part ≡ s.p - 1
    long = part_long places from (from + (s.p - 1) - from) (omega (arith, exact)) ∙ exact

    slot : (r ahead : ℕ) → r < s.p - 1 → get_or part r 0 + ahead ≡ get_or places (from + r) 0 + ahead
    slot r ahead lr = ap (λ (x : ℕ). x + ahead) (part_byte places from (from + (s.p - 1) - from) r (omega (arith, exact)))

  -- ---- by row: slot 64 + j has column j's place

  module _ (taken : bit i plan ≡ false) (places : List ℕ) (fits : 64 + (s.p - 1) ≤ length places) (h : LevelPlaces s k places) where
    row_place : (j : ℕ) → j < s.p - 1 → j ≢ k → get_or (part 64 places fits) j 0 + i * s.cell ≡ place s (cell_number s i j)
    row_place j l e = slot 64 places fits j (i * s.cell) l ∙ place_down s w i j _ right.row (h.other j (omega arith) e)

    parity_place : k < s.p - 1 → get_or (part 64 places fits) k 0 + i * s.cell ≡ place s (parity_cell s i)
    parity_place lk = slot 64 places fits k (i * s.cell) lk ∙ place_down s w i (s.p - 1) _ right.row (h.parity lk) ∙ ap (place s) (sym (rdp_first s w right.of.rdp i li))

    row_others : OthersAt s (chosen s k plan i) (cell_number s i k) (i * s.cell) (take (64 + (s.p - 1) - 64) (drop 64 places))
    row_others =
        subst (λ (q : ℕ). OthersAt s q (cell_number s i k) (i * s.cell) (part 64 places fits)) (sym (by_row s k plan i taken))
        (by_equal k (s.p - 1)
        (λ e. others_kept s i (cell_number s i k) own (s.p - 1) (cell_number s i) below there sum (i * s.cell) (part 64 places fits) (long 64 places fits)
        (ap (cell_number s i) e ∙ sym (rdp_first s w right.of.rdp i li)) (λ j l. row_place j l (λ z. omega arith)))
        (λ e. let lk : k < s.p - 1 = omega (arith, k_low) in
        others_swapped s i (cell_number s i k) own (s.p - 1) (cell_number s i) below there sum (i * s.cell) (part 64 places fits) (long 64 places fits) k lk refl (parity_place lk) row_place))
      where
        k_low : k < s.p
        k_low = by_equal k s.p (λ e. clash (every_row s k plan right.of right.accepted e i right.row) taken) (λ e. omega (arith, last_column s k right.of))

        own : Held s i (cell_number s i k)
        own = held i (by_row s k plan i taken)

        below : (j : ℕ) → j < s.p - 1 → cell_number s i j < cells s
        below j l = cell_below i j li (omega arith)

        there : (j : ℕ) → j < s.p - 1 → cell_there s (cell_number s i j) ≡ true
        there j l = cell_there_lem i j li

        sum : (f : ℕ → ℕ) → sum_over s i f ≡ xors (s.p - 1) (λ j. f (cell_number s i j))
        sum = rdp_row_sum s w right.of.rdp i li

    pub aimed_row : SlantPlaces s k places → Aimed s k plan i (record { from = 64; ahead = i }) places
    aimed_row slant = record { inside = omega (arith, high s w); ahead = omega (arith, li); level = h; slant = slant; cells = row_others }

  -- ---- by diagonal: slot r of the p - 1 from p - 1 - row on has the place of row r's cell

  module _ (taken : bit i plan ≡ true) where
    d : ℕ
    d = diagonal s k i

    pub on_diagonal : OnDiagonal s k i
    on_diagonal = (right.row, taken_low s k plan right.of right.accepted i right.row taken)

    d_low : d < s.p - 1
    unfolding d
    d_low = omega (arith, n_is, on_diagonal.1)

    -- row r meets it in column `home s r d`, which is k for row i alone
    column_low : (r : ℕ) → home s r d < s.p
    column_low r = mod-lt (d + (s.p - r)) (omega (arith, low s w))

    column_on : (r : ℕ) → r < s.p - 1 → (r + home s r d) % s.p ≡ d
    column_on r lr = ap (λ (x : ℕ). x % s.p) (add_comm r (home s r d)) ∙ sym (diagonal_below s r (home s r d) (omega arith)) ∙ diagonal_back s r d (omega arith) (omega (arith, d_low))

    module _ (lk : k < s.p) where
      own_column : home s i d ≡ k
      unfolding d
      own_column = ap (home s i) (diagonal_turned s k i lk (omega (arith, li))) ∙ home_back s i k (omega (arith, li)) lk

      once : (r : ℕ) → r < s.p - 1 → home s r d ≡ k → r ≡ i
      unfolding d
      once r lr e = sym (home_back s k r (omega arith) (omega arith)) ∙ ap (home s k) (diagonal_below s k r lk ∙ ap (λ (x : ℕ). (r + x) % s.p) (sym e) ∙ column_on r lr) ∙ home_back s k i (omega arith) (omega (arith, li))

    module _ (row : ℕ) (places : List ℕ) (h : Swapped s k i row places) where
      low_row : row < s.p
      low_row = row_low s w right.of.rdp k i row on_diagonal h.row

      fits : s.p - 1 - row + (s.p - 1) ≤ length places
      fits = omega (arith, h.slant.long, high s w)

      abbrev list : List ℕ
      list = part (s.p - 1 - row) places fits

      place_of : (r : ℕ) → r < s.p - 1 → home s r d ≢ k → get_or list r 0 + row * s.cell ≡ place s (cell_number s r (home s r d))
      unfolding d
      place_of r lr n =
          let x = s.p - 1 - row + r in
          let is : in_slot s x ≡ home s r d = slot_column s w right.of.rdp d row r h.row (omega arith) in
          omega (
            arith,
            slot (s.p - 1 - row) places fits r (row * s.cell) lr,
            h.slant.slot x (omega arith) (λ e. n (sym is ∙ e)),
            ap (starts s) is,
            place_down s w r (home s r d) (starts s (home s r d)) (omega (arith, n_is)) refl,
            add-mul (s.p - 1 - row) r s.cell,
            add-mul (s.p - 1 - row) row s.cell,
            ap (λ (y : ℕ). y * s.cell) (let whole : s.p - 1 - row + row ≡ s.p - 1 = omega (arith, low_row) in whole),
          )

      parity_is : parity_cell s (s.p - 1 + d) ≡ cell_number s d s.p
      parity_is = rdp_second s w right.of.rdp d d_low

      parity_at : k < s.p → get_or list i 0 + row * s.cell ≡ place s (parity_cell s (s.p - 1 + d))
      unfolding d
      parity_at lk = slot (s.p - 1 - row) places fits i (row * s.cell) li ∙ h.parity lk ∙ ap (place s) (sym parity_is)

      diagonal_others : OthersAt s (chosen s k plan i) (cell_number s i k) (row * s.cell) list
      unfolding d
      diagonal_others =
          subst (λ (q : ℕ). OthersAt s q (cell_number s i k) (row * s.cell) list) (sym q_is)
          (by_equal k s.p
          (λ e. others_kept s (s.p - 1 + d) (cell_number s i k) own (s.p - 1) cell below there sum (row * s.cell) list (long (s.p - 1 - row) places fits)
          (ap₂ (cell_number s) (sym (diagonal_last s k i e)) e ∙ sym parity_is) (λ r lr. place_of r lr (λ z. omega (arith, column_low r))))
          (λ e. let lk : k < s.p = omega (arith, last_column s k right.of) in
          others_swapped s (s.p - 1 + d) (cell_number s i k) own (s.p - 1) cell below there sum (row * s.cell) list (long (s.p - 1 - row) places fits) i li
          (ap (cell_number s i) (own_column lk)) (parity_at lk) (λ r lr n. place_of r lr (λ z. n (once lk r lr z)))))
        where
          cell : ℕ → ℕ
          cell r = cell_number s r (home s r d)

          q_is : chosen s k plan i ≡ s.p - 1 + d
          q_is = by_diagonal s k plan i taken ∙ ap (λ (x : ℕ). x + d) (sym n_is)

          own : Held s (s.p - 1 + d) (cell_number s i k)
          own = held (s.p - 1 + d) q_is

          below : (r : ℕ) → r < s.p - 1 → cell r < cells s
          below r lr = cell_below r (home s r d) lr (column_low r)

          there : (r : ℕ) → r < s.p - 1 → cell_there s (cell r) ≡ true
          there r lr = cell_there_lem r (home s r d) lr

          sum : (f : ℕ → ℕ) → sum_over s (s.p - 1 + d) f ≡ xors (s.p - 1) (λ r. f (cell r))
          sum = rdp_diagonal_sum s w right.of.rdp d d_low (λ r. home s r d) (λ r lr. (column_low r, column_on r lr))

      pub aimed_diagonal : Aimed s k plan i (record { from = s.p - 1 - row; ahead = row }) places
      aimed_diagonal = record { inside = omega (arith, high s w); ahead = low_row; level = h.level; slant = h.slant; cells = diagonal_others }
