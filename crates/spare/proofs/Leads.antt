-- The column that leads. Every other column starts at least as many cells into the stripe as a column has, so that the places of a diagonal can be listed
-- less the row in which it meets that column, whatever the map between columns and where they lie, where each of them exists.
use mathlib.Core.Path.{◌≡◌, refl, sym, ap, ap₂, ◌∙◌}
use mathlib.Core.Logic.{◌≢◌}
use mathlib.Core.Bool.{Bool, true, not}
use Prim.Native.Nat.{ℕ, ◌+◌, ◌-◌, ◌*◌, ◌%◌, ◌≤◌, ◌<◌}
use native.Mathlib.Nat.{mod-lt, mod-eq_of_lt, mod-add-mod, add-mod_right, mul-le-mul_right, one-mul, zero-mul, zero-add, mod_self}
use native.Mathlib.Omega.{arith}
use lib.Dec.{ltb}
use borrow.Author.Tests.{ltb-false, not-true}
use Rattle.xor.proofs.Cases.{by_equal, by_less}
use Rattle.codes.specs.declared.Shape.{Shape}
use Rattle.codes.specs.Shape.{rows, cell_number, missing, WellFormed}
use Rattle.codes.specs.Geometry.{column_of, lies_at, place}
use Rattle.codes.proofs.Shapes.{low, rows_low, missing_low, disks_is}
use Rattle.codes.proofs.Residues.{wrapped}
use Rattle.codes.proofs.Lines.{rdp_rows, rdp_columns}
use Rattle.codes.proofs.Geometry.{there_all, column_there, column_lies, place_at, place_down}
use Rattle.plan.specs.Plan.{diagonal}
use Rattle.plan.proofs.Diagonals.{home}
use Rattle.spare.specs.Places.{starts, leader, in_slot}

-- the column that is t columns past the one that leads, from column p-1 back to 0
abbrev pub past : Shape → ℕ → ℕ
past s t = (t + leader s) % s.p

-- row i of column k is on a diagonal that is not the missing one
abbrev pub OnDiagonal : Shape → ℕ → ℕ → Type 0
OnDiagonal s k i = (i < rows s) × (diagonal s k i < rows s)

-- the row in which that diagonal meets the column that leads; p-1 where it does not
abbrev pub meets : Shape → ℕ → ℕ → ℕ
meets s k i = (diagonal s k i + (s.p - leader s)) % s.p

-- ---- whether every column exists, as the code tests it

pub none_missing : (s : Shape) (short : Bool) → short ≡ ltb 0 (missing s) → not short ≡ true → missing s ≡ 0
none_missing s short is e = let none : missing s ≤ 0 = ltb-false 0 (missing s) (sym is ∙ not-true short e) in omega arith

-- ---- the column that leads

module _ (s : Shape) (w : WellFormed s) (rdp : s.code ≡ 1) where
  some : 0 < s.p
  some = omega (arith, low s w)

  -- the column that lies first is one of columns 0 to p
  pub first_low : column_of s 0 ≤ s.p
  first_low = omega (arith, column_there s w 0 (omega (arith, disks_is s w, missing_low s w, rdp_columns s w rdp)), rdp_columns s w rdp)

  -- as the code works it out
  pub leads_is : (first lead : ℕ) → first ≡ column_of s 0 → lead ≡ (0 + first) % s.p → lead ≡ leader s
  unfolding leader
  leads_is first lead e el = el ∙ ap (λ (x : ℕ). x % s.p) (zero-add first ∙ e)

  pub leader_low : leader s < s.p
  unfolding leader
  leader_low = mod-lt (column_of s 0) some

  pub slot_low : (x : ℕ) → in_slot s x < s.p
  unfolding in_slot
  slot_low x = mod-lt (s.p - 1 + s.p - x + leader s) some

  -- where every column exists, another than the one that lies first starts a column or more into the stripe
  far : missing s ≡ 0 → (j : ℕ) → j ≤ s.p → j ≢ column_of s 0 → rows s * s.cell ≤ starts s j
  far full j l n = omega (arith, place_at s w 0 j (omega (arith, rows_low s w)), mul-le-mul_right {m = rows s} {n = lies_at s j * rows s + 0} s.cell (omega (arith, one-mul (rows s), mul-le-mul_right {m = 1} {n = lies_at s j} (rows s) later)))
    where
      later : 1 ≤ lies_at s j
      later = by_equal (lies_at s j) 0 (λ e. absurd (n (sym (column_lies s w j (there_all s full j)) ∙ ap (column_of s) e))) (λ z. omega arith)

  -- so many rows are no more than a column
  rows_long : (t : ℕ) → t < s.p → t * s.cell ≤ rows s * s.cell
  rows_long t l = mul-le-mul_right s.cell (omega (arith, rdp_rows s w rdp))

  -- the column t past the one that leads starts t cells or more into the stripe
  pub past_far : missing s ≡ 0 → (t : ℕ) → t < s.p → t * s.cell ≤ starts s (past s t)
  unfolding leader
  past_far full t l =
      by_equal t 0 (λ z. omega (arith, ap (λ (x : ℕ). x * s.cell) z, zero-mul s.cell))
      (λ n. omega (arith, rows_long t l, far full j (omega (arith, low_j)) (λ z. other n z)))
    where
      j : ℕ
      j = (t + leader s) % s.p

      low_j : j < s.p
      low_j = mod-lt (t + leader s) some

      other : t ≢ 0 → j ≢ column_of s 0
      other n z =
          let same : leader s ≡ j = mod-eq_of_lt (omega (arith, low_j)) ∙ sym z in
          by_less (t + leader s) s.p
          (λ low. n (omega (arith, mod-eq_of_lt low)))
          (λ high. omega (arith, wrapped s.p (t + leader s) high (omega (arith, low_j))))

  -- as the code works it out
  pub past_is : (t lead j : ℕ) → lead ≡ leader s → j ≡ (t + lead) % s.p → j ≡ past s t
  past_is t lead j el ej = ej ∙ ap (λ (x : ℕ). (t + x) % s.p) el

  pub past_low : (t j : ℕ) → j ≡ past s t → j < s.p
  past_low t j e = omega (arith, e, mod-lt (t + leader s) some)

  -- ---- a diagonal, by the row in which it meets the column that leads

  -- slot by slot from p - 1 - row on it has the columns in which it meets the rows, row after row
  pub slot_column : (d row r : ℕ) → row ≡ (d + (s.p - leader s)) % s.p → r < s.p → in_slot s (s.p - 1 - row + r) ≡ home s r d
  unfolding in_slot
  slot_column d row r e l =
      ap (λ (x : ℕ). x % s.p) (let at : s.p - 1 + s.p - (s.p - 1 - row + r) + leader s ≡ row + (s.p - r + leader s) = omega (arith, row_low) in at)
      ∙ ap (λ (x : ℕ). (x + (s.p - r + leader s)) % s.p) e ∙ mod-add-mod (d + (s.p - leader s)) s.p (s.p - r + leader s)
      ∙ ap (λ (x : ℕ). x % s.p) (let at : d + (s.p - leader s) + (s.p - r + leader s) ≡ d + (s.p - r) + s.p = omega (arith, leader_low) in at)
      ∙ add-mod_right (d + (s.p - r)) s.p
    where
      row_low : row < s.p
      row_low = omega (arith, e, mod-lt (d + (s.p - leader s)) some)

  -- as the code works it out
  pub meets_is : (k i d lead row : ℕ) → d ≡ diagonal s k i → lead ≡ leader s → row ≡ (d + (s.p - lead)) % s.p → row ≡ meets s k i
  meets_is k i d lead row ed el e = e ∙ ap₂ (λ (x y : ℕ). (x + (s.p - y)) % s.p) ed el

  module _ (k i row : ℕ) (on : OnDiagonal s k i) (e : row ≡ meets s k i) where
    pub row_low : row < s.p
    row_low = omega (arith, e, mod-lt (diagonal s k i + (s.p - leader s)) some)

    -- its parity cell starts as many cells or more into the stripe
    pub parity_far : missing s ≡ 0 → row * s.cell ≤ place s (cell_number s (diagonal s k i) s.p)
    unfolding leader
    parity_far full =
        by_equal (column_of s 0) s.p
        (λ z. let none : leader s ≡ 0 = ap (λ (x : ℕ). x % s.p) z ∙ mod_self s.p in
        let same : row ≡ diagonal s k i = e ∙ ap (λ (x : ℕ). (diagonal s k i + x) % s.p) (let all : s.p - leader s ≡ s.p = omega (arith, none) in all) ∙ add-mod_right (diagonal s k i) s.p ∙ mod-eq_of_lt (omega (arith, on.1, rdp_rows s w rdp)) in
        omega (arith, ap (λ (x : ℕ). x * s.cell) same, down))
        (λ n. omega (arith, rows_long row row_low, far full s.p (omega arith) (λ z. n (sym z)), down))
      where
        down : starts s s.p + diagonal s k i * s.cell ≡ place s (cell_number s (diagonal s k i) s.p)
        down = place_down s w (diagonal s k i) s.p (starts s s.p) on.1 refl
