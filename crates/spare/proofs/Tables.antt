-- How the places are listed from which rows are rebuilt: once for all rows, as if each were row 0, or on a diagonal that meets the column that leads in row 0;
-- and how the parity cell's place is put in for the lost cell's.
use mathlib.Core.Path.{◌≡◌, sym, ap, ◌∙◌, subst}
use mathlib.Core.Logic.{◌≢◌}
use mathlib.Core.List.{List}
use Prim.Native.Nat.{ℕ, ◌+◌, ◌-◌, ◌*◌, ◌%◌, ◌≤◌, ◌<◌}
use native.Mathlib.Nat.{mul-le-mul, add-mul, zero-mul, one-mul, mod-lt, add-mod_right}
use native.Mathlib.Omega.{arith}
use lib.ListN.{length, get_or, set, length-set}
use lib.Seq.{get_or-set_same, get_or-set_other}
use Rattle.xor.proofs.Cases.{by_equal, by_less}
use Rattle.codes.specs.declared.Shape.{Shape}
use Rattle.codes.specs.Shape.{cell_number, missing, WellFormed}
use Rattle.codes.specs.Geometry.{place}
use Rattle.codes.proofs.Shapes.{high}
use Rattle.codes.proofs.Residues.{there_and_back}
use Rattle.codes.proofs.Lines.{rdp_rows}
use Rattle.plan.specs.Plan.{diagonal}
use Rattle.plan.specs.Right.{RdpColumn}
use Rattle.plan.proofs.Diagonals.{home, home_back, diagonal_turned}
use Rattle.spare.specs.Places.{starts, LevelPlaces, leader, in_slot, ColumnPut, SlantPlaces}
use Rattle.spare.proofs.Leads.{past, OnDiagonal, meets, leader_low, slot_low, slot_column, parity_far}

-- so many cells are a small number of bytes
pub step_small : (s : Shape) → WellFormed s → (n : ℕ) → n ≤ 31 → n * s.cell ≤ 126976
step_small s w n l = mul-le-mul l w.cell_high

-- both slots of a column set
pub column_put : (p t above below : ℕ) (places : List ℕ) → p < 32 → t < p → length places ≡ 96
    → ColumnPut p t above below places (set (set places (p - 1 - t) above) (p - 1 - t + p) below)
column_put p t above below places lp lt long = record {
  long = length-set (set places (p - 1 - t) above) (p - 1 - t + p) below ∙ length-set places (p - 1 - t) above;
  first = off (p - 1 - t) (λ e. omega arith) ∙ get_or-set_same places (p - 1 - t) above 0 (omega arith);
  second = get_or-set_same (set places (p - 1 - t) above) (p - 1 - t + p) below 0 (omega (arith, length-set places (p - 1 - t) above));
  beyond = λ x l. both x (λ e. omega arith) (λ e. omega arith);
  kept = λ m lm n. (both (p - 1 - m) (λ e. omega arith) (λ e. n (omega arith)), both (p - 1 - m + p) (λ e. n (omega arith)) (λ e. omega arith));
}
  where
    off : (x : ℕ) → x ≢ p - 1 - t + p → get_or (set (set places (p - 1 - t) above) (p - 1 - t + p) below) x 0 ≡ get_or (set places (p - 1 - t) above) x 0
    off x n = get_or-set_other (set places (p - 1 - t) above) (p - 1 - t + p) x below 0 n

    both : (x : ℕ) → x ≢ p - 1 - t + p → x ≢ p - 1 - t → get_or (set (set places (p - 1 - t) above) (p - 1 - t + p) below) x 0 ≡ get_or places x 0
    both x n n' = off x n ∙ get_or-set_other places (p - 1 - t) x above 0 n'

-- the first t columns from the one that leads on have their places, and the next column's are less `back` bytes
pub record Filled (s : Shape) (back t : ℕ) (places : List ℕ) : Type 0 where
  pub long : length places ≡ 96
  pub next : back ≡ t * s.cell
  pub level : (m : ℕ) → m < t → get_or places (64 + past s m) 0 ≡ starts s (past s m)
  pub above : (m : ℕ) → m < t → get_or places (s.p - 1 - m) 0 + m * s.cell ≡ starts s (past s m)
  pub below : (m : ℕ) → m < t → get_or places (s.p - 1 - m + s.p) 0 + m * s.cell ≡ starts s (past s m) + s.p * s.cell

module _ (s : Shape) (w : WellFormed s) where
  pub filled_none : (places : List ℕ) → length places ≡ 96 → Filled s 0 0 places
  filled_none places long = record {
    long = long;
    next = sym (zero-mul s.cell);
    level = λ m l. absurd (omega arith);
    above = λ m l. absurd (omega arith);
    below = λ m l. absurd (omega arith);
  }

  pub filled_more : (back t j start : ℕ) (places mid : List ℕ) → t < s.p → Filled s back t places → j ≡ past s t → j < 32 → start ≡ starts s j → back ≤ start
      → ColumnPut s.p t (start - back) (start - back + s.p * s.cell) places mid → Filled s (back + s.cell) (t + 1) (set mid (64 + j) start)
  filled_more back t j start places mid lt h ej lj e fits put = record {
    long = length-set mid (64 + j) start ∙ put.long ∙ h.long;
    next = omega (arith, h.next, add-mul t 1 s.cell, one-mul s.cell);
    level = λ m l. by_equal (past s m) j
        (λ z. ap (λ (x : ℕ). get_or (set mid (64 + j) start) (64 + x) 0) z ∙ get_or-set_same mid (64 + j) start 0 (omega (arith, put.long, h.long)) ∙ e ∙ ap (starts s) (sym z))
        (λ n. get_or-set_other mid (64 + j) (64 + past s m) start 0 (λ z. n (omega arith)) ∙ put.beyond (64 + past s m) (omega arith)
        ∙ h.level m (by_equal m t (λ z. absurd (n (ap (past s) z ∙ sym ej))) (λ z. omega arith)));
    above = λ m l. ap (λ (x : ℕ). x + m * s.cell) (low_slot (s.p - 1 - m) (omega (arith, high s w))) ∙ by_equal m t
        (λ z. subst (λ (x : ℕ). get_or mid (s.p - 1 - x) 0 + x * s.cell ≡ starts s (past s x)) (sym z) (omega (arith, put.first, h.next, e, ap (starts s) ej)))
        (λ n. ap (λ (x : ℕ). x + m * s.cell) (put.kept m (omega arith) n).0 ∙ h.above m (omega arith));
    below = λ m l. ap (λ (x : ℕ). x + m * s.cell) (low_slot (s.p - 1 - m + s.p) (omega (arith, high s w))) ∙ by_equal m t
        (λ z. subst (λ (x : ℕ). get_or mid (s.p - 1 - x + s.p) 0 + x * s.cell ≡ starts s (past s x) + s.p * s.cell) (sym z) (omega (arith, put.second, h.next, e, ap (starts s) ej)))
        (λ n. ap (λ (x : ℕ). x + m * s.cell) (put.kept m (omega arith) n).1 ∙ h.below m (omega arith));
  }
    where
      low_slot : (x : ℕ) → x < 64 → get_or (set mid (64 + j) start) x 0 ≡ get_or mid x 0
      low_slot x l = get_or-set_other mid (64 + j) x start 0 (λ z. omega arith)

  -- all columns have theirs
  pub filled_all : s.code ≡ 1 → (back t : ℕ) (places : List ℕ) → s.p ≤ t → Filled s back t places → LevelPlaces s s.p places × SlantPlaces s s.p places
  unfolding in_slot
  filled_all rdp back t places all h = (
    record { other = λ j l n. column j l; parity = λ l. absurd (omega arith) },
    record { long = h.long; slot = λ x l n. by_less x s.p (first x) (second x l) },
  )
    where
      -- so many columns past the one that leads
      at : ℕ → ℕ
      at j = (j + (s.p - leader s)) % s.p

      column : (j : ℕ) → j < s.p → get_or places (64 + j) 0 ≡ starts s j
      column j l =
          let lo = leader_low s w rdp in
          let is : past s (at j) ≡ j = there_and_back s.p j (s.p - leader s) (leader s) l (omega arith) in
          let low-at : at j < s.p = mod-lt (j + (s.p - leader s)) (omega arith) in
          subst (λ (x : ℕ). get_or places (64 + x) 0 ≡ starts s x) is (h.level (at j) (omega arith))

      first : (x : ℕ) → x < s.p → get_or places x 0 + (s.p - 1) * s.cell ≡ starts s (in_slot s x) + x * s.cell
      first x l =
          let m = s.p - 1 - x in
          omega (
            arith,
            ap (λ (y : ℕ). get_or places y 0) (let at : s.p - 1 - m ≡ x = omega arith in at),
            h.above m (omega arith),
            ap (λ (y : ℕ). starts s (y % s.p)) (let at : s.p - 1 + s.p - x + leader s ≡ m + leader s + s.p = omega arith in at),
            ap (starts s) (add-mod_right (m + leader s) s.p),
            add-mul m x s.cell,
            ap (λ (y : ℕ). y * s.cell) (let at : m + x ≡ s.p - 1 = omega arith in at),
          )

      second : (x : ℕ) → x < s.p - 1 + s.p → s.p ≤ x → get_or places x 0 + (s.p - 1) * s.cell ≡ starts s (in_slot s x) + x * s.cell
      second x l lo =
          let m = s.p - 1 + s.p - x in
          omega (
            arith,
            ap (λ (y : ℕ). get_or places y 0) (let at : s.p - 1 - m + s.p ≡ x = omega arith in at),
            h.below m (omega arith),
            add-mul m x s.cell,
            add-mul (s.p - 1) s.p s.cell,
            ap (λ (y : ℕ). y * s.cell) (let at : m + x ≡ s.p - 1 + s.p = omega arith in at),
          )

-- ---- the parity cell of a row

module _ (s : Shape) (k : ℕ) (of : RdpColumn s k) (places : List ℕ) (level : LevelPlaces s s.p places) (slant : SlantPlaces s s.p places) where
  -- all slots but column k's
  slots_but : SlantPlaces s k places
  slots_but = record { long = slant.long; slot = λ x l n. slant.slot x l (λ e. omega (arith, slot_low s of.formed of.rdp x)) }

  -- the row parity column is lost, or no column that rows sum
  pub row_kept : s.p - 1 ≤ k → LevelPlaces s k places × SlantPlaces s k places
  row_kept lk = (record { other = λ j l n. level.other j l (λ z. omega arith); parity = λ l. absurd (omega arith) }, slots_but)

  pub row_swapped : k < s.p - 1 → let new = set places (64 + k) (get_or places (64 + (s.p - 1)) 0) in LevelPlaces s k new × SlantPlaces s k new
  row_swapped lk = (
    record {
      other = λ j l n. get_or-set_other places (64 + k) (64 + j) at 0 (λ z. n (omega arith)) ∙ level.other j l (λ z. omega arith);
      parity = λ l. get_or-set_same places (64 + k) at 0 (omega (arith, slant.long, high s of.formed)) ∙ level.other (s.p - 1) (omega arith) (λ z. omega arith);
    },
    record {
      long = length-set places (64 + k) at ∙ slant.long;
      slot = λ x l n. ap (λ (v : ℕ). v + (s.p - 1) * s.cell) (get_or-set_other places (64 + k) x at 0 (λ z. omega (arith, high s of.formed))) ∙ slots_but.slot x l n;
    },
  )
    where
      at : ℕ
      at = get_or places (64 + (s.p - 1)) 0

-- ---- the parity cell of a row's diagonal

-- the diagonal of row i of column k meets the column that leads in row r, and its parity cell's place, less r cells, is in the slot that has the row's
pub record Swapped (s : Shape) (k i r : ℕ) (places : List ℕ) : Type 0 where
  pub row : r ≡ meets s k i
  pub level : LevelPlaces s k places
  pub slant : SlantPlaces s k places
  pub parity : k < s.p → get_or places (s.p - 1 - r + i) 0 + r * s.cell ≡ place s (cell_number s (diagonal s k i) s.p)

module _ (s : Shape) (k : ℕ) (of : RdpColumn s k) (i r : ℕ) (on : OnDiagonal s k i) (e : r ≡ meets s k i) (places : List ℕ) (level : LevelPlaces s k places) (slant : SlantPlaces s k places) where
  w : WellFormed s
  w = of.formed

  li : i < s.p - 1
  li = omega (arith, on.0, rdp_rows s w of.rdp)

  x : ℕ
  x = s.p - 1 - r + i

  x_low : x < 62
  unfolding x
  x_low = omega (arith, li, high s w)

  own : k < s.p → in_slot s x ≡ k
  unfolding x
  own lk = slot_column s w of.rdp (diagonal s k i) r i e (omega (arith, li)) ∙ ap (home s i) (diagonal_turned s k i lk (omega (arith, li))) ∙ home_back s i k (omega (arith, li)) lk

  -- the parity cell's place in its slot
  pub swapped : missing s ≡ 0 → (at : ℕ) → k < s.p → at ≡ place s (cell_number s (diagonal s k i) s.p) → Swapped s k i r (set places (s.p - 1 - r + i) (at - r * s.cell))
  unfolding x
  swapped full at lk z = record {
    row = e;
    level = record {
      other = λ j l n. get_or-set_other places x (64 + j) v 0 (λ here. omega (arith, x_low)) ∙ level.other j l n;
      parity = λ l. get_or-set_other places x (64 + k) v 0 (λ here. omega (arith, x_low)) ∙ level.parity l;
    };
    slant = record {
      long = length-set places x v ∙ slant.long;
      slot = λ y l n. ap (λ (u : ℕ). u + (s.p - 1) * s.cell) (get_or-set_other places x y v 0 (λ here. n (ap (in_slot s) here ∙ own lk))) ∙ slant.slot y l n;
    };
    parity = λ _. omega (arith, get_or-set_same places x v 0 (omega (arith, x_low, slant.long)), z, parity_far s w of.rdp k i r on e full);
  }
    where
      v : ℕ
      v = at - r * s.cell

  -- the diagonal parity column is lost
  pub not_swapped : s.p ≤ k → Swapped s k i r places
  not_swapped lk = record { row = e; level = level; slant = slant; parity = λ l. absurd (omega arith) }
