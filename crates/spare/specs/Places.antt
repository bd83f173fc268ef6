-- Where the cells start from which rows are rebuilt, listed for all rows at once, and a row that is to be rebuilt.
use Rattle.std.specs.Prelude.{◌≡◌, ◌≢◌, List, true, cond, ℕ, ◌+◌, ◌-◌, ◌*◌, ◌%◌, ◌≤◌, ◌<◌, eqb, length, get_or, take, drop}
use Rattle.xor.specs.Runs.{sum_at, Inside, Put}
use Rattle.codes.specs.declared.Shape.{Shape}
use Rattle.codes.specs.Shape.{rows, cell_number, missing, stripe_length}
use Rattle.codes.specs.Geometry.{column_of, place}
use Rattle.codes.specs.Encoded.{byte_at}
use Rattle.plan.specs.Plan.{chosen, is_accepted}
use Rattle.plan.specs.Right.{RdpColumn}
use Rattle.spare.specs.declared.Window.{Window}
use Rattle.spare.specs.Run.{others, rebuilt_byte}

-- where column j starts
abbrev pub starts : Shape → ℕ → ℕ
starts s j = place s (cell_number s 0 j)

-- slots 64 on have, for each of the first p columns, where it starts; the row parity column's start stands in for column k's, where rows sum that
pub record LevelPlaces (s : Shape) (k : ℕ) (places : List ℕ) : Type 0 where
  pub other : (j : ℕ) → j < s.p → j ≢ k → get_or places (64 + j) 0 ≡ starts s j
  pub parity : k < s.p - 1 → get_or places (64 + k) 0 ≡ starts s (s.p - 1)

-- the column that leads: the one that lies first, or column 0 where that is the diagonal parity column
unfoldable pub leader : Shape → ℕ
leader s = column_of s 0 % s.p

-- the column that slot x is for: slot p-1 is for the one that leads, and each next slot for the column before, from column 0 back to p-1
unfoldable pub in_slot : Shape → ℕ → ℕ
in_slot s x = (s.p - 1 + s.p - x + leader s) % s.p

-- two slots of a column: places' are the places with `above` in slot p-1-t and `below` p slots later, and all other slots kept
pub record ColumnPut (p t above below : ℕ) (places places' : List ℕ) : Type 0 where
  pub long : length places' ≡ length places
  pub first : get_or places' (p - 1 - t) 0 ≡ above
  pub second : get_or places' (p - 1 - t + p) 0 ≡ below
  pub beyond : (x : ℕ) → 64 ≤ x → get_or places' x 0 ≡ get_or places x 0
  pub kept : (m : ℕ) → m < p → m ≢ t → (get_or places' (p - 1 - m) 0 ≡ get_or places (p - 1 - m) 0) × (get_or places' (p - 1 - m + p) 0 ≡ get_or places (p - 1 - m + p) 0)

-- slot x has where its column starts, and x cells more, all less p-1 cells; but for column k's slots
pub record SlantPlaces (s : Shape) (k : ℕ) (places : List ℕ) : Type 0 where
  pub long : length places ≡ 96
  pub slot : (x : ℕ) → x < s.p - 1 + s.p → in_slot s x ≢ k → get_or places x 0 + (s.p - 1) * s.cell ≡ starts s (in_slot s x) + x * s.cell

-- row i of a lost column is to be rebuilt by an accepted plan
pub record RowRight (s : Shape) (k plan i : ℕ) : Type 0 where
  pub of : RdpColumn s k
  pub accepted : is_accepted s k plan ≡ true
  pub row : i < rows s

-- of a stripe the bytes that are `at` past the places have as their sum the other cells of equation q than cell own
pub record OthersAt (s : Shape) (q own at : ℕ) (places : List ℕ) : Type 0 where
  pub inside : Inside (stripe_length s) places (at + s.cell)
  pub sum : (stripe : List ℕ) (t : ℕ) → sum_at stripe places (at + t) ≡ others s q own (λ c. byte_at s stripe c t)

-- the place that is summed in a place's stead: for that of the own cell the last one
abbrev pub stand_in : ℕ → ℕ → ℕ → ℕ
stand_in own last place = cond (eqb place own) last place

-- the places have the first n of those of `cells`, with the last one in the stead of the own cell's; those after them are kept
pub record OthersPut (n own last : ℕ) (cells places : List ℕ) : Type 0 where
  pub long : length places ≡ 32
  pub at : (j : ℕ) → j < n → get_or places j 0 ≡ stand_in own last (get_or cells j 0)
  pub after : (j : ℕ) → n ≤ j → get_or places j 0 ≡ get_or cells j 0

-- the first n places are where the other cells start of the equation by which a plan takes row i of column k
pub record OthersListed (s : Shape) (k plan i n : ℕ) (places : List ℕ) : Type 0 where
  pub few : n ≤ 32
  pub long : length places ≡ 32
  pub cells : OthersAt s (chosen s k plan i) (cell_number s i k) 0 (take n places)

-- the p-1 places from a window's start on
abbrev pub seen : Shape → Window → List ℕ → List ℕ
seen s w places = take (w.from + (s.p - 1) - w.from) (drop w.from places)

-- the window has where the other cells start of the equation by which a plan takes row i of column k, and the list stays as it was for other rows
pub record Aimed (s : Shape) (k plan i : ℕ) (w : Window) (places : List ℕ) : Type 0 where
  pub inside : w.from + (s.p - 1) ≤ 96
  pub ahead : w.ahead < s.p
  pub level : LevelPlaces s k places
  pub slant : SlantPlaces s k places
  pub cells : OthersAt s (chosen s k plan i) (cell_number s i k) (w.ahead * s.cell) (seen s w places)

-- row i of column k, from a stripe of so many bytes all of whose columns exist, with where the cells start listed, and so many bytes of the spare for it
pub record RowReady (s : Shape) (bytes lead k i : ℕ) (places : List ℕ) (part : ℕ) : Type 0 where
  pub row : i < rows s
  pub full : missing s ≡ 0
  pub leads : lead ≡ leader s
  pub long : bytes ≡ stripe_length s
  pub level : LevelPlaces s k places
  pub slant : SlantPlaces s k places
  pub whole : part ≡ s.cell

-- the row's part of the spare has it, and the list is there for the next
pub record RowDone (s : Shape) (k plan i : ℕ) (stripe old new places : List ℕ) : Type 0 where
  pub put : Put old 0 s.cell (rebuilt_byte s k plan stripe i) new
  pub level : LevelPlaces s k places
  pub slant : SlantPlaces s k places
