-- How the cells that an equation sums are found one after the other: those of them that exist, and apart from them those that several equations share.
use Rattle.std.specs.Prelude.{◌≡◌, ◌⊎◌, List, Bool, true, false, cond, not, ◌&&◌, ℕ, zero, suc, ◌+◌, ◌*◌, ◌/◌, ◌%◌, ◌≤◌, ◌<◌, eqb, leb, ltb, length, get_or, is_some, unwrap_or}
use Rattle.xor.specs.Xor.{◌⊕◌, xors}
use Rattle.codes.specs.declared.Shape.{Shape}
use Rattle.codes.specs.declared.Line.{Line}
use Rattle.codes.specs.declared.Walk.{Walk}
use Rattle.codes.specs.declared.Sources.{Sources}
use Rattle.codes.specs.Shape.{rows, cells, stripe_length}
use Rattle.codes.specs.Geometry.{cell_there, callers_cell, place}
use Rattle.codes.specs.Equations.{evenodd_s}
use Rattle.codes.specs.Encoded.{parity_cell, sums_cell, byte_at}

-- whether one sum of cells is a part of several equations: EVENODD's S is a part of its diagonals
unfoldable pub shares : Shape → Bool
shares s = eqb s.code 4

-- whether cell c is one of the cells of that sum, the shared ones
unfoldable pub shares_cell : Shape → ℕ → Bool
shares_cell s c = shares s && evenodd_s s.p (c % rows s) (c / rows s)

-- whether that sum is a part of equation q
unfoldable pub takes_shared : Shape → ℕ → Bool
takes_shared s q = shares s && leb (rows s) q

-- whether cell c is one that equation q sums by itself
unfoldable pub own_cell : Shape → ℕ → ℕ → Bool
own_cell s q c = sums_cell s q c && not (takes_shared s q && shares_cell s c)

-- the XOR of f c over the cells c that pass a test
unfoldable pub sum_where : Shape → (ℕ → Bool) → (ℕ → ℕ) → ℕ
sum_where s test f = xors (cells s) (λ c. cond (test c) (f c) 0)

-- the XOR over the shared cells
abbrev pub shared_sum : Shape → (ℕ → ℕ) → ℕ
shared_sum s = sum_where s (shares_cell s)

-- the XOR over the cells that equation q sums by itself, and its parity cell
abbrev pub own_total : Shape → ℕ → (ℕ → ℕ) → ℕ
own_total s q f = f (parity_cell s q) ⊕ sum_where s (own_cell s q) f

-- cell k of a line, by its number as cells lie: each is `step` cells on from the one before, but cell `turn`, which is `second`
unfoldable pub walked : Line → ℕ → ℕ
walked l zero = l.first
walked l (suc k) = cond (eqb (suc k) l.turn) l.second (walked l k + l.step)

-- the cells of a line: those that it walks, and behind them the extra one, if there is one
unfoldable pub line_count : Line → ℕ
line_count l = cond (is_some l.extra) (l.count + 1) l.count

unfoldable pub line_cell : Line → ℕ → ℕ
line_cell l k = cond (ltb k l.count) (walked l k) (unwrap_or l.extra 0)

-- the line is short, and its cells stay inside a stripe
pub record Short (l : Line) : Type 0 where
  pub few : line_count l ≤ 31
  pub first : l.first ≤ 1024
  pub step : l.step ≤ 1024
  pub second : l.second ≤ 1024
  pub extra : unwrap_or l.extra 0 ≤ 1024
  pub at : (k : ℕ) → k < l.count → walked l k ≤ 1024

-- the line goes through the cells that pass a test and exist, once through each
pub record Covers (s : Shape) (test : ℕ → Bool) (l : Line) : Type 0 where
  pub short : Short l
  pub cell : ℕ → ℕ
  pub inside : (k : ℕ) → k < line_count l → cell k < cells s
  pub there : (k : ℕ) → k < line_count l → cell_there s (cell k) ≡ true
  pub at : (k : ℕ) → k < line_count l → line_cell l k ≡ callers_cell s (cell k)
  pub passes : (k : ℕ) → k < line_count l → test (cell k) ≡ true
  pub sum : (f : ℕ → ℕ) → ((c : ℕ) → cell_there s c ≡ false → f c ≡ 0) → sum_where s test f ≡ xors (line_count l) (λ k. f (cell k))

-- the parity cell is that of equation q, and the line goes through the cells that it sums by itself
pub record Walks (s : Shape) (q : ℕ) (w : Walk) : Type 0 where
  pub to : w.to ≡ callers_cell s (parity_cell s q)
  pub own : Covers s (own_cell s q) w.own

-- the places begin with those of the cells that a line walks
pub record Placed (s : Shape) (l : Line) (places : List ℕ) : Type 0 where
  pub long : length places ≡ 32
  pub at : (k : ℕ) → k < l.count → get_or places k 0 ≡ walked l k * s.cell

-- the places begin with those of all cells of a line, and n is how many they are
pub record PlacedAll (s : Shape) (l : Line) (n : ℕ) (places : List ℕ) : Type 0 where
  pub all : n ≡ line_count l
  pub long : length places ≡ 32
  pub at : (k : ℕ) → k < n → get_or places k 0 ≡ line_cell l k * s.cell

-- `places` begins with the places of n cells, whose XOR is `sum` of the values that a byte has in each cell
pub record Listing (s : Shape) (sum : (ℕ → ℕ) → ℕ) (n : ℕ) (places : List ℕ) : Type 0 where
  pub few : n ≤ 32
  pub long : length places ≡ 32
  pub inside : (k : ℕ) → k < n → get_or places k 0 + s.cell ≤ stripe_length s
  pub is : (stripe : List ℕ) (t : ℕ) → xors n (λ k. get_or stripe (get_or places k 0 + t) 0) ≡ sum (λ c. byte_at s stripe c t)

-- r has the place of the parity cell of equation q, and `places` begins with the places of the cells that it sums by itself
pub record Found (s : Shape) (q : ℕ) (r : Sources) (places : List ℕ) : Type 0 where
  pub to : r.to ≡ place s (parity_cell s q)
  pub few : r.count < 32
  pub ends : r.to + s.cell ≤ stripe_length s
  pub apart : (k : ℕ) → k < r.count → (get_or places k 0 + s.cell ≤ r.to) ⊎ (r.to + s.cell ≤ get_or places k 0)
  pub listed : Listing s (sum_where s (own_cell s q)) r.count places

-- `places` begins with the places of the n cells that equation q has by itself, its parity cell too
abbrev pub Holding : Shape → ℕ → ℕ → List ℕ → Type 0
Holding s q = Listing s (own_total s q)

-- `places` begins with the places of the n shared cells
abbrev pub Sharing : Shape → ℕ → List ℕ → Type 0
Sharing s = Listing s (shared_sum s)
