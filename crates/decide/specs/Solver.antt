-- How lost cells are found: for each a set of equations, and sets that check the survivors. A set is a number; bit r tells whether equation r is in it.
use Rattle.std.specs.Prelude.{◌≡◌, List, Bool, true, false, cond, ℕ, ◌≤◌, ◌<◌, eqb, length, get_or, map}
use Rattle.xor.specs.Xor.{◌⊕◌, xors}
use Rattle.bits.specs.Bit.{bit, Within}
use Rattle.solve.specs.Masked.{Lists}
use Rattle.codes.specs.declared.Shape.{Shape}
use Rattle.codes.specs.Shape.{cells, equations}
use Rattle.codes.specs.Geometry.{cell_there}
use Rattle.codes.specs.Encoded.{Solves, total}
use Rattle.codes.specs.Holders.{holds}
use Rattle.decide.specs.declared.Lost.{Lost}

-- the XOR of the totals of the equations in the set m
unfoldable pub summed : Shape → ℕ → (ℕ → ℕ) → ℕ
summed s m f = xors (equations s) (λ r. cond (bit r m) (total s r f) 0)

-- f with the sum of set j XORed into lost cell number j, for each j below k
unfoldable pub mended : Shape → List ℕ → List ℕ → ℕ → (ℕ → ℕ) → ℕ → ℕ
mended s lostCells sets k f c = f c ⊕ xors k (λ j. cond (eqb (get_or lostCells j 0) c) (summed s (get_or sets j 0) f) 0)

-- the lost cells of a map
abbrev pub lost_in : List Bool → ℕ → Bool
lost_in map c = get_or map c false

-- every lost cell exists
abbrev pub OnlyThere : Shape → (ℕ → Bool) → Type 0
OnlyThere s lost = (c : ℕ) → c < cells s → lost c ≡ true → cell_there s c ≡ true

-- the lost cells of a list, and the sets that give them
abbrev pub cells_of : List Lost → List ℕ
cells_of list = map (λ x. x.cell) list

abbrev pub sets_of : List Lost → List ℕ
sets_of list = map (λ x. x.set) list

-- all lost cells are listed by rising number, and they are no more than the equations
pub record Listed (s : Shape) (lostMap : List Bool) (list : List Lost) : Type 0 where
  pub lists : Lists (cells s) (lost_in lostMap) (length list) (λ k. get_or (cells_of list) k 0)
  pub few : length list ≤ equations s

-- set k is the source that the list names at k
pub record Gathered (list sources : List ℕ) (n : ℕ) (sets : List ℕ) : Type 0 where
  pub set : (k : ℕ) → k < n → get_or sets k 0 ≡ get_or sources (get_or list k 0) 0

-- the checks are the sources of the unused equations
pub record Checks (unused : ℕ) (sources checks : List ℕ) : Type 0 where
  pub few : length checks ≤ 64
  pub made : (j : ℕ) → j < length checks → (q : ℕ) × (bit q unused ≡ true) × (get_or checks j 0 ≡ get_or sources q 0)
  pub all : (q : ℕ) → q < 64 → bit q unused ≡ true → (j : ℕ) × (j < length checks) × (get_or checks j 0 ≡ get_or sources q 0)

-- the first n lost cells exist in the stripe
pub record CellsIn (s : Shape) (n : ℕ) (lostCells : List ℕ) : Type 0 where
  pub inside : (k : ℕ) → k < n → get_or lostCells k 0 < cells s
  pub there : (k : ℕ) → k < n → cell_there s (get_or lostCells k 0) ≡ true

-- the first n sets hold numbers of equations only
pub record Sets (s : Shape) (n : ℕ) (sets : List ℕ) : Type 0 where
  pub few : n ≤ 64
  pub within : (j : ℕ) → j < n → Within (equations s) (get_or sets j 0)

-- bit k of mask q tells whether equation q holds lost cell number k
pub record Rows (s : Shape) (u : ℕ) (lostCells rows : List ℕ) : Type 0 where
  pub bits : (q : ℕ) → q < equations s → (k : ℕ) → k < u → bit k (get_or rows q 0) ≡ holds s q (get_or lostCells k 0)
  pub none : (q : ℕ) → q < equations s → (k : ℕ) → u ≤ k → bit k (get_or rows q 0) ≡ false

-- the lost cells are listed, each set gives its lost cell, and the checks tell whether there is a solution with the same survivors
pub record Solver (s : Shape) (lost : ℕ → Bool) (u : ℕ) (lostCells sets : List ℕ) (v : ℕ) (checks : List ℕ) : Type 0 where
  pub listed : Lists (cells s) lost u (λ k. get_or lostCells k 0)
  pub gives : Sets s u sets
  pub tests : Sets s v checks
  -- what solves the equations with the same survivors passes the checks
  pub needed : (f g : ℕ → ℕ) → Solves s g → ((c : ℕ) → c < cells s → lost c ≡ false → f c ≡ g c) → (j : ℕ) → j < v → summed s (get_or checks j 0) f ≡ 0
  -- what passes them is mended to a solution
  pub solves : (f : ℕ → ℕ) → ((j : ℕ) → j < v → summed s (get_or checks j 0) f ≡ 0) → Solves s (mended s lostCells sets u f)
  -- and there is no other
  pub unique : (f g : ℕ → ℕ) → Solves s f → Solves s g → ((c : ℕ) → c < cells s → lost c ≡ false → f c ≡ g c) → (c : ℕ) → c < cells s → f c ≡ g c
