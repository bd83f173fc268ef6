-- A read plan for one lost column of RDP: document 01, "What each call gives"; of a shelf with fewer disks document 02, request 01.
use Rattle.std.specs.Prelude.{◌≡◌, Bool, cond, not, ◌&&◌, ◌||◌, ℕ, ◌+◌, ◌-◌, ◌/◌, ◌%◌, ◌^◌, ◌<◌, eqb, leb, ltb}
use Rattle.xor.specs.Sets.{any, count}
use Rattle.bits.specs.Bit.{bit}
use Rattle.codes.specs.declared.Shape.{Shape}
use Rattle.codes.specs.Shape.{rows, cells, cell_number}
use Rattle.codes.specs.Geometry.{cell_there}
use Rattle.codes.specs.Holders.{holds}

-- the diagonal of the cell in row i of column k: i+k mod p; in the diagonal parity column it is the row's own number
unfoldable pub diagonal : Shape → ℕ → ℕ → ℕ
diagonal s k i = cond (eqb k s.p) i ((i + k) % s.p)

-- the equation by which a plan takes row i of column k: its diagonal where bit i of the plan is 1, and its row where it is 0
unfoldable pub chosen : Shape → ℕ → ℕ → ℕ → ℕ
chosen s k plan i = cond (bit i plan) (rows s + diagonal s k i) i

-- whether the plan for column k reads cell c: it exists, and is another cell of the equation by which some row is taken
unfoldable pub reads_cell : Shape → ℕ → ℕ → ℕ → Bool
reads_cell s k plan c = cell_there s c && any (rows s) (λ i. holds s (chosen s k plan i) c && not (eqb c (cell_number s i k)))

-- how many cells of column j, as the equations number it, are read
unfoldable pub column_reads : Shape → ℕ → ℕ → ℕ → ℕ
column_reads s k plan j = count (rows s) (λ i. reads_cell s k plan (cell_number s i j))

-- the number of distinct cells read
unfoldable pub cells_read : Shape → ℕ → ℕ → ℕ
cells_read s k plan = count (cells s) (reads_cell s k plan)

-- whether the rule takes row i of column k by its diagonal: every row for k = p; else the lowest (p-1)/2 rows other than row p-1-k
unfoldable pub by_rule : Shape → ℕ → ℕ → Bool
by_rule s k i =
    eqb k s.p
    || (not (eqb (i + k) (s.p - 1)) && ltb (count i (λ j. not (eqb (j + k) (s.p - 1)))) ((s.p - 1) / 2))

-- a plan that takes by diagonal the rows that pass a test: no bit above p-2, and each row as the test says
pub record TakesRows (s : Shape) (test : ℕ → Bool) (plan : ℕ) : Type 0 where
  pub low : plan < 2 ^ rows s
  pub rule : (i : ℕ) → i < rows s → bit i plan ≡ test i

-- a plan by the rule
abbrev pub ByRule : Shape → ℕ → ℕ → Type 0
ByRule s k = TakesRows s (by_rule s k)

-- whether a plan is accepted: no bit above p-2, no diagonal for row p-1-k if k is 1 to p-1, and all p-1 bits if k = p
unfoldable pub is_accepted : Shape → ℕ → ℕ → Bool
is_accepted s k plan =
    ltb plan (2 ^ rows s)
    && ((not (leb 1 k && leb k (s.p - 1)) || not (bit (s.p - 1 - k) plan))
    && (not (eqb k s.p) || eqb plan (2 ^ rows s - 1)))
