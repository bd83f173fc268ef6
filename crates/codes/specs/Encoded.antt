-- What "encoded" means of a stripe's bytes: document 01, "Equations"; of a shelf with fewer disks document 02, request 01.
use Rattle.std.specs.Prelude.{◌≡◌, List, Bool, cond, not, ℕ, ◌+◌, ◌/◌, ◌%◌, ◌<◌, eqb, get_or}
use Rattle.xor.specs.Xor.{◌⊕◌, xors}
use Rattle.xor.specs.Sets.{any, count}
use Rattle.codes.specs.declared.Shape.{Shape}
use Rattle.codes.specs.Shape.{rows, cells, equations, cell_number}
use Rattle.codes.specs.Geometry.{cell_there, place}
use Rattle.codes.specs.Equations.{equation}

-- the number of the parity cell of equation q
unfoldable pub parity_cell : Shape → ℕ → ℕ
parity_cell s q = cell_number s (equation s q).row (equation s q).column

-- whether cell c is one of those that equation q sums
unfoldable pub sums_cell : Shape → ℕ → ℕ → Bool
sums_cell s q c = (equation s q).sums (c % rows s) (c / rows s)

-- byte t of cell c in the stripe with the zero columns put back: a cell that doesn't exist reads as zero
unfoldable pub byte_at : Shape → List ℕ → ℕ → ℕ → ℕ
byte_at s stripe c t = cond (cell_there s c) (get_or stripe (place s c + t) 0) 0

-- the XOR of f c over the cells c that equation q sums
unfoldable pub sum_over : Shape → ℕ → (ℕ → ℕ) → ℕ
sum_over s q f = xors (cells s) (λ c. cond (sums_cell s q c) (f c) 0)

-- the XOR of f c over all cells c of equation q, its parity cell too
unfoldable pub total : Shape → ℕ → (ℕ → ℕ) → ℕ
total s q f = f (parity_cell s q) ⊕ sum_over s q f

-- v has the right value in every parity cell: one value for each cell
abbrev pub Solves : Shape → (ℕ → ℕ) → Type 0
Solves s v = (q : ℕ) → q < equations s → v (parity_cell s q) ≡ sum_over s q v

-- the XOR of byte t of the cells that equation q sums
abbrev pub parity_byte : Shape → List ℕ → ℕ → ℕ → ℕ
parity_byte s stripe q t = sum_over s q (λ c. byte_at s stripe c t)

-- a stripe is encoded when every equation holds in every byte
pub record Encoded (s : Shape) (stripe : List ℕ) : Type 0 where
  pub holds : (q : ℕ) → q < equations s → (t : ℕ) → t < s.cell → byte_at s stripe (parity_cell s q) t ≡ parity_byte s stripe q t

-- whether cell c is a parity cell: some equation's; the remaining cells are data
unfoldable pub is_parity : Shape → ℕ → Bool
is_parity s c = any (equations s) (λ q. eqb (parity_cell s q) c)

-- whether equation q fails in at least one byte
unfoldable pub fails : Shape → List ℕ → ℕ → Bool
fails s stripe q = any s.cell (λ t. not (eqb (byte_at s stripe (parity_cell s q) t) (parity_byte s stripe q t)))

-- how many equations fail in at least one byte
unfoldable pub broken_equations : Shape → List ℕ → ℕ
broken_equations s stripe = count (equations s) (fails s stripe)
