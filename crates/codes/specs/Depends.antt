-- Which parity cells depend on a data cell.
use Rattle.std.specs.Prelude.{◌≡◌, true, false, cond, ◌&&◌, ◌||◌, ℕ, ◌<◌, eqb}
use Rattle.xor.specs.Sets.{any}
use Rattle.bits.specs.Bit.{bit}
use Rattle.codes.specs.declared.Shape.{Shape}
use Rattle.codes.specs.Shape.{rows, columns, equations, cell_number, stripe_length, WellFormed}
use Rattle.codes.specs.Geometry.{is_there}
use Rattle.codes.specs.Encoded.{parity_cell, is_parity, Solves}

-- the cell in a row and a column is in the stripe, and no parity cell
pub record DataCell (s : Shape) (row column : ℕ) : Type 0 where
  pub low : row < rows s
  pub right : column < columns s
  pub plain : is_parity s (cell_number s row column) ≡ false

-- a small write that can be made: a well-formed stripe of the right length, a data cell that exists by its row and column, and new bytes of a cell's length
pub record WriteRight (s : Shape) (bytes row column new : ℕ) : Type 0 where
  pub formed : WellFormed s
  pub long : bytes ≡ stripe_length s
  pub cell : DataCell s row column
  pub there : is_there s column ≡ true
  pub whole : new ≡ s.cell

-- 1 in cell c and in the parity cells of the equations in m, and 0 elsewhere
unfoldable pub unit_of : Shape → ℕ → ℕ → ℕ → ℕ
unit_of s c m k = cond (eqb k c || any (equations s) (λ q. bit q m && eqb (parity_cell s q) k)) 1 0

-- m is the set of the equations whose parity cells depend on data cell c: where 1 is put alone at c and encoded, these are 1
pub record DependOn (s : Shape) (c m : ℕ) : Type 0 where
  pub below : (q : ℕ) → bit q m ≡ true → q < equations s
  pub solves : Solves s (unit_of s c m)
