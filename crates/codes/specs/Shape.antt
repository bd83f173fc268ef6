-- The shape of a stripe: document 01, "Numbers and the lent stripe", for RDP with fewer data columns document 02, request 01, and the fourth code, request 03.
use Rattle.std.specs.Prelude.{◌≡◌, Bool, true, false, not, ◌||◌, ℕ, ◌+◌, ◌-◌, ◌*◌, ◌≤◌, eqb, leb, Option, None, Some}
use Rattle.codes.specs.declared.Shape.{Shape}
use Rattle.codes.specs.Equations.{code_of}

-- codes are numbered from 1 to this
abbrev pub last_code : ℕ
last_code = 4

-- p is one of the ten primes
unfoldable pub listed : ℕ → Bool
listed p = eqb p 3 || eqb p 5 || eqb p 7 || eqb p 11 || eqb p 13 || eqb p 17 || eqb p 19 || eqb p 23 || eqb p 29 || eqb p 31

-- the most bytes that a cell may have
abbrev pub most_cell : ℕ
most_cell = 4096

-- rows of a stripe
unfoldable pub rows : Shape → ℕ
rows s = (code_of s).rows

-- columns of a stripe as the equations number them
unfoldable pub columns : Shape → ℕ
columns s = (code_of s).columns

-- equations of a stripe, those of both families
unfoldable pub equations : Shape → ℕ
equations s = 2 * (code_of s).size

-- cells of a stripe as the equations number them
unfoldable pub cells : Shape → ℕ
cells s = columns s * rows s

-- the number of the cell in a row and a column
unfoldable pub cell_number : Shape → ℕ → ℕ → ℕ
cell_number s row column = column * rows s + row

-- how many of the p-1 data columns don't exist: none where their number is not given, and all but m where m is
abbrev pub without : ℕ → Option ℕ → ℕ
without p None = 0
without p (Some m) = p - 1 - m

-- of a stripe
unfoldable pub missing : Shape → ℕ
missing s = without s.p s.width

-- whether a number m of data columns is given that can't be: m outside 1 to p-1, or given for another code than RDP
abbrev pub wrong_data : ℕ → ℕ → Option ℕ → Bool
wrong_data code p None = false
wrong_data code p (Some m) = not (eqb code 1) || (eqb m 0 || leb p m)

-- columns that exist, each on a disk of its own
unfoldable pub disks : Shape → ℕ
disks s = columns s - missing s

-- cells that exist
unfoldable pub existing : Shape → ℕ
existing s = disks s * rows s

-- the length of a stripe in bytes
unfoldable pub stripe_length : Shape → ℕ
stripe_length s = existing s * s.cell

-- the numbers are in their ranges
pub record WellFormed (s : Shape) : Type 0 where
  pub code_low : 1 ≤ s.code
  pub code_high : s.code ≤ last_code
  pub prime : listed s.p ≡ true
  pub cell_low : 1 ≤ s.cell
  pub cell_high : s.cell ≤ most_cell
  pub wide : wrong_data s.code s.p s.width ≡ false
