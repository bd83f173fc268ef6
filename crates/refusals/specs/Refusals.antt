-- The refusals of every call, and their order: document 01, "Refusal numbers", and document 02.
use Rattle.std.specs.Prelude.{List, [], ◌∷◌, ◌++◌, Bool, false, cond, not, ◌&&◌, ◌||◌, ℕ, eqb, leb, ltb, length, get_or}
use Rattle.xor.specs.Sets.{any}
use Rattle.codes.specs.declared.Shape.{Shape}
use Rattle.codes.specs.Shape.{last_code, listed, most_cell, wrong_data, rows, missing, disks, existing, stripe_length}
use Rattle.codes.specs.Geometry.{cell_at}
use Rattle.codes.specs.Encoded.{is_parity}

-- a refusal's number, and whether it applies
pub record Fault : Type 0 where
  pub number : ℕ
  pub applies : Bool

-- the refusal numbers in the order in which they go before each other
unfoldable pub order : List ℕ
order = 13 ∷ 1 ∷ 2 ∷ 14 ∷ 3 ∷ 15 ∷ 4 ∷ 5 ∷ 6 ∷ 7 ∷ 8 ∷ 9 ∷ 10 ∷ 11 ∷ 12 ∷ []

-- whether refusal n is among the faults and applies
unfoldable pub applies : List Fault → ℕ → Bool
applies [] n = false
applies (f ∷ faults) n = (eqb f.number n && f.applies) || applies faults n

-- the first number of a list whose refusal applies; 0 where none does
unfoldable pub first_of : List ℕ → List Fault → ℕ
first_of [] faults = 0
first_of (n ∷ numbers) faults = cond (applies faults n) n (first_of numbers faults)

-- the refusal that is given: the first in order that applies; 0 where none does
unfoldable pub refusal : List Fault → ℕ
refusal faults = first_of order faults

-- refusal n, where the test says so
abbrev pub fault : ℕ → Bool → Fault
fault n applies = record { number = n; applies = applies }

-- the refusals of a code, a prime and a number of data columns
abbrev pub code_faults : Shape → List Fault
code_faults s =
    fault 1 (eqb s.code 0) ∷ fault 1 (ltb last_code s.code) ∷ fault 2 (not (listed s.p)) ∷ fault 14 (wrong_data s.code s.p s.width) ∷ []

-- some data column doesn't exist, where a call is for full width alone
abbrev pub not_full : Shape → Fault
not_full s = fault 14 (ltb 0 (missing s))

-- the refusals of a cell size
abbrev pub size_faults : Shape → List Fault
size_faults s = fault 4 (eqb s.cell 0) ∷ fault 4 (ltb most_cell s.cell) ∷ []

-- the refusals of every call that is told the shape of a stripe
unfoldable pub shape_faults : Shape → List Fault
shape_faults s = code_faults s ++ size_faults s

-- a buffer of so many bytes where another length is right
abbrev pub other_length : ℕ → ℕ → Fault
other_length bytes right = fault 5 (not (eqb bytes right))

-- the refusals of every call on a lent stripe of so many bytes
unfoldable pub stripe_faults : Shape → ℕ → List Fault
stripe_faults s bytes = shape_faults s ++ other_length bytes (stripe_length s) ∷ []

-- a row, a column or a cell number that is not below its bound
abbrev pub outside : ℕ → ℕ → Fault
outside n bound = fault 6 (leb bound n)

-- the refusals of a small write of so many new bytes to a row and a column
unfoldable pub write_faults : Shape → ℕ → ℕ → ℕ → ℕ → List Fault
write_faults s bytes row column new =
    stripe_faults s bytes
    ++ outside row (rows s) ∷ outside column (disks s) ∷ fault 7 (is_parity s (cell_at s row column)) ∷ fault 8 (not (eqb new s.cell)) ∷ []

-- the refusals of a rebuild of the cells that a list names
unfoldable pub cells_faults : Shape → ℕ → List ℕ → List Fault
cells_faults s bytes numbers = stripe_faults s bytes ++ fault 6 (any (length numbers) (λ k. leb (existing s) (get_or numbers k 0))) ∷ []

-- the refusals of a rebuild of two columns
unfoldable pub columns_faults : Shape → ℕ → ℕ → ℕ → List Fault
columns_faults s bytes a b = stripe_faults s bytes ++ outside a (disks s) ∷ outside b (disks s) ∷ []
