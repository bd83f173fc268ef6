-- The bytes of a rebuild job and of its answer: document 01, "The job program"; for an absent cell size document 02, request 02.
use Rattle.std.specs.Prelude.{List, [], ◌∷◌, ◌++◌, ℕ, zero, suc, ◌/◌, ◌%◌, ◌≤◌, length, None}
use Rattle.codes.specs.declared.Shape.{Shape}

-- how many lost cell numbers a job may have
abbrev pub most_lost : ℕ
most_lost = 2048

-- how many bytes of stripe
abbrev pub most_stripe : ℕ
most_stripe = 32768

-- the cell size of a job without field 03
abbrev pub absent_cell : ℕ
absent_cell = 1024

-- the refusal of bytes that are no job's
abbrev pub no_job_refusal : ℕ
no_job_refusal = 13

-- a number in two bytes, high byte first
unfoldable pub two_bytes_of : ℕ → List ℕ
two_bytes_of n = n / 256 ∷ n % 256 ∷ []

-- a field: a one-byte tag, the length of the content in two bytes, then the content
unfoldable pub field : ℕ → List ℕ → List ℕ
field tag content = tag ∷ (two_bytes_of (length content) ++ content)

-- numbers one after the other, two bytes each
unfoldable pub numbers : List ℕ → List ℕ
numbers [] = []
numbers (n ∷ rest) = two_bytes_of n ++ numbers rest

-- the cell size that a job gives; it may be absent
pub data CellSize : Type 0 where
  absent : CellSize
  given : ℕ → CellSize

-- what a job holds: code, p, cell size, the numbers of the lost cells, and the stripe
pub record Job : Type 0 where
  pub code : ℕ
  pub p : ℕ
  pub cell : CellSize
  pub lost : List ℕ
  pub stripe : List ℕ

-- field 03 with the cell size, or nothing where it is absent
abbrev pub cell_field : CellSize → List ℕ
cell_field absent = []
cell_field (given n) = field 3 (two_bytes_of n)

-- the cell size of a job
abbrev pub cell_size : CellSize → ℕ
cell_size absent = absent_cell
cell_size (given n) = n

-- the bytes of a job: its fields in this order, once each, and nothing after them
unfoldable pub job_bytes : Job → List ℕ
job_bytes j = field 1 (j.code ∷ []) ++ (field 2 (j.p ∷ []) ++ (cell_field j.cell ++ (field 4 (numbers j.lost) ++ field 5 j.stripe)))

-- a job keeps the limits
pub record Fits (j : Job) : Type 0 where
  pub few : length j.lost ≤ most_lost
  pub short : length j.stripe ≤ most_stripe

-- the shape of a job's stripe, which is of full width
abbrev pub shape_of : Job → Shape
shape_of j = record { code = j.code; p = j.p; cell = cell_size j.cell; width = None }

-- the bytes of an answer: field 06 with 0 or the refusal number, and after 0 field 05 with the stripe
unfoldable pub answer_bytes : ℕ → List ℕ → List ℕ
answer_bytes zero stripe = field 6 (0 ∷ []) ++ field 5 stripe
answer_bytes (suc n) stripe = field 6 (suc n ∷ [])
