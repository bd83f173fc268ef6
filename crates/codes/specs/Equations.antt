-- The published equations of the four codes, line by line: document 01, "Equations", and for EVENODD document 02, request 03.
use Rattle.std.specs.Prelude.{Bool, cond, not, ◌&&◌, ◌||◌, ℕ, ◌+◌, ◌-◌, ◌%◌, eqb, ltb}
use Rattle.codes.specs.declared.Shape.{Shape}

-- an equation: the cell (row, column) is the XOR of all cells (i, j) that pass the test `sums`
pub record Equation : Type 0 where
  pub row : ℕ
  pub column : ℕ
  pub sums : ℕ → ℕ → Bool

-- RDP, row equation r: (r, p-1) is the XOR of (r, 0) to (r, p-2)
abbrev pub rdp_row : ℕ → ℕ → Equation
rdp_row p r = record { row = r; column = p - 1; sums = λ i j. eqb i r && ltb j (p - 1) }

-- RDP, diagonal equation d: (d, p) is the XOR of all cells (i, j), j from 0 to p-1 and i from 0 to p-2, with i+j = d mod p
abbrev pub rdp_diagonal : ℕ → ℕ → Equation
rdp_diagonal p d = record { row = d; column = p; sums = λ i j. ltb j p && (ltb i (p - 1) && eqb ((i + j) % p) d) }

-- H-Code, row equation r: (r, p) is the XOR of (r, j) for j from 0 to p-1 except r+1
abbrev pub hcode_row : ℕ → ℕ → Equation
hcode_row p r = record { row = r; column = p; sums = λ i j. eqb i r && (ltb j p && not (eqb j (r + 1))) }

-- H-Code, anti-diagonal equation r: (r, r+1) is the XOR of ((p-2-r+j) mod p, j) for j from 0 to p-1 except r+1
abbrev pub hcode_anti_diagonal : ℕ → ℕ → Equation
hcode_anti_diagonal p r = record { row = r; column = r + 1; sums = λ i j. ltb j p && (not (eqb j (r + 1)) && eqb i ((p - 2 - r + j) % p)) }

-- X-Code, first family, column c: (p-2, c) is the XOR of (k, (c+k+2) mod p), k from 0 to p-3
abbrev pub xcode_first : ℕ → ℕ → Equation
xcode_first p c = record { row = p - 2; column = c; sums = λ k j. ltb k (p - 2) && eqb j ((c + k + 2) % p) }

-- X-Code, second family, column c: (p-1, c) is the XOR of (k, (c-k-2) mod p), k from 0 to p-3; p is added so that c-k-2 is no less than 0
abbrev pub xcode_second : ℕ → ℕ → Equation
xcode_second p c = record { row = p - 1; column = c; sums = λ k j. ltb k (p - 2) && eqb j ((p + c - k - 2) % p) }

-- EVENODD, row equation r: (r, p) is the XOR of (r, 0) to (r, p-1)
abbrev pub evenodd_row : ℕ → ℕ → Equation
evenodd_row p r = record { row = r; column = p; sums = λ i j. eqb i r && ltb j p }

-- EVENODD, the cells whose XOR is S: (p-1-j, j) for j from 1 to p-1
abbrev pub evenodd_s : ℕ → ℕ → ℕ → Bool
evenodd_s p i j = ltb 0 j && (ltb j p && eqb i (p - 1 - j))

-- EVENODD, diagonal equation d: (d, p+1) is S and the XOR of all data cells (i, j) with i+j = d mod p; the cells of S have i+j = p-1, so none counts twice
abbrev pub evenodd_diagonal : ℕ → ℕ → Equation
evenodd_diagonal p d = record { row = d; column = p + 1; sums = λ i j. evenodd_s p i j || (ltb j p && eqb ((i + j) % p) d) }

-- a code at a prime: the rows and columns of its stripes, and two families of equations, `size` in each
pub record Code : Type 0 where
  pub rows : ℕ
  pub columns : ℕ
  pub size : ℕ
  pub first : ℕ → Equation
  pub second : ℕ → Equation

-- RDP: p-1 rows, p+1 columns, 2(p-1) equations
abbrev pub rdp : ℕ → Code
rdp p = record { rows = p - 1; columns = p + 1; size = p - 1; first = rdp_row p; second = rdp_diagonal p }

-- H-Code: p-1 rows, p+1 columns, 2(p-1) equations
abbrev pub hcode : ℕ → Code
hcode p = record { rows = p - 1; columns = p + 1; size = p - 1; first = hcode_row p; second = hcode_anti_diagonal p }

-- X-Code: p rows, p columns, 2p equations
abbrev pub xcode : ℕ → Code
xcode p = record { rows = p; columns = p; size = p; first = xcode_first p; second = xcode_second p }

-- EVENODD: p-1 rows, p+2 columns, 2(p-1) equations
abbrev pub evenodd : ℕ → Code
evenodd p = record { rows = p - 1; columns = p + 2; size = p - 1; first = evenodd_row p; second = evenodd_diagonal p }

-- the code of a stripe: 1 is RDP, 2 is H-Code, 3 is X-Code, 4 is EVENODD
abbrev pub code_of : Shape → Code
code_of s = let p = s.p in cond (eqb s.code 1) (rdp p) (cond (eqb s.code 2) (hcode p) (cond (eqb s.code 3) (xcode p) (evenodd p)))

-- equation q of a stripe: they are numbered from 0, first family first
unfoldable pub equation : Shape → ℕ → Equation
equation s q = let c = code_of s in cond (ltb q c.size) (c.first q) (c.second (q - c.size))
