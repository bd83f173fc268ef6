-- Where the cells of a stripe lie in the lent buffer. Callers number the columns as they lie there; the equations number them as published.
use Rattle.std.specs.Prelude.{Bool, cond, ◌||◌, ℕ, ◌+◌, ◌-◌, ◌*◌, ◌/◌, ◌%◌, ltb, leb}
use Rattle.codes.specs.declared.Shape.{Shape}
use Rattle.codes.specs.Shape.{rows, missing, cell_number}

-- the first column that need not exist: m where m data columns are given, as columns m to p-2 don't exist then
abbrev pub gap : Shape → ℕ
gap s = s.p - 1 - missing s

-- whether column j, as the equations number it, exists
unfoldable pub is_there : Shape → ℕ → Bool
is_there s j = ltb j (gap s) || leb (s.p - 1) j

-- whether cell c exists
unfoldable pub cell_there : Shape → ℕ → Bool
cell_there s c = is_there s (c / rows s)

-- the column, as the equations number it, that lies at place d: those after the data columns keep their numbers p-1 and p
unfoldable pub column_of : Shape → ℕ → ℕ
column_of s d = cond (ltb d (gap s)) d (d + missing s)

-- where column j, as the equations number it, lies
unfoldable pub lies_at : Shape → ℕ → ℕ
lies_at s j = cond (ltb j (gap s)) j (j - missing s)

-- the cell in a row and in the column that a caller calls d
abbrev pub cell_at : Shape → ℕ → ℕ → ℕ
cell_at s row d = cell_number s row (column_of s d)

-- the equations' number of the cell that a caller calls c
unfoldable pub cell_of : Shape → ℕ → ℕ
cell_of s c = cell_at s (c % rows s) (c / rows s)

-- what a caller calls cell c
unfoldable pub callers_cell : Shape → ℕ → ℕ
callers_cell s c = cell_number s (c % rows s) (lies_at s (c / rows s))

-- where in the buffer cell c starts
unfoldable pub place : Shape → ℕ → ℕ
place s c = callers_cell s c * s.cell
