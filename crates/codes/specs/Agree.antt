-- Two stripes that agree on some of their cells.
use Rattle.std.specs.Prelude.{◌≡◌, List, Bool, false, ◌||◌, ℕ, ◌/◌, ◌<◌, eqb}
use Rattle.codes.specs.declared.Shape.{Shape}
use Rattle.codes.specs.Shape.{rows, cells}
use Rattle.codes.specs.Geometry.{column_of}
use Rattle.codes.specs.Encoded.{byte_at}

-- a and b agree on every cell but those that pass the test
pub record Agree (s : Shape) (but : ℕ → Bool) (a b : List ℕ) : Type 0 where
  pub same : (c : ℕ) → c < cells s → but c ≡ false → (t : ℕ) → t < s.cell → byte_at s a c t ≡ byte_at s b c t

-- whether cell c lies in column a or in column b
unfoldable pub in_columns : Shape → ℕ → ℕ → ℕ → Bool
in_columns s a b c = eqb (c / rows s) a || eqb (c / rows s) b

-- whether cell c lies in the columns that a caller calls a and b
abbrev pub callers_columns : Shape → ℕ → ℕ → ℕ → Bool
callers_columns s a b = in_columns s (column_of s a) (column_of s b)
