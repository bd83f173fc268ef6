-- The search for the column that could explain what fails: in one byte, on the values that it has in each cell and the totals of the equations over
-- them; then in all bytes that are looked at.
use Rattle.std.specs.Prelude.{◌≡◌, ◌≢◌, List, cond, ℕ, ◌+◌, ◌/◌, ◌≤◌, ◌<◌, get_or, Option, MatchOption}
use Rattle.xor.specs.Xor.{◌⊕◌, xors}
use Rattle.bits.specs.Bit.{IsLowest}
use Rattle.codes.specs.declared.Shape.{Shape}
use Rattle.codes.specs.Shape.{rows, columns, cells, disks, equations, cell_number}
use Rattle.codes.specs.Geometry.{column_of}
use Rattle.codes.specs.Encoded.{byte_at, total, Solves}
use Rattle.codes.specs.Holders.{holds}
use Rattle.equation.specs.Window.{bytes_at}
use Rattle.bad.specs.declared.BadColumn.{BadColumn}
use Rattle.bad.specs.declared.BadColumn.TheVariants.{Clean, Column, Unexplained}

-- column c explains the values f: some solution agrees with f off column c
pub record Explains (s : Shape) (f : ℕ → ℕ) (c : ℕ) : Type 0 where
  pub inside : c < columns s
  pub mended : ℕ → ℕ
  pub solves : Solves s mended
  pub agree : (k : ℕ) → k < cells s → k / rows s ≢ c → mended k ≡ f k

-- the totals are those of all equations over the values f
pub record TotalsOf (s : Shape) (f : ℕ → ℕ) (totals : List ℕ) : Type 0 where
  pub of : (q : ℕ) → q < equations s → get_or totals q 0 ≡ total s q f

-- rest is what the totals become when the cells of a column, in the first n rows, each take in the total of the lowest equation that holds them
pub record Without (s : Shape) (totals : List ℕ) (column n : ℕ) (rest : List ℕ) : Type 0 where
  pub value : ℕ → ℕ
  pub by : (i : ℕ) → i < n → (q : ℕ) × IsLowest (equations s) (λ k. holds s k (cell_number s i column)) q × (value i ≡ get_or totals q 0)
  pub left : (q : ℕ) → q < equations s → get_or rest q 0 ≡ get_or totals q 0 ⊕ xors n (λ i. cond (holds s q (cell_number s i column)) (value i) 0)

-- what is given is the place of a column that explains any values with these totals; where nothing is, none that exists explains them
abbrev pub Candidate : Shape → List ℕ → Option ℕ → Type 0
Candidate s totals given = MatchOption given ((f : ℕ → ℕ) → TotalsOf s f totals → (d : ℕ) → d < disks s → Explains s f (column_of s d) → ⊥)
    (λ d. (d < disks s) × ((f : ℕ → ℕ) → TotalsOf s f totals → Explains s f (column_of s d)))

-- ---- n bytes of each cell, from byte `at` on

-- column c explains them: in each byte some solution agrees with the stripe off column c
pub record ExplainsIn (s : Shape) (stripe : List ℕ) (at n c : ℕ) : Type 0 where
  pub inside : c < columns s
  pub mended : ℕ → ℕ → ℕ
  pub solves : (i : ℕ) → i < n → Solves s (mended i)
  pub agree : (i : ℕ) → i < n → (k : ℕ) → k < cells s → k / rows s ≢ c → mended i k ≡ byte_at s stripe k (at + i)

-- no equation fails in them
abbrev pub CleanIn : Shape → List ℕ → ℕ → ℕ → Type 0
CleanIn s stripe at n = (i : ℕ) → i < n → Solves s (bytes_at s stripe (at + i))

-- what a finding says of them; a column is named as callers number it
abbrev pub FindingIn : Shape → List ℕ → ℕ → ℕ → BadColumn → Type 0
FindingIn s stripe at n Clean = CleanIn s stripe at n
FindingIn s stripe at n (Column d) = (CleanIn s stripe at n → ⊥) × (d < disks s) × ExplainsIn s stripe at n (column_of s d)
FindingIn s stripe at n Unexplained = (CleanIn s stripe at n → ⊥) × ((d : ℕ) → d < disks s → ExplainsIn s stripe at n (column_of s d) → ⊥)
