-- One equation on a window: n bytes of each cell of a stripe, from byte `at` on.
use Rattle.std.specs.Prelude.{◌≡◌, List, Bool, true, not, ℕ, ◌+◌, ◌≤◌, ◌<◌, eqb, length, get_or}
use Rattle.xor.specs.Sets.{any}
use Rattle.xor.specs.Runs.{Says}
use Rattle.codes.specs.declared.Shape.{Shape}
use Rattle.codes.specs.Shape.{cells, stripe_length, WellFormed}
use Rattle.codes.specs.Encoded.{parity_cell, byte_at, parity_byte, total}
use Rattle.codes.specs.Lines.{shares, shared_sum}

-- byte t of each cell
abbrev pub bytes_at : Shape → List ℕ → ℕ → ℕ → ℕ
bytes_at s stripe t c = byte_at s stripe c t

-- bytes at to at + n of each cell of a well-formed stripe
pub record InCells (s : Shape) (stripe : List ℕ) (at n : ℕ) : Type 0 where
  pub formed : WellFormed s
  pub long : length stripe ≡ stripe_length s
  pub ends : at + n ≤ s.cell

-- `shared` has n bytes of the XOR of the shared cells, from byte `at` on, where there are such cells
pub record Shares (s : Shape) (stripe : List ℕ) (at n : ℕ) (shared : List ℕ) : Type 0 where
  pub long : shares s ≡ true → n ≤ length shared
  pub is : shares s ≡ true → (i : ℕ) → i < n → get_or shared i 0 ≡ shared_sum s (bytes_at s stripe (at + i))

-- new is old with value i in byte i of the window of equation q's parity cell
pub record ParityPut (s : Shape) (q at n : ℕ) (value : ℕ → ℕ) (old new : List ℕ) : Type 0 where
  pub long : length new ≡ length old
  pub own : (i : ℕ) → i < n → byte_at s new (parity_cell s q) (at + i) ≡ value i
  pub others : (c : ℕ) → c < cells s → (t : ℕ) → t < s.cell → (c ≡ parity_cell s q → at ≤ t → t < at + n → ⊥) → byte_at s new c t ≡ byte_at s old c t

-- new is old with the window of equation q's parity cell set to the XOR of the cells that the equation sums
abbrev pub ParitySet : Shape → ℕ → ℕ → ℕ → List ℕ → List ℕ → Type 0
ParitySet s q at n old new = ParityPut s q at n (λ i. parity_byte s old q (at + i)) old new

-- r says whether the window of equation q's parity cell is all zero
abbrev pub ParityZero : Shape → ℕ → ℕ → ℕ → List ℕ → Bool → Type 0
ParityZero s q at n stripe r = Says ((i : ℕ) → i < n → byte_at s stripe (parity_cell s q) (at + i) ≡ 0) r

-- whether equation q fails in one of n bytes from byte `at` on: its total is not zero there
unfoldable pub fails_in : Shape → List ℕ → ℕ → ℕ → ℕ → Bool
fails_in s stripe q at n = any n (λ i. not (eqb (total s q (bytes_at s stripe (at + i))) 0))
