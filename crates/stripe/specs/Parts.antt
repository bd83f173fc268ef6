-- The parts of a small write: what is XORed into the parity cells, and where the data cell is.
use Rattle.std.specs.Prelude.{◌≡◌, List, Bool, true, false, cond, ℕ, ◌+◌, ◌<◌, length, get_or}
use Rattle.xor.specs.Xor.{◌⊕◌}
use Rattle.codes.specs.declared.Shape.{Shape}
use Rattle.codes.specs.Shape.{equations, cells, stripe_length, WellFormed}
use Rattle.codes.specs.Geometry.{cell_there, place}
use Rattle.codes.specs.Encoded.{byte_at, parity_cell, is_parity}
use Rattle.codes.specs.Agree.{Agree}

-- how byte t of the run at `from` differs from the new one
abbrev pub differs : List ℕ → ℕ → List ℕ → ℕ → ℕ
differs old from bytes t = get_or old (from + t) 0 ⊕ get_or bytes t 0

-- new is old with d t XORed into byte t of the parity cells of the equations that pass the test; data cells stay
pub record Spread (s : Shape) (test : ℕ → Bool) (d : ℕ → ℕ) (old new : List ℕ) : Type 0 where
  pub long : length new ≡ length old
  pub kept : Agree s (is_parity s) new old
  pub added : (q : ℕ) → q < equations s → (t : ℕ) → t < s.cell → byte_at s new (parity_cell s q) t ≡ byte_at s old (parity_cell s q) t ⊕ cond (test q) (d t) 0

-- the bytes at `from` are those of a data cell that exists in a well-formed stripe, and the new bytes are as many
pub record FromCell (s : Shape) (stripe : List ℕ) (from : ℕ) (bytes : List ℕ) : Type 0 where
  pub formed : WellFormed s
  pub long : length stripe ≡ stripe_length s
  pub cell : ℕ
  pub at : from ≡ place s cell
  pub inside : cell < cells s
  pub there : cell_there s cell ≡ true
  pub plain : is_parity s cell ≡ false
  pub whole : length bytes ≡ s.cell
