-- What a small write promises: document 01, "What each call gives".
use Rattle.std.specs.Prelude.{◌≡◌, Result, ◌≢◌, List, false, not, ◌&&◌, ℕ, ◌<◌, eqb, length, get_or}
use Rattle.xor.specs.Xor.{◌⊕◌}
use Rattle.xor.specs.Sets.{count}
use Rattle.codes.specs.declared.Shape.{Shape}
use Rattle.refusals.specs.declared.reason.Refusal.{Refusal}
use Rattle.codes.specs.Shape.{cells, equations, stripe_length}
use Rattle.codes.specs.Geometry.{cell_at}
use Rattle.codes.specs.Encoded.{byte_at, parity_cell, sum_over, is_parity, Encoded}
use Rattle.refusals.specs.Refusals.{write_faults}
use Rattle.refusals.specs.Answer.{Answers}

-- d is the difference of the old bytes of cell c and the new ones, put alone into a stripe of zero data, and encoded
pub record Difference (s : Shape) (c : ℕ) (old bytes d : List ℕ) : Type 0 where
  pub long : length d ≡ stripe_length s
  pub own : (t : ℕ) → t < s.cell → byte_at s d c t ≡ byte_at s old c t ⊕ get_or bytes t 0
  pub zeros : (k : ℕ) → k < cells s → is_parity s k ≡ false → k ≢ c → (t : ℕ) → t < s.cell → byte_at s d k t ≡ 0
  pub encoded : Encoded s d

-- new is the XOR of old with that stripe
pub record Written (s : Shape) (c : ℕ) (old bytes new : List ℕ) : Type 0 where
  pub long : length new ≡ length old
  pub difference : List ℕ
  pub alone : Difference s c old bytes difference
  pub sum : (k : ℕ) → k < cells s → (t : ℕ) → t < s.cell → byte_at s new k t ≡ byte_at s old k t ⊕ byte_at s difference k t

-- unit has 1 at cell c and zero in all other data, and is encoded: one value for each cell
pub record Alone (s : Shape) (c : ℕ) (unit : ℕ → ℕ) : Type 0 where
  pub own : unit c ≡ 1
  pub zeros : (k : ℕ) → k < cells s → is_parity s k ≡ false → k ≢ c → unit k ≡ 0
  pub holds : (q : ℕ) → q < equations s → unit (parity_cell s q) ≡ sum_over s q unit

-- n parity cells depend on cell c: those that are not 0 where 1 is put alone at c and encoded
pub record Depending (s : Shape) (c n : ℕ) : Type 0 where
  pub unit : ℕ → ℕ
  pub alone : Alone s c unit
  pub size : n ≡ count (cells s) (λ k. is_parity s k && not (eqb (unit k) 0))

-- a small write leaves the stripe so written and answers how many parity cells depend on the position, or it answers the refusal and leaves every byte
abbrev pub Writes : Shape → ℕ → ℕ → List ℕ → List ℕ → List ℕ → Result ℕ Refusal → Type 0
Writes s row column bytes old new =
    Answers (write_faults s (length old) row column (length bytes)) old new
    (λ n. Written s (cell_at s row column) old bytes new × Depending s (cell_at s row column) n)
