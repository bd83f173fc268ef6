-- The bytes of a lane: up to 512 bytes of each cell, from `at` on. Lane r of an array on the stack starts at byte 512 r.
use Rattle.std.specs.Prelude.{◌≡◌, List, Bool, true, false, cond, ◌&&◌, ℕ, ◌+◌, ◌*◌, ◌≤◌, ◌<◌, leb, ltb, length, get_or}
use Rattle.xor.specs.Xor.{xors}
use Rattle.bits.specs.Bit.{bit}
use Rattle.codes.specs.declared.Shape.{Shape}
use Rattle.codes.specs.Shape.{cells}
use Rattle.codes.specs.Geometry.{cell_there}
use Rattle.codes.specs.Encoded.{byte_at, total}
use Rattle.equation.specs.Window.{bytes_at, fails_in}
use Rattle.decide.specs.Solver.{summed, mended}

-- how many bytes a lane has, and the lanes of all equations that there may be
abbrev pub lane : ℕ
lane = 512

abbrev pub room : ℕ
room = 32768

-- room for n bytes in each lane
pub record InLane (n : ℕ) (lanes : List ℕ) : Type 0 where
  pub few : n ≤ lane
  pub space : length lanes ≡ room

-- lane r has the totals of equation r in bytes at to at + n, for each r in the set
pub record Totals (s : Shape) (stripe : List ℕ) (set at n : ℕ) (lanes : List ℕ) : Type 0 where
  pub long : length lanes ≡ room
  pub holds : (r : ℕ) → bit r set ≡ true → (i : ℕ) → i < n → get_or lanes (r * lane + i) 0 ≡ total s r (bytes_at s stripe (at + i))

-- of the equations in a set, those that fail in bytes at to at + n
abbrev pub Failing : Shape → List ℕ → ℕ → ℕ → ℕ → ℕ → Type 0
Failing s stripe set at n failing = (q : ℕ) → bit q failing ≡ (bit q set && fails_in s stripe q at n)

-- the XOR of byte i of the lanes in the set
unfoldable pub lane_sum : List ℕ → ℕ → ℕ → ℕ
lane_sum lanes set i = xors 64 (λ r. cond (bit r set) (get_or lanes (r * lane + i) 0) 0)

-- in byte t of the stripe the first n checks sum to zero
pub record Passes (s : Shape) (stripe : List ℕ) (n : ℕ) (checks : List ℕ) (t : ℕ) : Type 0 where
  pub zero : (j : ℕ) → j < n → summed s (get_or checks j 0) (bytes_at s stripe t) ≡ 0

-- the lanes of each of the first u sets sum to what the set gives, in bytes at to at + n
pub record LanesOf (s : Shape) (stripe : List ℕ) (u : ℕ) (sets : List ℕ) (at n : ℕ) (lanes : List ℕ) : Type 0 where
  pub sum : (k : ℕ) → k < u → (i : ℕ) → i < n → lane_sum lanes (get_or sets k 0) i ≡ summed s (get_or sets k 0) (bytes_at s stripe (at + i))

-- new is old with k lost cells mended in the bytes from `from` to `to`
pub record Filled (s : Shape) (lostCells sets : List ℕ) (k from to : ℕ) (old new : List ℕ) : Type 0 where
  pub long : length new ≡ length old
  pub byte : (c : ℕ) → c < cells s → (t : ℕ) → t < s.cell
      → byte_at s new c t ≡ cond (leb from t && ltb t to) (mended s lostCells sets k (bytes_at s old t) c) (byte_at s old c t)

-- whether the survivors pass the checks in every byte: where they do, new is old with the lost cells mended; where they don't, it is old
pub record Mends (s : Shape) (lostCells sets : List ℕ) (u : ℕ) (checks : List ℕ) (v : ℕ) (old : List ℕ) (agree : Bool) (new : List ℕ) : Type 0 where
  pub kept : agree ≡ false → (((t : ℕ) → t < s.cell → Passes s old v checks t) → ⊥) × (new ≡ old)
  pub done : agree ≡ true → ((t : ℕ) → t < s.cell → Passes s old v checks t) × Filled s lostCells sets u 0 s.cell old new
