-- What the rebuild of cells and of columns promises: demand 3 and document 01, "What each call gives".
use Rattle.std.specs.Prelude.{◌≡◌, ◌≢◌, List, Bool, ℕ, length}
use Rattle.codes.specs.declared.Shape.{Shape}
use Rattle.refusals.specs.Refusals.{refusal, cells_faults, columns_faults}
use Rattle.codes.specs.Agree.{callers_columns}
use Rattle.decide.specs.Survivors.{named, Undetermined, Restores}

-- demand 3, where the numbers are right: the lost cells are undetermined, the survivors disagree, or the stripe is restored
pub data Decides (s : Shape) (lost : ℕ → Bool) (old : List ℕ) (answer : ℕ) (new : List ℕ) : Type 0 where
  -- two different encoded stripes agree with each other on every cell that isn't lost: 11
  undetermined : Undetermined s lost → answer ≡ 11 → new ≡ old → Decides s lost old answer new
  -- otherwise no encoded stripe agrees with every cell that isn't lost: 12
  disagree : (Undetermined s lost → ⊥) → ((x : List ℕ) → Restores s lost old x → ⊥) → answer ≡ 12 → new ≡ old → Decides s lost old answer new
  -- otherwise one does, and is handed back: 0
  restored : (Undetermined s lost → ⊥) → Restores s lost old new → answer ≡ 0 → Decides s lost old answer new

-- what is wrong with the numbers comes first, and leaves every byte
pub record Rebuilds (s : Shape) (lost : ℕ → Bool) (wrong : ℕ) (old : List ℕ) (answer : ℕ) (new : List ℕ) : Type 0 where
  pub refused : wrong ≢ 0 → (answer ≡ wrong) × (new ≡ old)
  pub decides : wrong ≡ 0 → Decides s lost old answer new

-- rebuild of the cells that a list names
abbrev pub RebuildsCells : Shape → List ℕ → List ℕ → ℕ → List ℕ → Type 0
RebuildsCells s numbers old answer new = Rebuilds s (named s numbers) (refusal (cells_faults s (length old) numbers)) old answer new

-- rebuild of the columns that a caller calls a and b: as of all cells in them, and never refused as undetermined
pub record RebuildsColumns (s : Shape) (a b : ℕ) (old : List ℕ) (answer : ℕ) (new : List ℕ) : Type 0 where
  pub rebuilds : Rebuilds s (callers_columns s a b) (refusal (columns_faults s (length old) a b)) old answer new
  pub never : answer ≢ 11
