-- What a run by plan promises: document 01, "What each call gives".
use Rattle.std.specs.Prelude.{◌≡◌, Result, ◌⊎◌, List, Bool, cond, not, ◌&&◌, ℕ, ◌+◌, ◌-◌, ◌*◌, ◌≤◌, ◌<◌, min, eqb, leb, ltb, length, get_or}
use Rattle.xor.specs.Xor.{xors}
use Rattle.codes.specs.declared.Shape.{Shape}
use Rattle.refusals.specs.declared.reason.Refusal.{Refusal}
use Rattle.codes.specs.Shape.{rows, cells, cell_number}
use Rattle.codes.specs.Geometry.{column_of}
use Rattle.codes.specs.Encoded.{byte_at}
use Rattle.codes.specs.Holders.{holds}
use Rattle.refusals.specs.Answer.{Answers}
use Rattle.plan.specs.Plan.{chosen}
use Rattle.spare.specs.Refusals.{run_faults}

-- the XOR of f c over the cells c of equation q other than cell own
unfoldable pub others : Shape → ℕ → ℕ → (ℕ → ℕ) → ℕ
others s q own f = xors (cells s) (λ c. cond (holds s q c && not (eqb c own)) (f c) 0)

-- byte t of row i of column k, by a plan: the XOR of the other cells of the equation by which the row is taken
unfoldable pub rebuilt_byte : Shape → ℕ → ℕ → List ℕ → ℕ → ℕ → ℕ
rebuilt_byte s k plan stripe i t = others s (chosen s k plan i) (cell_number s i k) (λ c. byte_at s stripe c t)

-- byte t of row i of a spare, which is one column: row i is cell i of it
unfoldable pub spare_byte : Shape → List ℕ → ℕ → ℕ → ℕ
spare_byte s spare i t = get_or spare (i * s.cell + t) 0

-- new is the spare with n rows of column k rebuilt from the first on, and no other byte changed
pub record RowsRebuilt (s : Shape) (k plan first n : ℕ) (stripe old new : List ℕ) : Type 0 where
  pub long : length new ≡ length old
  pub rebuilt : (i : ℕ) → first ≤ i → i < first + n → (t : ℕ) → t < s.cell → spare_byte s new i t ≡ rebuilt_byte s k plan stripe i t
  pub kept : (i : ℕ) → (i < first) ⊎ (first + n ≤ i) → (t : ℕ) → t < s.cell → spare_byte s new i t ≡ spare_byte s old i t

-- whether a run of a budget takes row i: it is one of so many rows from the first on
unfoldable pub takes_row : ℕ → ℕ → ℕ → Bool
takes_row first budget i = leb first i && ltb i (first + budget)

-- how many rows a run rebuilds: the smaller of the budget and of the rows left
unfoldable pub rows_run : Shape → ℕ → ℕ → ℕ
rows_run s first budget = min budget (rows s - first)

-- a run rebuilds so many rows of the column at place k from the first on and reports how many, or it answers the refusal and leaves every byte
abbrev pub RunsByPlan : Shape → ℕ → ℕ → ℕ → ℕ → List ℕ → List ℕ → List ℕ → Result ℕ Refusal → Type 0
RunsByPlan s k plan first budget stripe old new =
    Answers (run_faults s (length stripe) (length old) k plan first) old new
    (λ n. (n ≡ rows_run s first budget) × RowsRebuilt s (column_of s k) plan first (rows_run s first budget) stripe old new)
