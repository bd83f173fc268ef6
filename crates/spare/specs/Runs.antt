-- Runs by plan one after the other, of one lost column: each with its own stripe, plan, first row and budget.
use Rattle.std.specs.Prelude.{Ok, ◌≡◌, List, [], ◌∷◌, Bool, false, ◌||◌, ℕ}
use Rattle.codes.specs.declared.Shape.{Shape}
use Rattle.codes.specs.Agree.{Agree, callers_columns}
use Rattle.spare.specs.Run.{takes_row, RunsByPlan}

-- the stripe that one run is lent, its plan, its first row and its budget
pub record Turn : Type 0 where
  pub stripe : List ℕ
  pub plan : ℕ
  pub first : ℕ
  pub budget : ℕ

-- one run that was not refused
pub record Ran (s : Shape) (k : ℕ) (turn : Turn) (old new : List ℕ) : Type 0 where
  pub count : ℕ
  pub runs : RunsByPlan s k turn.plan turn.first turn.budget turn.stripe old new (Ok count)

-- the runs of a list, one after the other: each starts from the spare that the one before it left
abbrev pub Runs : Shape → ℕ → List Turn → List ℕ → List ℕ → Type 0
Runs s k [] old new = new ≡ old
Runs s k (turn ∷ turns) old new = (mid : List ℕ) × Ran s k turn old mid × Runs s k turns mid new

-- every stripe of a list of runs agrees with x beside the column at place k
abbrev pub AllAgree : Shape → ℕ → List Turn → List ℕ → Type 0
AllAgree s k [] x = Unit {0}
AllAgree s k (turn ∷ turns) x = Agree s (callers_columns s k k) turn.stripe x × AllAgree s k turns x

-- whether some run of a list takes row i
unfoldable pub covers : List Turn → ℕ → Bool
covers [] i = false
covers (turn ∷ turns) i = takes_row turn.first turn.budget i || covers turns i
