-- What is decided of lost cells.
use Rattle.std.specs.Prelude.{◌≡◌, Bool, Option, MatchOption, ℕ, length}
use Rattle.codes.specs.declared.Shape.{Shape}
use Rattle.decide.specs.declared.way.Way.{Way}
use Rattle.decide.specs.Survivors.{Undetermined}
use Rattle.decide.specs.Solver.{cells_of, sets_of, Solver}

-- the survivors leave the lost cells undetermined, or this is the way to them
abbrev pub Decision : Shape → (ℕ → Bool) → Option Way → Type 0
Decision s lost decision = MatchOption decision (Undetermined s lost)
    (λ w. (w.shape ≡ s) × Solver s lost (length w.lost.now) (cells_of w.lost.now) (sets_of w.lost.now) (length w.checks.now) w.checks.now)
