-- What bad column promises: document 01, "What each call gives".
use Rattle.std.specs.Prelude.{Result, List, ℕ, ◌<◌, length}
use Rattle.codes.specs.declared.Shape.{Shape}
use Rattle.codes.specs.Shape.{disks}
use Rattle.codes.specs.Encoded.{Encoded}
use Rattle.refusals.specs.declared.reason.Refusal.{Refusal}
use Rattle.refusals.specs.Refusals.{stripe_faults}
use Rattle.refusals.specs.Answer.{Tells}
use Rattle.bad.specs.declared.BadColumn.{BadColumn}
use Rattle.bad.specs.declared.BadColumn.TheVariants.{Clean, Column, Unexplained}
use Rattle.codes.specs.Agree.{callers_columns}
use Rattle.decide.specs.Survivors.{Restores}

-- the replacement of the column that a caller calls c alone makes the stripe encoded
pub record Replaceable (s : Shape) (stripe : List ℕ) (c : ℕ) : Type 0 where
  pub inside : c < disks s
  pub replaced : List ℕ
  pub restores : Restores s (callers_columns s c c) stripe replaced

-- what a finding says of the stripe
abbrev pub Finding : Shape → List ℕ → BadColumn → Type 0
Finding s stripe Clean = Encoded s stripe
Finding s stripe (Column c) = (Encoded s stripe → ⊥) × Replaceable s stripe c
Finding s stripe Unexplained = (Encoded s stripe → ⊥) × ((c : ℕ) → Replaceable s stripe c → ⊥)

-- bad column answers a finding that is so, or the refusal
abbrev pub Finds : Shape → List ℕ → Result BadColumn Refusal → Type 0
Finds s stripe = Tells (stripe_faults s (length stripe)) (Finding s stripe)
