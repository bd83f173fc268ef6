-- Calls that are not refused: what is then known of their numbers. Column k is as the equations number it.
use Rattle.std.specs.Prelude.{◌≡◌, true, ℕ, ◌+◌, ◌*◌, ◌≤◌, ◌<◌}
use Rattle.codes.specs.declared.Shape.{Shape}
use Rattle.codes.specs.Shape.{rows, stripe_length}
use Rattle.plan.specs.Plan.{is_accepted}
use Rattle.plan.specs.Right.{RdpColumn}

-- a stripe and a spare of the right length for a column of RDP
pub record SpareRight (s : Shape) (bytes spare k : ℕ) : Type 0 where
  pub of : RdpColumn s k
  pub long : bytes ≡ stripe_length s
  pub whole : spare ≡ rows s * s.cell

-- a stripe and a spare of the right length, and n rows of theirs from the first on
pub record RowsFit (s : Shape) (bytes spare first n : ℕ) : Type 0 where
  pub long : bytes ≡ stripe_length s
  pub whole : spare ≡ rows s * s.cell
  pub inside : first + n ≤ rows s

-- a run by an accepted plan, from a row of the column or from past its last
pub record RunRight (s : Shape) (bytes spare k plan first : ℕ) : Type 0 where
  pub buffers : SpareRight s bytes spare k
  pub accepted : is_accepted s k plan ≡ true
  pub start : first < s.p
