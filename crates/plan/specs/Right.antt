-- A column for which there are plans.
use Rattle.std.specs.Prelude.{◌≡◌, true, ℕ, ◌<◌}
use Rattle.codes.specs.declared.Shape.{Shape}
use Rattle.codes.specs.Shape.{columns, WellFormed}
use Rattle.codes.specs.Geometry.{is_there}

-- a column of a well-formed RDP stripe that exists, as the equations number it
pub record RdpColumn (s : Shape) (k : ℕ) : Type 0 where
  pub formed : WellFormed s
  pub rdp : s.code ≡ 1
  pub column : k < columns s
  pub there : is_there s k ≡ true
