-- A column for which there is a balanced plan.
use Rattle.std.specs.Prelude.{◌≡◌, true, ℕ, ◌<◌}
use Rattle.codes.specs.declared.Shape.{Shape}
use Rattle.codes.specs.Shape.{missing, WellFormed}
use Rattle.balance.specs.Balance.{offered}

-- a column below p of a well-formed RDP stripe in which every data column exists, for one of the primes
pub record Balanceable (s : Shape) (k : ℕ) : Type 0 where
  pub formed : WellFormed s
  pub rdp : s.code ≡ 1
  pub full : missing s ≡ 0
  pub prime : offered s.p ≡ true
  pub below : k < s.p
