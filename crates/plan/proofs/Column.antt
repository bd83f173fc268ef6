-- What is known of a column of RDP: it has rows 0 to p-2, and it is one of columns 0 to p.
use mathlib.Core.Path.{◌≡◌}
use Prim.Native.Nat.{ℕ, ◌-◌, ◌≤◌, ◌<◌}
use native.Mathlib.Omega.{arith}
use Rattle.codes.specs.declared.Shape.{Shape}
use Rattle.codes.specs.Shape.{rows, disks, WellFormed}
use Rattle.codes.specs.Geometry.{column_of}
use Rattle.codes.proofs.Lines.{rdp_rows, rdp_columns}
use Rattle.codes.proofs.Geometry.{column_there, is_there_lem}
use Rattle.plan.specs.Right.{RdpColumn}

module _ (s : Shape) (k : ℕ) (of : RdpColumn s k) where
  pub last_row : s.p - 1 ≡ rows s
  last_row = rdp_rows s of.formed of.rdp

  pub last_column : k ≤ s.p
  last_column = omega (arith, of.column, rdp_columns s of.formed of.rdp)

-- the column that lies at place k
pub lying : (s : Shape) (k : ℕ) → WellFormed s × (s.code ≡ 1) × (k < disks s) → RdpColumn s (column_of s k)
lying s k h = record { formed = h.0; rdp = h.1; column = column_there s h.0 k h.2; there = is_there_lem s h.0 k }
