-- `codes::disk_count` meets its contract. All columns exist, or the data columns that are given and two more.
use native.Mathlib.Omega.{arith}
use Rattle.codes.proofs.Shapes.{low, full_missing, data_known, disks_is, rdp_is, columns_of}
use Rattle.codes.specs.Equations.{rdp}
use Rattle.codes.proofs.disk_count.Goals as goal

pub returns-in_default : goal.returns-in_default
returns-in_default c = omega (arith, c.extent_of.ensures.1, disks_is c.args.shape c.requires, full_missing c.args.shape c.in_default.is)

pub returns : goal.returns
returns c = let k = data_known c.args.shape c.requires _ c.in-Some.is in omega (arith, k.0, disks_is c.args.shape c.requires, low c.args.shape c.requires, columns_of c.args.shape (rdp c.args.shape.p) (rdp_is c.args.shape k.1))
