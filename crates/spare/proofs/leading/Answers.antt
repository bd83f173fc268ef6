-- `spare::leading` meets its contract: column p is no further on than column 0.
use native.Mathlib.Omega.{arith}
use Rattle.codes.proofs.Shapes.{low, high, missing_low, disks_is}
use Rattle.codes.proofs.Lines.{rdp_columns}
use Rattle.spare.proofs.Leads.{first_low, leads_is}
use Rattle.spare.proofs.leading.Goals as goal

pub column_of-requires : goal.column_of-requires
column_of-requires c = (c.requires.0, omega (arith, rdp_columns _ c.requires.0 c.requires.1, disks_is _ c.requires.0, missing_low _ c.requires.0))

pub turned-requires : goal.turned-requires
turned-requires c =
    let pre = c.requires in
    (omega (arith, low _ pre.0), omega (arith, c.column_of.ensures, first_low _ pre.0 pre.1), omega (arith, high _ pre.0))

pub returns : goal.returns
returns c = leads_is _ c.requires.0 c.requires.1 _ _ c.column_of.ensures c.turned.ensures
