-- `spare::swap_row_parity` meets its contract: the slot that is set is column k's.
use native.Mathlib.Omega.{arith}
use Rattle.codes.proofs.Shapes.{low, high}
use Rattle.spare.proofs.Tables.{row_kept, row_swapped}
use Rattle.spare.proofs.swap_row_parity.Goals as goal

pub overflow_sub-n : goal.overflow_sub-n
overflow_sub-n c = omega (arith, low _ c.requires.0.formed)

pub overflow_add-places : goal.overflow_add-places
overflow_add-places c = omega (arith, high _ c.requires.0.formed)

pub offset_bounds-places-n : goal.offset_bounds-places-n
offset_bounds-places-n c = omega (arith, high _ c.requires.0.formed)

pub bounds-places-n : goal.bounds-places-n
bounds-places-n c = omega (arith, high _ c.requires.0.formed)

pub overflow_add-places-then-k-n : goal.overflow_add-places-then-k-n
overflow_add-places-then-k-n c = omega (arith, high _ c.requires.0.formed, c.if-k-n.true)

pub offset_bounds-places-k : goal.offset_bounds-places-k
offset_bounds-places-k c = omega (arith, high _ c.requires.0.formed, c.if-k-n.true)

pub bounds-places-k : goal.bounds-places-k
bounds-places-k c = omega (arith, high _ c.requires.0.formed, c.if-k-n.true)

pub returns-then-k-n : goal.returns-then-k-n
returns-then-k-n c = let pre = c.requires in row_swapped _ _ pre.0 _ pre.1 pre.2 c.if-k-n.true

pub returns-else-k-n : goal.returns-else-k-n
returns-else-k-n c = let pre = c.requires in row_kept _ _ pre.0 _ pre.1 pre.2 c.if-k-n.false
