-- The refusals of a show: which faults it has after which, and what holds where there is none.
use mathlib.Core.Path.{◌≡◌, refl}
use mathlib.Core.List.{[], ◌∷◌}
use mathlib.Core.Bool.{◌&&◌}
use Prim.Native.Nat.{ℕ, ◌<◌}
use lib.Dec.{eqb, leb}
use borrow.Author.Tests.{eq-eqb, leb-false}
use Rattle.codes.specs.declared.Shape.{Shape}
use Rattle.codes.specs.Shape.{rows, disks}
use Rattle.codes.specs.Geometry.{column_of}
use Rattle.refusals.specs.Refusals.{fault, outside, order, refusal}
use Rattle.refusals.proofs.Order.{After, after}
use Rattle.spare.specs.Refusals.{spare_faults}
use Rattle.spare.specs.Right.{SpareRight}
use Rattle.spare.proofs.Refused.{buffers_right}
use Rattle.show.specs.Refusals.{show_faults}

-- a show that is not refused: right buffers, a cell inside, and a row that is done if its column is the lost one
pub record ShowRight (s : Shape) (bytes spare k done row column : ℕ) : Type 0 where
  pub buffers : SpareRight s bytes spare (column_of s k)
  pub low : row < rows s
  pub right : column < disks s
  pub ready : column ≡ k → row < done

module _ (s : Shape) (bytes spare k done row column : ℕ) where
  pub show_after : After (spare_faults s bytes spare)
      (outside row (rows s) ∷ outside column (disks s) ∷ outside k (disks s) ∷ outside done s.p ∷ fault 10 (eqb column k && leb done row) ∷ [])
      (show_faults s bytes spare k done row column)
  unfolding show_faults spare_faults order
  show_after = after (spare_faults s bytes spare) _ refl refl

  pub show_accepted : refusal (show_faults s bytes spare k done row column) ≡ 0 → ShowRight s bytes spare k done row column
  show_accepted none =
      let n = show_after.none none in
      record {
        buffers = buffers_right s bytes spare k n.0 (leb-false (disks s) k n.1.1.1.0);
        low = leb-false (rows s) row n.1.0;
        right = leb-false (disks s) column n.1.1.0;
        ready = λ e. leb-false done row (rw (eq-eqb column k e) at n.1.1.1.1.1.0);
      }
