-- The refusals of a balanced plan: which faults come after which, and what holds where there is none.
use mathlib.Core.Path.{◌≡◌, refl}
use mathlib.Core.Logic.{◌≢◌}
use mathlib.Core.List.{List, [], ◌∷◌, ◌++◌}
use Prim.Native.Nat.{ℕ, ◌≤◌}
use native.Mathlib.Omega.{arith}
use borrow.Author.Tests.{eqb-true, leb-false, ltb-false, not-false}
use Rattle.codes.specs.declared.Shape.{Shape}
use Rattle.codes.specs.Shape.{missing}
use Rattle.refusals.specs.Refusals.{Fault, outside, order, refusal, code_faults, not_full, size_faults}
use Rattle.refusals.proofs.Order.{Gives, After, after, decides, passes}
use Rattle.refusals.proofs.Refused.{size_gives, well_formed}
use Rattle.plan.specs.Refusals.{not_rdp}
use Rattle.balance.specs.Right.{Balanceable}
use Rattle.balance.specs.Refusals.{not_offered, balance_faults}

-- the faults of a balanced plan from the cell size on; from the prime, from the code and from missing columns on
abbrev pub from_size : Shape → ℕ → List Fault
from_size s k = size_faults s ++ outside k s.p ∷ []

abbrev pub from_prime : Shape → ℕ → List Fault
from_prime s k = not_offered s ∷ from_size s k

abbrev pub from_code : Shape → ℕ → List Fault
from_code s k = not_rdp s ∷ from_prime s k

abbrev pub from_width : Shape → ℕ → List Fault
from_width s k = not_full s ∷ from_code s k

module _ (s : Shape) (k : ℕ) where
  pub balance_after : After (code_faults s) (from_width s k) (balance_faults s k)
  unfolding balance_faults order
  balance_after = after (code_faults s) (from_width s k) refl refl

  -- the cell size decides, or the column does
  pub size_decides : {r : ℕ} → r ≡ refusal (size_faults s) → r ≢ 0 → Gives (from_size s k) r
  unfolding order
  size_decides e some = decides (size_faults s) (outside k s.p ∷ []) refl (size_gives s e) some

  pub size_passes : {r : ℕ} → 0 ≡ refusal (size_faults s) → Gives (outside k s.p ∷ []) r → Gives (from_size s k) r
  unfolding order
  size_passes e own = passes (size_faults s) (outside k s.p ∷ []) refl (size_gives s e) own

  -- a balanced plan that is not refused is for such a column
  pub balance_accepted : refusal (balance_faults s k) ≡ 0 → Balanceable s k
  balance_accepted none =
      let n = balance_after.none none in
      let own = n.1 in
      let full : missing s ≤ 0 = ltb-false 0 (missing s) own.0 in
      record {
        formed = well_formed s n.0 (own.1.1.1.0, (own.1.1.1.1.0, tt));
        rdp = eqb-true s.code 1 (not-false _ own.1.0);
        full = omega arith;
        prime = not-false _ own.1.1.0;
        below = leb-false s.p k own.1.1.1.1.1.0;
      }
