-- The lowest equation that holds a cell holds no other cell of its column. In EVENODD another that holds it may: a diagonal has its own cell and one of S.
use mathlib.Core.Path.{◌≡◌, refl, sym, ap, ap₂, ◌∙◌}
use mathlib.Core.Bool.{true}
use Prim.Native.Nat.{ℕ, ◌/◌, ◌%◌, ◌<◌}
use native.Mathlib.Omega.{arith}
use Rattle.xor.proofs.Cases.{by_less, clash}
use Rattle.bits.specs.Bit.{IsLowest}
use Rattle.codes.specs.declared.Shape.{Shape}
use Rattle.codes.specs.Shape.{rows, cells, equations, cell_number, WellFormed}
use Rattle.codes.specs.Holders.{holds}
use Rattle.codes.proofs.Geometry.{number_at, row_at}
use Rattle.codes.proofs.Depends.{held_some}
use Rattle.columns.proofs.Columns.{Meets}
use Rattle.columns.proofs.TwoColumns.{lowest_meets}

module _ (s : Shape) (w : WellFormed s) (c : ℕ) (inside : c < cells s) (q : ℕ) (h : IsLowest (equations s) (λ k. holds s k c) q) where
  -- there is one
  pub lowest_there : q < equations s
  lowest_there = by_less q (equations s) (λ l. l) (λ l. let some = held_some s w c inside in clash some.2 (h.before some.0 (omega (arith, some.1))))

  pub lowest_alone : (c' : ℕ) → c' / rows s ≡ c / rows s → holds s q c' ≡ true → c' ≡ c
  lowest_alone c' same held =
      sym (number_at s w c') ∙ ap₂ (cell_number s) (in_row c' same held ∙ sym (in_row c refl (h.passes lowest_there))) same ∙ number_at s w c
    where
      -- where the equation meets the column
      met : (r : ℕ) × Meets s q (c / rows s) r
      met = lowest_meets s w q c lowest_there inside h.before

      in_row : (k : ℕ) → k / rows s ≡ c / rows s → holds s q k ≡ true → k % rows s ≡ met.0
      in_row k e p = met.1.nowhere_else (k % rows s) (row_at s w k) (ap (λ (j : ℕ). holds s q (cell_number s (k % rows s) j)) (sym e) ∙ ap (holds s q) (number_at s w k) ∙ p)
