-- A stripe made of given bytes: F t c in byte t of cell c.
use mathlib.Core.Path.{◌≡◌, refl, sym, ap, ap₂, ◌∙◌}
use mathlib.Core.Bool.{true, false}
use mathlib.Core.List.{List, [], ◌∷◌}
use Prim.Native.Nat.{ℕ, zero, suc, ◌+◌, ◌*◌, ◌/◌, ◌%◌, ◌<◌}
use native.Mathlib.Nat.{le_of_suc-le-suc}
use native.Mathlib.Omega.{arith}
use lib.Arith.{digits_div, digits_mod}
use lib.ListN.{length, get_or}
use Rattle.xor.proofs.Cases.{by_test}
use Rattle.codes.specs.declared.Shape.{Shape}
use Rattle.codes.specs.Shape.{cells, stripe_length, WellFormed}
use Rattle.codes.specs.Geometry.{cell_there, cell_of, callers_cell, place}
use Rattle.codes.specs.Encoded.{byte_at}
use Rattle.codes.proofs.Places.{cell_ends}
use Rattle.codes.proofs.Geometry.{callers_inside, cell_of_callers, byte_there, byte_missing}

-- F 0, F 1, up to F (n - 1)
listed_of : ℕ → (ℕ → ℕ) → List ℕ
listed_of zero F = []
listed_of (suc n) F = F 0 ∷ listed_of n (λ i. F (suc i))

listed_long : (n : ℕ) (F : ℕ → ℕ) → length (listed_of n F) ≡ n
unfolding listed_of
listed_long zero F = refl
listed_long (suc n) F = ap suc (listed_long n (λ i. F (suc i)))

listed_at : (n : ℕ) (F : ℕ → ℕ) (i : ℕ) → i < n → get_or (listed_of n F) i 0 ≡ F i
unfolding listed_of
listed_at zero F i l = absurd (omega arith)
listed_at (suc n) F zero l = refl
listed_at (suc n) F (suc i) l = listed_at n (λ k. F (suc k)) i (le_of_suc-le-suc l)

pub built : Shape → (ℕ → ℕ → ℕ) → List ℕ
built s F = listed_of (stripe_length s) (λ i. F (i % s.cell) (cell_of s (i / s.cell)))

pub built_long : (s : Shape) (F : ℕ → ℕ → ℕ) → length (built s F) ≡ stripe_length s
unfolding built
built_long s F = listed_long (stripe_length s) (λ i. F (i % s.cell) (cell_of s (i / s.cell)))

-- byte i of it
pub built_byte : (s : Shape) (F : ℕ → ℕ → ℕ) (i : ℕ) → i < stripe_length s → get_or (built s F) i 0 ≡ F (i % s.cell) (cell_of s (i / s.cell))
unfolding built
built_byte s F i l = listed_at (stripe_length s) (λ k. F (k % s.cell) (cell_of s (k / s.cell))) i l

-- F is zero where a cell doesn't exist
abbrev pub Blank : Shape → (ℕ → ℕ → ℕ) → Type 0
Blank s F = (t : ℕ) → t < s.cell → (c : ℕ) → c < cells s → cell_there s c ≡ false → F t c ≡ 0

pub built_at : (s : Shape) → WellFormed s → (F : ℕ → ℕ → ℕ) → Blank s F → (c : ℕ) → c < cells s → (t : ℕ) → t < s.cell → byte_at s (built s F) c t ≡ F t c
unfolding place
built_at s w F blank c lc t lt = by_test (cell_there s c) there (λ h. byte_missing s w (built s F) c t h ∙ sym (blank t lt c lc h))
  where
    there : cell_there s c ≡ true → byte_at s (built s F) c t ≡ F t c
    there h =
        byte_there s w (built s F) c t h
        ∙ built_byte s F (callers_cell s c * s.cell + t) (omega (arith, cell_ends s w (callers_cell s c) (callers_inside s w c lc h)))
        ∙ ap₂ F (digits_mod (callers_cell s c) lt) (ap (cell_of s) (digits_div (callers_cell s c) lt) ∙ cell_of_callers s w c h)
