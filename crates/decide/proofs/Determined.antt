-- What a way to find the lost cells says: they are determined, and survivors are not mended. Two columns are always determined.
use mathlib.Core.Path.{◌≡◌, refl, ap, ◌∙◌}
use mathlib.Core.List.{List}
use mathlib.Core.Bool.{Bool, false, cond}
use Prim.Native.Nat.{ℕ, ◌/◌, ◌<◌}
use lib.Dec.{eqb}
use lib.ListN.{get_or}
use borrow.Author.Tests.{ne_eqb}
use Rattle.xor.specs.Xor.{◌⊕◌}
use Rattle.xor.proofs.Cases.{clash}
use Rattle.xor.proofs.Algebra.{⊕_zero}
use Rattle.xor.proofs.Sums.{xors_zero}
use Rattle.codes.specs.declared.Shape.{Shape}
use Rattle.codes.specs.Shape.{rows, columns, WellFormed}
use Rattle.codes.specs.Agree.{in_columns}
use Rattle.codes.proofs.Parity.{same_bytes}
use Rattle.columns.proofs.TwoColumns.{two_columns_determined}
use Rattle.equation.specs.Window.{bytes_at}
use Rattle.decide.specs.Survivors.{Undetermined}
use Rattle.decide.specs.Solver.{summed, mended, Solver}

module _ (s : Shape) (w : WellFormed s) (lost : ℕ → Bool) (u : ℕ) (list sets : List ℕ) (v : ℕ) (checks : List ℕ) (solver : Solver s lost u list sets v checks) where
  pub determined : Undetermined s lost → ⊥
  determined h =
      h.differ (same_bytes s w h.one h.other h.one_is.long h.other_is.long
      (λ c l t lt. solver.unique (bytes_at s h.one t) (bytes_at s h.other t) (λ q lq. h.one_is.encoded.holds q lq t lt) (λ q lq. h.other_is.encoded.holds q lq t lt)
      (λ d ld e. h.agree.same d ld e t lt) c l))

  -- a survivor is not mended
  pub kept_cell : (f : ℕ → ℕ) (c : ℕ) → lost c ≡ false → mended s list sets u f c ≡ f c
  unfolding mended
  kept_cell f c e =
      ap (λ (x : ℕ). f c ⊕ x)
      (xors_zero u (λ j. cond (eqb (get_or list j 0) c) (summed s (get_or sets j 0) f) 0)
      (λ j l. ap (λ (b : Bool). cond b (summed s (get_or sets j 0) f) 0) (ne_eqb (get_or list j 0) c (λ q. clash (solver.listed.is_lost j l) (ap lost q ∙ e)))))
      ∙ ⊕_zero (f c)

-- encoded stripes that agree off two columns are equal
pub columns_determined : (s : Shape) → WellFormed s → (a b : ℕ) → a < columns s → b < columns s → Undetermined s (in_columns s a b) → ⊥
unfolding in_columns
columns_determined s w a b la lb u =
    u.differ (same_bytes s w u.one u.other u.one_is.long u.other_is.long
    (λ c l t lt. two_columns_determined s w (bytes_at s u.one t) (bytes_at s u.other t)
    (λ q lq. u.one_is.encoded.holds q lq t lt) (λ q lq. u.other_is.encoded.holds q lq t lt) a b la lb
    (λ d ld n m. u.agree.same d ld (rw (ne_eqb (d / rows s) a n, ne_eqb (d / rows s) b m) refl) t lt) c l))
