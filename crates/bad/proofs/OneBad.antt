-- At most one column can be named bad.
use mathlib.Core.Path.{◌≡◌, refl, sym, ap, ◌∙◌}
use mathlib.Core.Logic.{◌≢◌}
use mathlib.Core.List.{List}
use Prim.Native.Nat.{ℕ, ◌/◌, ◌<◌}
use borrow.Author.Tests.{ne_eqb}
use Rattle.xor.proofs.Cases.{by_equal}
use Rattle.codes.specs.declared.Shape.{Shape}
use Rattle.codes.specs.Shape.{rows, WellFormed}
use Rattle.codes.specs.Geometry.{column_of, lies_at}
use Rattle.codes.specs.Encoded.{Solves, Encoded}
use Rattle.codes.proofs.Geometry.{column_there, lies_column}
use Rattle.columns.proofs.TwoColumns.{at_most_one_column}
use Rattle.codes.specs.Agree.{in_columns}
use Rattle.bad.specs.Bad.{Replaceable}
use Rattle.equation.specs.Window.{bytes_at}
use Rattle.bad.specs.Candidate.{Explains}

-- ---- columns

-- values that two columns explain are a solution
pub one_explains : (s : Shape) → WellFormed s → (f : ℕ → ℕ) (c d : ℕ) → Explains s f c → Explains s f d → c ≢ d → Solves s f
one_explains s w f c d x y n = at_most_one_column s w f x.mended y.mended x.solves y.solves c d x.inside y.inside n x.agree y.agree

-- a column whose replacement makes the stripe encoded explains every byte
pub replaceable_explains : (s : Shape) → WellFormed s → (stripe : List ℕ) (c : ℕ) → Replaceable s stripe c → (t : ℕ) → t < s.cell → Explains s (bytes_at s stripe t) (column_of s c)
unfolding in_columns
replaceable_explains s w stripe c h t l = record {
  inside = column_there s w c h.inside;
  mended = bytes_at s h.replaced t;
  solves = λ q lq. h.restores.is.encoded.holds q lq t l;
  agree = λ k lk n. sym (h.restores.agree.same k lk (rw (ne_eqb (k / rows s) (column_of s c) n) refl) t l);
}

-- of a stripe that isn't encoded at most one column can be named
pub one_bad_column : (s : Shape) → WellFormed s → (stripe : List ℕ) → (Encoded s stripe → ⊥) → (c d : ℕ) → Replaceable s stripe c → Replaceable s stripe d → c ≡ d
one_bad_column s w stripe broken c d x y =
    by_equal c d (λ e. e)
    (λ n. absurd (broken (record { holds = λ q lq t l. one_explains s w (bytes_at s stripe t) (column_of s c) (column_of s d) (replaceable_explains s w stripe c x t l) (replaceable_explains s w stripe d y t l) (λ e. n (sym (lies_column s w c) ∙ ap (lies_at s) e ∙ lies_column s w d)) q lq })))
