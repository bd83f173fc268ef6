-- From what the program does to what a rebuild promises: the stripe at exit is the encoded stripe that agrees with the survivors, or there is none.
use mathlib.Core.Path.{◌≡◌, refl, sym, ap, ap₂, ◌∙◌, subst}
use mathlib.Core.Logic.{inl, inr, ⊎_elim}
use mathlib.Core.List.{List}
use mathlib.Core.Bool.{Bool, true, false, cond, ◌&&◌}
use Prim.Native.Nat.{ℕ, ◌<◌}
use native.Mathlib.Omega.{arith}
use lib.ListN.{length, get_or}
use borrow.Author.Tests.{lt-ltb, le-leb}
use Rattle.xor.proofs.Cases.{clash, not_passed}
use Rattle.bits.specs.Bit.{IsLowest}
use Rattle.codes.specs.declared.Shape.{Shape}
use Rattle.codes.specs.Shape.{cells, equations, stripe_length, WellFormed}
use Rattle.codes.specs.Encoded.{byte_at, Encoded}
use Rattle.codes.proofs.Parity.{same_bytes}
use Rattle.codes.proofs.Solutions.{solves_same}
use Rattle.decide.specs.Survivors.{Restores}
use Rattle.decide.specs.Solver.{mended, Solver}
use Rattle.decide.proofs.Determined.{determined, kept_cell}
use Rattle.equation.specs.declared.Window.{Window}
use Rattle.equation.specs.Window.{bytes_at}
use Rattle.equation.specs.InWindow.{IsWhole, is_failing}
use Rattle.equation.proofs.Whole.{whole_fails}
use Rattle.stripe.proofs.BrokenFacts.{not_failing, holds_everywhere}
use Rattle.lanes.specs.Lanes.{Passes, Filled, Mends}
use Rattle.rebuild.specs.Rebuild.{Decides, disagree, restored}
use Rattle.rebuild.specs.Clean.{CleanOrNot}

-- ---- the answer

-- the lost cells are determined: encoded stripes with the same survivors are equal
module _ (s : Shape) (w : WellFormed s) (lost : ℕ → Bool) (u : ℕ) (list sets : List ℕ) (v : ℕ) (checks : List ℕ) (solver : Solver s lost u list sets v checks) where
  module _ (old new : List ℕ) (long : length old ≡ stripe_length s) (bytes : (i : ℕ) → get_or new i 0 < 256) where
    -- what is filled
    filled_is : Filled s list sets u 0 s.cell old new → (c : ℕ) → c < cells s → (t : ℕ) → t < s.cell → byte_at s new c t ≡ mended s list sets u (bytes_at s old t) c
    filled_is h c l t lt =
        h.byte c l t lt ∙ ap (λ (b : Bool). cond b (mended s list sets u (bytes_at s old t) c) (byte_at s old c t)) (ap₂ ◌&&◌ (le-leb 0 t (omega arith)) (lt-ltb t s.cell lt))

    mended_so : ((t : ℕ) → t < s.cell → Passes s old v checks t) → Filled s list sets u 0 s.cell old new → Restores s lost old new
    mended_so passes h = record {
      is = record {
        long = h.long ∙ long;
        bytes = bytes;
        encoded = record {
          holds = λ q l t lt.
              solves_same s w (mended s list sets u (bytes_at s old t)) (bytes_at s new t) (λ c lc. sym (filled_is h c lc t lt)) (solver.solves (bytes_at s old t) (passes t lt).zero) q l;
        };
      };
      agree = record { same = λ c l e t lt. sym (filled_is h c l t lt ∙ kept_cell s w lost u list sets v checks solver (bytes_at s old t) c e) };
    }

    -- survivors of an encoded stripe pass
    pub must_pass : (x : List ℕ) → Restores s lost old x → (t : ℕ) → t < s.cell → Passes s old v checks t
    must_pass x h t lt = record { zero = solver.needed (bytes_at s old t) (bytes_at s x t) (λ q l. h.is.encoded.holds q l t lt) (λ c l e. h.agree.same c l e t lt) }

    -- the survivors agree, or they don't
    pub decides_mended : Mends s list sets u checks v old true new → Decides s lost old 0 new
    decides_mended h = let did = h.done refl in restored (determined s w lost u list sets v checks solver) (mended_so did.0 did.1) refl

    pub decides_kept : Mends s list sets u checks v old false new → Decides s lost old 12 new
    decides_kept h = let did = h.kept refl in disagree (determined s w lost u list sets v checks solver) (λ x r. did.0 (must_pass x r)) refl did.1

    -- nothing is lost
    pub decides_clean : u ≡ 0 → new ≡ old → (answer : ℕ) → CleanOrNot s old answer → Decides s lost old answer new
    decides_clean none same answer h =
        ⊎_elim
        (λ z. restored (determined s w lost u list sets v checks solver) (subst (Restores s lost old) (sym same) (record {
          is = record { long = long; bytes = λ i. subst (λ (l : List ℕ). get_or l i 0 < 256) same (bytes i); encoded = h.clean z };
          agree = record { same = λ c l e t lt. refl };
        })) z)
        (λ z. disagree (determined s w lost u list sets v checks solver) (λ x r. h.not' (λ e. omega arith) (subst (Encoded s) (whole x r) r.is.encoded)) z same) h.number
      where
        survives : (c : ℕ) → c < cells s → lost c ≡ false
        survives c l = not_passed (λ p. let found = solver.listed.all c l p in let low = found.1 in absurd (omega arith))

        whole : (x : List ℕ) → Restores s lost old x → x ≡ old
        whole x r = same_bytes s w x old r.is.long long (λ c l t lt. sym (r.agree.same c l (survives c l) t lt))

-- no equation fails in the whole of the cells, or one does
module _ (s : Shape) (stripe : List ℕ) (w : Window) (whole : IsWhole w s stripe) where
  same : equations w.shape ≡ equations s
  same = ap equations whole.shape

  pub clean_zero : IsLowest (equations w.shape) (is_failing w) (equations w.shape) → CleanOrNot s stripe 0
  clean_zero first = record {
    number = inl refl;
    clean = λ z. record { holds = λ q l. not_failing s stripe q (sym (whole_fails w s stripe whole q) ∙ first.before q (omega (arith, same))) };
    not' = λ n. absurd (n refl);
  }

  pub clean_twelve : (r : ℕ) → r < equations w.shape → IsLowest (equations w.shape) (is_failing w) r → CleanOrNot s stripe 12
  clean_twelve r below first = record {
    number = inr refl;
    clean = λ z. absurd (omega arith);
    not' = λ z h. clash (first.passes below) (whole_fails w s stripe whole r ∙ holds_everywhere s stripe r (h.holds r (omega (arith, same))));
  }
