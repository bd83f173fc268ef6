-- Tests that can be computed on given lost cells and bytes, and what they say of them.
use mathlib.Core.Path.{◌≡◌, refl, sym, ap, ◌∙◌}
use mathlib.Core.List.{List}
use mathlib.Core.Bool.{Bool, true, false, not, ◌&&◌}
use Prim.Native.Nat.{ℕ, ◌<◌}
use lib.Dec.{eqb}
use lib.ListN.{get_or}
use borrow.Author.Tests.{eq-eqb, eqb-true, not-true, not-false}
use Rattle.xor.specs.Sets.{any}
use Rattle.xor.proofs.Cases.{by_test, clash, not_passed}
use Rattle.xor.proofs.Sets.{any_none, none_any}
use Rattle.elimination.specs.Method.{State, Outcome, passed, stopped, run}
use Rattle.elimination.specs.Verdict.{residue, rebuilt, Consistent}
use Rattle.elimination.proofs.Elimination.{passed_all, stopped_at}
use Rattle.codes.specs.declared.Shape.{Shape}
use Rattle.codes.specs.Shape.{cells, equations, WellFormed}
use Rattle.codes.specs.Holders.{holds}
use Rattle.codes.proofs.Parity.{same_bytes}
use Rattle.codes.proofs.Built.{built, Blank, built_at}
use Rattle.codes.proofs.Geometry.{byte_missing, byte_small}
use Rattle.decide.specs.Survivors.{Undetermined, Restores}
use Rattle.decide.specs.Solver.{OnlyThere}
use Rattle.equation.specs.Window.{bytes_at}
use Rattle.decide.proofs.Stripes.{built_encoded}
use Rattle.decide.proofs.Solving.{as_solution, as_solves, undetermined}

-- what the elimination method comes to on a code's equations
abbrev pub outcome : Shape → (ℕ → Bool) → Outcome
outcome s lost = run (equations s) (holds s) lost (cells s)

-- ---- whether lost cells are determined

abbrev pub stops : Outcome → Bool
stops (passed state) = false
stops (stopped c state) = true

module _ (s : Shape) (w : WellFormed s) (lost : ℕ → Bool) where
  pub stops_undetermined : OnlyThere s lost → stops (outcome s lost) ≡ true → Undetermined s lost
  stops_undetermined there = by (outcome s lost) refl
    where
      by : (o : Outcome) → outcome s lost ≡ o → stops o ≡ true → Undetermined s lost
      by (passed state) e p = clash p refl
      by (stopped c state) e p = undetermined s w lost there c (stopped_at (equations s) (cells s) (holds s) lost c state e)

  pub passes_determined : stops (outcome s lost) ≡ false → Undetermined s lost → ⊥
  passes_determined = by (outcome s lost) refl
    where
      by : (o : Outcome) → outcome s lost ≡ o → stops o ≡ false → Undetermined s lost → ⊥
      by (stopped c state) e p u = clash refl p
      by (passed state) e p u =
          u.differ (same_bytes s w u.one u.other u.one_is.long u.other_is.long
          (λ c l t lt. (passed_all (equations s) (cells s) (holds s) lost state e).unique (bytes_at s u.one t) (bytes_at s u.other t)
          (as_solution s w (bytes_at s u.one t) (λ q lq. u.one_is.encoded.holds q lq t lt))
          (as_solution s w (bytes_at s u.other t) (λ q lq. u.other_is.encoded.holds q lq t lt)) (record { same = λ d ld n. u.agree.same d ld n t lt }) c l))

-- ---- whether some encoded stripe agrees with the survivors

-- an unused equation with a residue
abbrev residual : Shape → (ℕ → Bool) → State → (ℕ → ℕ) → ℕ → Bool
residual s lost state f q = not (state.used q) && not (eqb (residue (equations s) (cells s) (holds s) lost state f q) 0)

-- some byte of the survivors leaves one
abbrev left : Shape → (ℕ → Bool) → List ℕ → State → Bool
left s lost stripe state = any s.cell (λ t. any (equations s) (residual s lost state (bytes_at s stripe t)))

abbrev pub fits : Shape → (ℕ → Bool) → List ℕ → Outcome → Bool
fits s lost stripe (passed state) = not (left s lost stripe state)
fits s lost stripe (stopped c state) = false

module _ (s : Shape) (w : WellFormed s) (lost : ℕ → Bool) (there : OnlyThere s lost) (stripe : List ℕ) where
  consistent : (state : State) → left s lost stripe state ≡ false → (t : ℕ) → t < s.cell → Consistent (equations s) (cells s) (holds s) lost state (bytes_at s stripe t)
  consistent state none t l = record { zero = λ q lq free. eqb-true (rest q) 0 (not-false (eqb (rest q) 0) (ap (λ (b : Bool). not b && not (eqb (rest q) 0)) (sym free) ∙ no_residue q lq)) }
    where
      rest : ℕ → ℕ
      rest = residue (equations s) (cells s) (holds s) lost state (bytes_at s stripe t)

      no_residue : (q : ℕ) → q < equations s → residual s lost state (bytes_at s stripe t) q ≡ false
      no_residue = any_none (equations s) (residual s lost state (bytes_at s stripe t)) (any_none s.cell (λ u. any (equations s) (residual s lost state (bytes_at s stripe u))) none t l)

  pub fits_restores : ((i : ℕ) → get_or stripe i 0 < 256) → fits s lost stripe (outcome s lost) ≡ true → (x : List ℕ) × Restores s lost stripe x
  fits_restores bytes = by (outcome s lost) refl
    where
      by : (o : Outcome) → outcome s lost ≡ o → fits s lost stripe o ≡ true → (x : List ℕ) × Restores s lost stripe x
      by (stopped c state) e p = clash p refl
      by (passed state) e p =
          let known = passed_all (equations s) (cells s) (holds s) lost state e in
          let F : ℕ → ℕ → ℕ = λ t. rebuilt (equations s) (cells s) (holds s) lost state (bytes_at s stripe t) in
          -- a cell that doesn't exist survives, as zero
          let blank : Blank s F = λ t lt c l none. sym ((known.agrees (bytes_at s stripe t)).same c l (not_passed (λ h. clash (there c l h) none))) ∙ byte_missing s w stripe c t none in (
            built s F,
            record {
              is = built_encoded s w F blank (λ t l. known.bytes (bytes_at s stripe t) (λ c lc n. byte_small s w stripe bytes c t))
                  (λ t l. as_solves s w (F t) (known.solves (bytes_at s stripe t) (consistent state (not-true (left s lost stripe state) p) t l)));
              agree = record { same = λ c l n t lt. (known.agrees (bytes_at s stripe t)).same c l n ∙ sym (built_at s w F blank c l t lt) };
            },
          )

  pub unfit_none : (Undetermined s lost → ⊥) → fits s lost stripe (outcome s lost) ≡ false → (x : List ℕ) → Restores s lost stripe x → ⊥
  unfit_none determined = by (outcome s lost) refl
    where
      by : (o : Outcome) → outcome s lost ≡ o → fits s lost stripe o ≡ false → (x : List ℕ) → Restores s lost stripe x → ⊥
      by (stopped c state) e p x r = determined (stops_undetermined s w lost there (ap stops e))
      by (passed state) e p x r = clash (not-false (left s lost stripe state) p) none
        where
          passes : (t : ℕ) → t < s.cell → Consistent (equations s) (cells s) (holds s) lost state (bytes_at s stripe t)
          passes t l =
              (passed_all (equations s) (cells s) (holds s) lost state e).needed (bytes_at s stripe t) (bytes_at s x t)
              (as_solution s w (bytes_at s x t) (λ q lq. r.is.encoded.holds q lq t l)) (record { same = λ d ld n. r.agree.same d ld n t l })

          zero : (t : ℕ) → t < s.cell → (q : ℕ) → q < equations s → residual s lost state (bytes_at s stripe t) q ≡ false
          zero t l q lq = by_test (state.used q) (λ u. rw u refl)
              (λ u. rw (u, eq-eqb (residue (equations s) (cells s) (holds s) lost state (bytes_at s stripe t) q) 0 ((passes t l).zero q lq u)) refl)

          none : left s lost stripe state ≡ false
          none = none_any s.cell (λ t. any (equations s) (residual s lost state (bytes_at s stripe t))) (λ t l. none_any (equations s) (residual s lost state (bytes_at s stripe t)) (zero t l))
