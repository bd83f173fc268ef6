-- The elimination fact: over any list of equations and any lost cells, what the method's outcome says.
use mathlib.Core.Path.{◌≡◌, refl, sym, ap, ◌∙◌, subst}
use mathlib.Core.Logic.{◌≢◌}
use mathlib.Core.Bool.{Bool, false, cond, not, ◌&&◌}
use Prim.Native.Nat.{ℕ, ◌<◌}
use native.Mathlib.Nat.{le_refl}
use native.Mathlib.Omega.{arith}
use lib.Dec.{eqb}
use borrow.Author.Tests.{eq-eqb, ne_eqb}
use Rattle.xor.proofs.Cases.{by_test, by_equal, clash, and_left, not_passed}
use Rattle.xor.specs.Sets.{count}
use Rattle.elimination.specs.Solution.{Solution}
use Rattle.elimination.specs.Method.{State, Outcome, passed, stopped, run}
use Rattle.elimination.specs.Verdict.{rebuilt, Consistent, Determined, Undetermined, Verdict}
use Rattle.elimination.proofs.Over.{over_zero}
use Rattle.elimination.proofs.Invariant.{Invariant}
use Rattle.elimination.proofs.Run.{Closed, Passed, Stopped, Reached, run_reached}
use Rattle.elimination.proofs.Few.{passed_few}
use Rattle.elimination.proofs.Solved.{rebuilt_agrees, rebuilt_bits, residue_is, value_by_sums_lem, zero_by_sums_lem, lost_value, one_solution, solution_passes, rebuilt_solves}

-- every cell is zero
zero_solves : (E n : ℕ) (equation : ℕ → ℕ → Bool) → Solution E n equation (λ d. 0)
zero_solves E n equation = record { holds = λ q l. over_zero n (equation q) (λ d. 0) (λ c lc p. refl) }

-- 1 in cell c and 0 in the others
abbrev single : ℕ → ℕ → ℕ
single c d = cond (eqb d c) 1 0

-- ---- a cell that is not solved and that no unused equation holds: rebuilt from a 1 in it and 0 in the others, the solved cells are a solution
module _ (E n : ℕ) (equation : ℕ → ℕ → Bool) (s : State) (i : Invariant E n equation s) (c : ℕ) (unsolved : s.solved c ≡ false) (closed : Closed E s c) where
  abbrev nonzero : ℕ → ℕ
  nonzero = rebuilt E n equation s.solved s (single c)

  single_passes : Consistent E n equation s.solved s (single c)
  single_passes = record {
    zero = λ q l u.
        sym (residue_is E n equation s.solved s i (λ d ld. refl) (single c) q l)
        ∙ over_zero n (λ d. s.row q d && not (s.solved d)) (single c)
        (λ d ld p. by_equal d c (λ e. clash (ap (s.row q) (sym e) ∙ and_left (s.row q d) (not (s.solved d)) p) (closed.none q l u)) (λ e. rw (ne_eqb d c e) refl));
  }

  nonzero_solves : Solution E n equation nonzero
  nonzero_solves = rebuilt_solves E n equation s.solved s i (λ d l. refl) (single c) single_passes

  nonzero_bits : (d : ℕ) → d < n → nonzero d < 2
  nonzero_bits =
      rebuilt_bits E n equation s.solved s 1 (single c) (λ d l e. by_test (eqb d c) (λ p. rw p (omega arith)) (λ p. rw p (omega arith)))

  nonzero_here : nonzero c ≡ 1
  nonzero_here = rw (unsolved, eq-eqb c c refl) refl

  nonzero_off : (d : ℕ) → d ≢ c → s.solved d ≡ false → nonzero d ≡ 0
  nonzero_off d other e = rw (e, ne_eqb d c other) refl

module _ (E n : ℕ) (equation : ℕ → ℕ → Bool) (lost : ℕ → Bool) where
  -- the method passed all cells
  determined : (s : State) → Passed E n equation lost n s → Determined E n equation lost s
  determined s h = record {
    unique = one_solution E n equation lost s h.keeps same;
    value = lost_value E n equation lost s h.keeps same;
    needed = solution_passes E n equation lost s h.keeps same;
    solves = rebuilt_solves E n equation lost s h.keeps same;
    agrees = rebuilt_agrees E n equation lost s;
    bytes = rebuilt_bits E n equation lost s 8;
    value_by_sums = value_by_sums_lem E n equation lost s h.keeps same;
    zero_by_sums = zero_by_sums_lem E n equation lost s h.keeps same;
    below = λ c l e. h.keeps.below c (h.all c l e);
  }
    where
      same : (d : ℕ) → d < n → s.solved d ≡ lost d
      same d l = by_test (lost d) (λ e. h.all d l e ∙ sym e) (λ e. not_passed (λ p. clash (h.only d p) e) ∙ sym e)

  -- the method stopped
  undetermined : (c : ℕ) (s : State) → c < n → Stopped E n equation lost c s → Undetermined E n equation lost c
  undetermined c s inside h = record {
    inside = inside;
    is_lost = h.is_lost;
    one = nonzero E n equation s i c unsolved h.closed;
    other = λ d. 0;
    one_bits = nonzero_bits E n equation s i c unsolved h.closed;
    other_bits = λ d l. omega arith;
    one_solves = nonzero_solves E n equation s i c unsolved h.closed;
    other_solves = zero_solves E n equation;
    agree = record {
      same = λ d l e.
          nonzero_off E n equation s i c unsolved h.closed d (λ q. clash h.is_lost (ap lost (sym q) ∙ e))
          (not_passed (λ p. clash (h.sofar.only d p) e));
    };
    differ = λ e. apart (sym (nonzero_here E n equation s i c unsolved h.closed) ∙ e);
  }
    where
      i : Invariant E n equation s
      i = h.sofar.keeps

      unsolved : s.solved c ≡ false
      unsolved = not_passed (λ p. let l = h.sofar.low c p in absurd (omega arith))

      apart : ◌≡◌ {A = ℕ} 1 0 → ⊥
      apart e = omega arith

  verdict_of : (o : Outcome) → Reached E n equation lost n o → Verdict E n equation lost o
  verdict_of (passed s) h = determined s h
  verdict_of (stopped c s) h = undetermined c s h.0 h.1

  -- the fact
  pub elimination : Verdict E n equation lost (run E equation lost n)
  elimination = verdict_of (run E equation lost n) (run_reached E n equation lost n (le_refl n))

  -- the same where the outcome is known
  pub passed_all : (s : State) → run E equation lost n ≡ passed s → Determined E n equation lost s
  passed_all s e = subst (Verdict E n equation lost) e elimination

  pub stopped_at : (c : ℕ) (s : State) → run E equation lost n ≡ stopped c s → Undetermined E n equation lost c
  stopped_at c s e = subst (Verdict E n equation lost) e elimination

  -- more lost cells than equations
  pub too_many : E < count n lost → (c : ℕ) × Undetermined E n equation lost c
  too_many more = by_outcome (run E equation lost n) refl
    where
      by_outcome : (o : Outcome) → run E equation lost n ≡ o → (c : ℕ) × Undetermined E n equation lost c
      by_outcome (passed s) e = absurd (omega (arith, passed_few E equation lost n s e))
      by_outcome (stopped c s) e = (c, stopped_at c s e)
