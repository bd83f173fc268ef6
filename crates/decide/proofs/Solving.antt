-- From the elimination fact to the lost cells of a stripe: which sets of equations give them, which check the survivors, and what it is if there are none.
use mathlib.Core.Path.{◌≡◌, refl, sym, ap, ◌∙◌, subst}
use mathlib.Core.Logic.{◌≢◌}
use mathlib.Core.List.{List}
use mathlib.Core.Bool.{Bool, true, false, cond, not, ◌&&◌}
use Prim.Native.Nat.{ℕ, ◌≤◌, ◌<◌}
use native.Mathlib.Omega.{arith}
use lib.Dec.{eqb, ltb}
use lib.ListN.{length, get_or}
use borrow.Author.Tests.{eq-eqb, ne_eqb, lt-ltb, ltb-true, not-true}
use Rattle.xor.specs.Xor.{◌⊕◌, xors}
use Rattle.xor.specs.Sets.{count}
use Rattle.xor.proofs.Cases.{by_test, by_less, clash, and_left, and_right, and_both, not_passed}
use Rattle.xor.proofs.Algebra.{⊕_zero}
use Rattle.xor.proofs.Sums.{xors_zero, xors_one}
use Rattle.std.specs.Prelude.{Option, Some, None}
use Rattle.bits.specs.Bit.{bit, Within}
use Rattle.elimination.specs.Method.{State}
use Rattle.elimination.specs.Solution.{over, Solution}
use Rattle.elimination.specs.Verdict as verdict
use Rattle.solve.specs.Masked.{Lists, Problem, Masked, Answers, Eliminates}
use Rattle.elimination.proofs.Over.{over_values, over_tests}
use Rattle.elimination.proofs.Elimination.{passed_all, stopped_at, too_many}
use Rattle.codes.specs.declared.Shape.{Shape}
use Rattle.codes.specs.Shape.{cells, equations, WellFormed}
use Rattle.codes.specs.Encoded.{total, Solves}
use Rattle.codes.specs.Holders.{holds}
use Rattle.codes.proofs.Shapes.{small_equations}
use Rattle.codes.proofs.Solutions.{total_zero, zero_total, total_holds, solves_same}
use Rattle.decide.specs.Survivors.{Undetermined}
use Rattle.decide.specs.declared.Lost.{Lost}
use Rattle.decide.specs.Solver.{summed, mended, lost_in, OnlyThere, cells_of, Gathered, Checks, Rows, Solver}
use Rattle.decide.proofs.Stripes.{two_solutions}

-- ---- solutions of a code's equations, as tests on cells

module _ (s : Shape) (w : WellFormed s) where
  pub as_solution : (f : ℕ → ℕ) → Solves s f → Solution (equations s) (cells s) (holds s) f
  as_solution f h = record { holds = λ q l. total_holds s w q l f ∙ total_zero s q f (h q l) }

  pub as_solves : (f : ℕ → ℕ) → Solution (equations s) (cells s) (holds s) f → Solves s f
  as_solves f h q l = zero_total s q f (sym (total_holds s w q l f) ∙ h.holds q l)

-- ---- the method passed: the sets
module _ (s : Shape) (w : WellFormed s) (lost : ℕ → Bool) (u : ℕ) (list : List ℕ) (lists : Lists (cells s) lost u (λ k. get_or list k 0)) (state : State)
    (determined : verdict.Determined (equations s) (cells s) (holds s) lost state) (sources chosen : List ℕ) (unused : ℕ)
    (masked : Masked (equations s) u (λ k. get_or list k 0) state sources chosen unused) where
  abbrev E : ℕ
  E = equations s

  -- the sum of the totals over a mask of sources
  summed_is : (f : ℕ → ℕ) (q : ℕ) → q < E → summed s (get_or sources q 0) f ≡ verdict.summed E (cells s) (holds s) state f q
  unfolding summed
  summed_is f q l =
      over_tests E (λ r. bit r (get_or sources q 0)) (state.from q) (λ r. total s r f) (λ r lr. (masked.source q l).bits r ∙ ap (λ (b : Bool). b && state.from q r) (lt-ltb r E lr))
      ∙ over_values E (state.from q) (λ r. total s r f) (λ r. over (cells s) (holds s r) f) (λ r lr p. sym (total_holds s w r lr f))

  source_below : (q : ℕ) → q < E → (r : ℕ) → bit r (get_or sources q 0) ≡ true → r < E
  source_below q l r p = ltb-true r E (and_left (ltb r E) (state.from q r) (sym ((masked.source q l).bits r) ∙ p))

  unused_below : (q : ℕ) → bit q unused ≡ true → q < E
  unused_below q p = ltb-true q E (and_left (ltb q E) (not (state.used q)) (sym (masked.free.bits q) ∙ p))

  unused_is : (q : ℕ) → bit q unused ≡ true → state.used q ≡ false
  unused_is q p = not-true (state.used q) (and_right (ltb q E) (not (state.used q)) (sym (masked.free.bits q) ∙ p))

  chosen_below : (k : ℕ) → k < u → get_or chosen k 0 < E
  chosen_below k l = subst (λ (x : ℕ). x < E) (sym (masked.choice k l)) (determined.below (get_or list k 0) (lists.inside k l) (lists.is_lost k l))

  -- the sets that give the lost cells, and those that check the survivors
  module _ (sets : List ℕ) (gives : Gathered chosen sources u sets) (checks : List ℕ) (tests : Checks unused sources checks) (few : u ≤ 64) where
    set_is : (f : ℕ → ℕ) (k : ℕ) → k < u → summed s (get_or sets k 0) f ≡ verdict.summed E (cells s) (holds s) state f (state.chosen (get_or list k 0))
    set_is f k l =
        ap (λ (m : ℕ). summed s m f) (gives.set k l) ∙ summed_is f (get_or chosen k 0) (chosen_below k l)
        ∙ ap (verdict.summed E (cells s) (holds s) state f) (masked.choice k l)

    -- check j is that of an unused equation, and each has one
    check_of : (j : ℕ) → j < length checks → (q : ℕ) × (q < E) × (state.used q ≡ false) × (get_or checks j 0 ≡ get_or sources q 0)
    check_of j l = let found = tests.made j l in (found.0, unused_below found.0 found.1, unused_is found.0 found.1, found.2)

    of_check : (q : ℕ) → q < E → state.used q ≡ false → (j : ℕ) × (j < length checks) × (get_or checks j 0 ≡ get_or sources q 0)
    of_check q l e = tests.all q (omega (arith, small_equations s w)) (masked.free.bits q ∙ and_both (lt-ltb q E l) (ap not e))

    -- the mended values are the rebuilt ones
    mended_is : (f : ℕ → ℕ) (c : ℕ) → c < cells s → mended s list sets u f c ≡ verdict.rebuilt E (cells s) (holds s) lost state f c
    unfolding mended
    mended_is f c lc =
        by_test (lost c)
        (λ e. let found = lists.all c lc e in lost_one e found.0 found.1 found.2)
        (λ e. ap (λ (x : ℕ). f c ⊕ x) (xors_zero u given (λ j l. ap (λ (b : Bool). cond b (summed s (get_or sets j 0) f) 0) (ne_eqb (get_or list j 0) c (λ q. clash (lists.is_lost j l) (ap lost q ∙ e))))) ∙ ⊕_zero (f c) ∙ sym (rw e refl))
      where
        given : ℕ → ℕ
        given = λ j. cond (eqb (get_or list j 0) c) (summed s (get_or sets j 0) f) 0

        once : (j k : ℕ) → j < u → k < u → j ≢ k → get_or list j 0 ≢ get_or list k 0
        once j k lj lk n q = by_less j k (λ l. omega (arith, lists.rising j k l lk)) (λ l. omega (arith, lists.rising k j (omega arith) lj))

        lost_one : lost c ≡ true → (k : ℕ) → k < u → get_or list k 0 ≡ c → f c ⊕ xors u given ≡ verdict.rebuilt E (cells s) (holds s) lost state f c
        lost_one e k l q =
            ap (λ (x : ℕ). f c ⊕ x)
            (xors_one u given k l (λ j lj n. ap (λ (b : Bool). cond b (summed s (get_or sets j 0) f) 0) (ne_eqb (get_or list j 0) c (λ z. once j k lj l n (z ∙ sym q))))
            ∙ ap (λ (b : Bool). cond b (summed s (get_or sets k 0) f) 0) (eq-eqb (get_or list k 0) c q) ∙ set_is f k l ∙ ap (λ (d : ℕ). verdict.summed E (cells s) (holds s) state f (state.chosen d)) q)
            ∙ sym (determined.value_by_sums f c lc e) ∙ sym (rw e refl)

    solver : Solver s lost u list sets (length checks) checks
    solver = record {
      listed = lists;
      gives = record { few = few; within = λ j l. record { below = λ r p. source_below (get_or chosen j 0) (chosen_below j l) r (ap (bit r) (sym (gives.set j l)) ∙ p) } };
      tests = record {
        few = tests.few;
        within = λ j l. record { below = λ r p. let found = check_of j l in source_below found.0 found.1 r (ap (bit r) (sym found.3) ∙ p) };
      };
      needed = λ f g h agree j l.
          let found = check_of j l in
          ap (λ (m : ℕ). summed s m f) found.3 ∙ summed_is f found.0 found.1 ∙ sym (determined.zero_by_sums f found.0 found.1 found.2)
          ∙ (determined.needed f g (as_solution s w g h) (record { same = agree })).zero found.0 found.1 found.2;
      solves = λ f passes.
          solves_same s w (verdict.rebuilt E (cells s) (holds s) lost state f) (mended s list sets u f) (λ c l. sym (mended_is f c l))
          (as_solves s w (verdict.rebuilt E (cells s) (holds s) lost state f) (determined.solves f (record {
            zero = λ q l e. let found = of_check q l e in
                determined.zero_by_sums f q l e ∙ sym (summed_is f q l) ∙ ap (λ (m : ℕ). summed s m f) (sym found.2) ∙ passes found.0 found.1;
          })));
      unique = λ f g hf hg agree. determined.unique f g (as_solution s w f hf) (as_solution s w g hg) (record { same = agree });
    }

-- ---- the method stopped: two solutions

pub undetermined : (s : Shape) → WellFormed s → (lost : ℕ → Bool) → OnlyThere s lost → (c : ℕ) → verdict.Undetermined (equations s) (cells s) (holds s) lost c → Undetermined s lost
undetermined s w lost there c h =
    two_solutions s w lost h.one h.other (λ d l none. h.agree.same d l (not_passed (λ p. clash (there d l p) none))) (λ d l. let small = h.one_bits d l in omega arith) (λ d l. let small = h.other_bits d l in omega arith)
    (as_solves s w h.one h.one_solves) (as_solves s w h.other h.other_solves) h.agree.same c h.inside h.differ

-- ---- what the program decides

module _ (s : Shape) (w : WellFormed s) (map : List Bool) (there : OnlyThere s (lost_in map)) where
  -- more lost cells than equations
  pub decision_more : equations s < count (cells s) (lost_in map) → Undetermined s (lost_in map)
  decision_more more = let found = too_many (equations s) (cells s) (holds s) (lost_in map) more in undetermined s w (lost_in map) there found.0 found.1

  module _ (u : ℕ) (list : List ℕ) (lists : Lists (cells s) (lost_in map) u (λ k. get_or list k 0)) (rows : List ℕ) (held : Rows s u list rows)
      (n v : ℕ) (sources chosen : List ℕ) (answer : Option ℕ) (n_is : n ≡ equations s) (v_is : v ≡ u) (eliminates : Eliminates n v rows sources chosen answer) where
    abbrev problem : Problem (equations s) u rows
    problem = record {
      n = cells s;
      equation = holds s;
      lost = lost_in map;
      cell = λ k. get_or list k 0;
      lists = lists;
      rows = held.bits;
    }

    -- the answer, as the code has matched it
    said : (a : Option ℕ) → answer ≡ a → Answers (equations s) u rows sources chosen problem a
    said a e = subst (Answers (equations s) u rows sources chosen problem) e
        ((subst (λ (k : ℕ). Eliminates k u rows sources chosen answer) n_is (subst (λ (k : ℕ). Eliminates n k rows sources chosen answer) v_is eliminates)).answers problem)

    -- the method stopped
    pub decision_open : answer ≡ None → Undetermined s (lost_in map)
    decision_open e =
        let found = said None e in
        undetermined s w (lost_in map) there found.0 (stopped_at (equations s) (cells s) (holds s) (lost_in map) found.0 found.1 found.2)

    -- it passed
    module _ (unused : ℕ) (e : answer ≡ Some unused) where
      pub chosen_below_all : (k : ℕ) → k < u → get_or chosen k 0 < equations s
      chosen_below_all k l =
          let found = said (Some unused) e in
          let determined = passed_all (equations s) (cells s) (holds s) (lost_in map) found.0 found.1 in
          omega (arith, found.2.choice k l, determined.below (get_or list k 0) (lists.inside k l) (lists.is_lost k l))

      pub within_unused : Within (equations s) unused
      within_unused =
          let found = said (Some unused) e in
          record { below = unused_below s w (lost_in map) u list lists found.0 (passed_all (equations s) (cells s) (holds s) (lost_in map) found.0 found.1) sources chosen unused found.2 }

      pub decision_solved : u ≤ equations s → (m : ℕ) (sets : List ℕ) → m ≡ u → Gathered chosen sources m sets → (checks : List ℕ) → Checks unused sources checks
          → Solver s (lost_in map) u list sets (length checks) checks
      decision_solved few m sets same gives checks tests =
          let found = said (Some unused) e in
          solver s w (lost_in map) u list lists found.0 (passed_all (equations s) (cells s) (holds s) (lost_in map) found.0 found.1) sources chosen unused found.2
          sets (subst (λ (k : ℕ). Gathered chosen sources k sets) same gives) checks tests (omega (arith, small_equations s w))

-- the cells that have been given their sets
pub solver_given : (s : Shape) (lost : ℕ → Bool) (old new : List Lost) (sets checks : List ℕ) → cells_of new ≡ cells_of old → length new ≡ length old
    → Solver s lost (length old) (cells_of old) sets (length checks) checks → Solver s lost (length new) (cells_of new) sets (length checks) checks
solver_given s lost old new sets checks same long h =
    subst (λ (u : ℕ). Solver s lost u (cells_of new) sets (length checks) checks) (sym long)
    (subst (λ (list : List ℕ). Solver s lost (length old) list sets (length checks) checks) (sym same) h)
