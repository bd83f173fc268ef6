-- The method's run: what is known after the cells below c, whether it passed them or stopped at one of them.
use mathlib.Core.Path.{◌≡◌, refl, ap, ◌∙◌}
use mathlib.Core.Bool.{Bool, true, false, not}
use Prim.Native.Nat.{ℕ, zero, suc, ◌≤◌, ◌<◌}
use native.Mathlib.Omega.{arith}
use lib.Dec.{ltb}
use borrow.Author.Tests.{ltb-true, ltb-false, not-true}
use Rattle.xor.proofs.Cases.{by_test, by_equal, clash, and_left, and_right, and_both, not_passed}
use Rattle.elimination.specs.Method.{State, free, choose, Outcome, passed, stopped, turn, next, run}
use Rattle.bits.specs.Bit.{lowest}
use Rattle.bits.proofs.Lowest.{lowest_is, lowest_none}
use Rattle.elimination.proofs.Invariant.{Invariant, start_keeps, choice_keeps, now_solved, still_solved, solved_before}

-- no unused equation holds cell c
pub record Closed (E : ℕ) (s : State) (c : ℕ) : Type 0 where
  pub none : (q : ℕ) → q < E → s.used q ≡ false → s.row q c ≡ false

module _ (E n : ℕ) (equation : ℕ → ℕ → Bool) (lost : ℕ → Bool) where
  -- of the cells below c exactly the lost ones are solved, and no other cell is
  pub record Passed (c : ℕ) (s : State) : Type 0 where
    pub keeps : Invariant E n equation s
    pub all : (d : ℕ) → d < c → lost d ≡ true → s.solved d ≡ true
    pub low : (d : ℕ) → s.solved d ≡ true → d < c
    pub only : (d : ℕ) → s.solved d ≡ true → lost d ≡ true

  -- cell c is lost, and there is no equation for it
  pub record Stopped (c : ℕ) (s : State) : Type 0 where
    pub sofar : Passed c s
    pub is_lost : lost c ≡ true
    pub closed : Closed E s c

  abbrev pub Reached : ℕ → Outcome → Type 0
  Reached c (passed s) = Passed c s
  Reached c (stopped d s) = (d < c) × Stopped d s

  -- a cell that is not lost
  pass_over : (c : ℕ) (s : State) → lost c ≡ false → Passed c s → Passed (suc c) s
  pass_over c s e h = record {
    keeps = h.keeps;
    all = λ d l p. by_equal d c (λ q. clash p (ap lost q ∙ e)) (λ q. h.all d (omega arith) p);
    low = λ d p. let l = h.low d p in omega arith;
    only = h.only;
  }

  -- a lost cell for which q is chosen
  choose_for : (c q : ℕ) (s : State) → c < n → q < E → lost c ≡ true → free s c q ≡ true → Passed c s → Passed (suc c) (choose E s c q)
  choose_for c q s inside below e p h = record {
    keeps = choice_keeps E n equation s h.keeps c q inside below unused holds;
    all = λ d l t. by_equal d c (λ k. ap (choose E s c q).solved k ∙ now_solved E s c q) (λ k. still_solved E s c q d (h.all d (omega arith) t));
    low = λ d t. by_equal d c (λ k. omega arith) (λ k. let l = h.low d (solved_before E s c q d k t) in omega arith);
    only = λ d t. by_equal d c (λ k. ap lost k ∙ e) (λ k. h.only d (solved_before E s c q d k t));
  }
    where
      unused : s.used q ≡ false
      unused = not-true (s.used q) (and_left (not (s.used q)) (s.row q c) p)

      holds : s.row q c ≡ true
      holds = and_right (not (s.used q)) (s.row q c) p

  -- a lost cell for which there is none
  stop_at : (c : ℕ) (s : State) → lost c ≡ true → E ≤ lowest E (free s c) → Passed c s → Stopped c s
  stop_at c s e l h = record {
    sofar = h;
    is_lost = e;
    closed = record {
      none = λ q lq u. not_passed (λ t. clash (and_both (ap not u) t) (lowest_none E (free s c) l q lq));
    };
  }

  turn_reached : (c : ℕ) (s : State) → c < n → lost c ≡ true → Passed c s → Reached (suc c) (turn E s c)
  turn_reached c s inside e h =
      let q = lowest E (free s c) in
      by_test (ltb q E)
      (λ t. rw t (choose_for c q s inside (ltb-true q E t) e ((lowest_is E (free s c)).passes (ltb-true q E t)) h))
      (λ t. rw t (omega arith, stop_at c s e (ltb-false q E t) h))

  next_reached : (c : ℕ) (o : Outcome) → c < n → Reached c o → Reached (suc c) (next E lost o c)
  next_reached c (passed s) inside h = by_test (lost c) (λ e. rw e (turn_reached c s inside e h)) (λ e. rw e (pass_over c s e h))
  next_reached c (stopped d s) inside h = (omega arith, h.1)

  pub run_reached : (c : ℕ) → c ≤ n → Reached c (run E equation lost c)
  unfolding run
  run_reached zero l =
      record { keeps = start_keeps E n equation; all = λ d k p. absurd (omega arith); low = λ d p. clash p refl; only = λ d p. clash p refl }
  run_reached (suc c) l = next_reached c (run E equation lost c) l (run_reached c (omega arith))
