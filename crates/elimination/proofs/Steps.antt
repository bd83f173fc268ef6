-- One step of the run at a time, for a program that walks the lost cells.
use mathlib.Core.Path.{◌≡◌, refl, sym, ap, ◌∙◌}
use mathlib.Core.Bool.{Bool, true, false, cond}
use Prim.Native.Nat.{ℕ, zero, suc, ◌≤◌, ◌<◌}
use native.Mathlib.Omega.{arith}
use lib.Dec.{ltb}
use borrow.Author.Tests.{lt-ltb, le-ltb}
use Rattle.xor.proofs.Cases.{by_equal}
use Rattle.elimination.specs.Method.{State, start, free, choose, Outcome, passed, stopped, turn, next, run}
use Rattle.bits.specs.Bit.{lowest, IsLowest}
use Rattle.bits.proofs.Lowest.{lowest_is, lowest_one, none_lowest}

module _ (E : ℕ) (equation : ℕ → ℕ → Bool) (lost : ℕ → Bool) where
  pub run_starts : run E equation lost 0 ≡ passed (start equation)
  unfolding run
  run_starts = refl

  run_more : (c : ℕ) → run E equation lost (suc c) ≡ next E lost (run E equation lost c) c
  unfolding run
  run_more c = refl

  -- a cell that is not lost is passed over
  run_over : (c : ℕ) (s : State) → lost c ≡ false → run E equation lost c ≡ passed s → run E equation lost (suc c) ≡ passed s
  run_over c s e h = run_more c ∙ ap (λ (o : Outcome). next E lost o c) h ∙ rw e refl

  lost_turn : (c : ℕ) (s : State) → lost c ≡ true → run E equation lost c ≡ passed s → run E equation lost (suc c) ≡ turn E s c
  lost_turn c s e h = run_more c ∙ ap (λ (o : Outcome). next E lost o c) h ∙ rw e refl

  -- the lowest equation that is unused and holds the cell is chosen
  pub run_chooses : (c q : ℕ) (s : State) → lost c ≡ true → q < E → IsLowest E (free s c) q → run E equation lost c ≡ passed s
      → run E equation lost (suc c) ≡ passed (choose E s c q)
  run_chooses c q s e l found h =
      lost_turn c s e h
      ∙ ap (λ (r : ℕ). cond (ltb r E) (passed (choose E s c r)) (stopped c s)) (lowest_one E (free s c) (lowest E (free s c)) q (lowest_is E (free s c)) found)
      ∙ ap (λ (b : Bool). cond b (passed (choose E s c q)) (stopped c s)) (lt-ltb q E l)

  -- there is none
  pub run_stops : (c : ℕ) (s : State) → lost c ≡ true → ((q : ℕ) → q < E → free s c q ≡ false) → run E equation lost c ≡ passed s
      → run E equation lost (suc c) ≡ stopped c s
  run_stops c s e none h =
      lost_turn c s e h
      ∙ ap (λ (b : Bool). cond b (passed (choose E s c (lowest E (free s c)))) (stopped c s)) (le-ltb (lowest E (free s c)) E (none_lowest E (free s c) none))

  -- cells that are not lost are passed over
  pub run_skips : (c n : ℕ) (s : State) → c ≤ n → ((d : ℕ) → c ≤ d → d < n → lost d ≡ false) → run E equation lost c ≡ passed s → run E equation lost n ≡ passed s
  run_skips c zero s l none h = ap (run E equation lost) (let z : 0 ≡ c = omega arith in z) ∙ h
  run_skips c (suc n) s l none h =
      by_equal c (suc n) (λ e. ap (run E equation lost) (sym e) ∙ h)
      (λ e. run_over n s (none n (omega arith) (omega arith)) (run_skips c n s (omega arith) (λ d lo hi. none d lo (omega arith)) h))

  -- once stopped, it stays so
  pub run_stays : (c n d : ℕ) (s : State) → c ≤ n → run E equation lost c ≡ stopped d s → run E equation lost n ≡ stopped d s
  run_stays c zero d s l h = ap (run E equation lost) (let z : 0 ≡ c = omega arith in z) ∙ h
  run_stays c (suc n) d s l h =
      by_equal c (suc n) (λ e. ap (run E equation lost) (sym e) ∙ h)
      (λ e. run_more n ∙ ap (λ (o : Outcome). next E lost o n) (run_stays c n d s (omega arith) h))
