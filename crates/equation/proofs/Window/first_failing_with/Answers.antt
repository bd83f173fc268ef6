-- `equation::Window::first_failing_with` meets its contract. The first that the closure answers yes for is the first that fails.
use mathlib.Core.Path.{◌≡◌}
use mathlib.Core.Bool.{true, false}
use Prim.Native.Nat.{ℕ, ◌≤◌, ◌<◌}
use Rattle.std.specs.Prelude.{Option, None, Some, MatchOption}
use Rattle.std.proofs.Common.{arith, rules, tests}
use Rattle.std.proofs.lemmas.Iterator.{first_from_Range}
use Rattle.equation.specs.declared.Window.{Window}
use Rattle.equation.specs.InWindow.{is_failing, FirstFailing}
use Rattle.codes.specs.Shape.{equations}
use Rattle.equation.proofs.Window.first_failing_with.Goals as goal

-- what is found in a range from 0 to the number of equations
first_found : (w : Window) (n : ℕ) → n ≡ equations w.shape → (r : Option ℕ)
    → MatchOption r ((k : ℕ) → 0 ≤ k → k < n → is_failing w k ≡ false) (λ i. (0 ≤ i) × (i < n) × (is_failing w i ≡ true) × ((k : ℕ) → 0 ≤ k → k < i → is_failing w k ≡ false))
    → FirstFailing w r
first_found w n e None h = record { most = omega arith; passes = λ l. absurd (omega arith); before = λ k l. h k (omega arith) (omega arith) }
first_found w n e (Some i) h = (omega (arith, h.1), record { most = omega (arith, h.1); passes = λ l. h.2; before = λ k l. h.3 k (omega arith) l })

pub returns : goal.returns
returns c =
    let w = c.args.self.now in
    first_found w _ c.equation_count.ensures _ (first_from_Range _ _ _ _ (λ i. is_failing w i ≡ true) (λ i. is_failing w i ≡ false) c.find.ensures.ran (λ x q k. search (rules, tests)) (λ x q k. search (rules, tests)))
