-- Equations on cells, and what it is to solve them. An equation is a test on cell numbers: the cells that it holds.
use Rattle.std.specs.Prelude.{◌≡◌, Bool, false, cond, not, ◌&&◌, ℕ, ◌<◌}
use Rattle.xor.specs.Xor.{xors}

-- the XOR of f c over the c below n that pass the test
abbrev pub over : ℕ → (ℕ → Bool) → (ℕ → ℕ) → ℕ
over n test f = xors n (λ c. cond (test c) (f c) 0)

-- each of the E equations on n cells sums to zero over the values f
pub record Solution (E n : ℕ) (equation : ℕ → ℕ → Bool) (f : ℕ → ℕ) : Type 0 where
  pub holds : (q : ℕ) → q < E → over n (equation q) f ≡ 0

-- the same survivors: f and g are equal in every cell that is not lost
pub record Agree (n : ℕ) (lost : ℕ → Bool) (f g : ℕ → ℕ) : Type 0 where
  pub same : (c : ℕ) → c < n → lost c ≡ false → f c ≡ g c

-- the XOR of the survivors that equation r holds
unfoldable pub syndrome : ℕ → (ℕ → ℕ → Bool) → (ℕ → Bool) → (ℕ → ℕ) → ℕ → ℕ
syndrome n equation lost f r = over n (λ c. equation r c && not (lost c)) f
