-- What the method's outcome says of the lost cells.
use Rattle.std.specs.Prelude.{◌≡◌, ◌≢◌, Bool, true, false, cond, ℕ, ◌<◌}
use Rattle.xor.specs.Xor.{◌⊕◌}
use Rattle.elimination.specs.Solution.{over, Solution, Agree, syndrome}
use Rattle.elimination.specs.Method.{State, Outcome, passed, stopped}

-- the XOR of the syndromes of the original equations that equation q is the sum of
abbrev pub residue : ℕ → ℕ → (ℕ → ℕ → Bool) → (ℕ → Bool) → State → (ℕ → ℕ) → ℕ → ℕ
residue E n equation lost s f q = over E (s.from q) (syndrome n equation lost f)

-- the XOR of f over all cells, lost ones too, of each of those equations
abbrev pub summed : ℕ → ℕ → (ℕ → ℕ → Bool) → State → (ℕ → ℕ) → ℕ → ℕ
summed E n equation s f q = over E (s.from q) (λ r. over n (equation r) f)

-- the survivors of f, and in each lost cell the residue of the equation chosen for it
abbrev pub rebuilt : ℕ → ℕ → (ℕ → ℕ → Bool) → (ℕ → Bool) → State → (ℕ → ℕ) → ℕ → ℕ
rebuilt E n equation lost s f c = cond (lost c) (residue E n equation lost s f (s.chosen c)) (f c)

-- the survivors of f pass: every unused equation has residue zero
pub record Consistent (E n : ℕ) (equation : ℕ → ℕ → Bool) (lost : ℕ → Bool) (s : State) (f : ℕ → ℕ) : Type 0 where
  pub zero : (q : ℕ) → q < E → s.used q ≡ false → residue E n equation lost s f q ≡ 0

-- the lost cells are determined by the survivors
pub record Determined (E n : ℕ) (equation : ℕ → ℕ → Bool) (lost : ℕ → Bool) (s : State) : Type 0 where
  -- two solutions with the same survivors are equal
  pub unique : (f g : ℕ → ℕ) → Solution E n equation f → Solution E n equation g → Agree n lost f g → (c : ℕ) → c < n → f c ≡ g c
  -- a lost cell of a solution
  pub value : (f : ℕ → ℕ) → Solution E n equation f → (c : ℕ) → c < n → lost c ≡ true → f c ≡ residue E n equation lost s f (s.chosen c)
  -- survivors of a solution pass
  pub needed : (f g : ℕ → ℕ) → Solution E n equation g → Agree n lost f g → Consistent E n equation lost s f
  -- survivors that pass are those of a solution, the rebuilt one
  pub solves : (f : ℕ → ℕ) → Consistent E n equation lost s f → Solution E n equation (rebuilt E n equation lost s f)
  pub agrees : (f : ℕ → ℕ) → Agree n lost f (rebuilt E n equation lost s f)
  -- it is made of bytes where the survivors are
  pub bytes : (f : ℕ → ℕ) → ((c : ℕ) → c < n → lost c ≡ false → f c < 256) → (c : ℕ) → c < n → rebuilt E n equation lost s f c < 256
  -- the same from sums over whole equations: what f has in lost cells cancels
  pub value_by_sums : (f : ℕ → ℕ) (c : ℕ) → c < n → lost c ≡ true → residue E n equation lost s f (s.chosen c) ≡ f c ⊕ summed E n equation s f (s.chosen c)
  pub zero_by_sums : (f : ℕ → ℕ) (q : ℕ) → q < E → s.used q ≡ false → residue E n equation lost s f q ≡ summed E n equation s f q
  -- the chosen equations
  pub below : (c : ℕ) → c < n → lost c ≡ true → s.chosen c < E

-- two solutions with the same survivors differ in the lost cell c
pub record Undetermined (E n : ℕ) (equation : ℕ → ℕ → Bool) (lost : ℕ → Bool) (c : ℕ) : Type 0 where
  pub inside : c < n
  pub is_lost : lost c ≡ true
  pub one : ℕ → ℕ
  pub other : ℕ → ℕ
  pub one_bits : (d : ℕ) → d < n → one d < 2
  pub other_bits : (d : ℕ) → d < n → other d < 2
  pub one_solves : Solution E n equation one
  pub other_solves : Solution E n equation other
  pub agree : Agree n lost one other
  pub differ : one c ≢ other c

-- the method passed every cell, or stopped at one
abbrev pub Verdict : ℕ → ℕ → (ℕ → ℕ → Bool) → (ℕ → Bool) → Outcome → Type 0
Verdict E n equation lost (passed s) = Determined E n equation lost s
Verdict E n equation lost (stopped c s) = Undetermined E n equation lost c
