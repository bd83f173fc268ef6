-- The method's state in masks: for each equation the lost cells that it holds, by their number in rising order, and the original
-- equations that it is the sum of; and the unused equations.
use Rattle.std.specs.Prelude.{◌≡◌, List, Bool, true, false, cond, not, ◌&&◌, Option, MatchOption, ℕ, ◌^◌, ◌<◌, eqb, ltb, length, get_or}
use Rattle.std.specs.Int.Bits.{bit_xor}
use Rattle.bits.specs.Bit.{bit, lowest}
use Rattle.elimination.specs.Method.{State, Outcome, passed, stopped, run}

-- m is the set of the original equations that equation q is the sum of
pub record Sources (E : ℕ) (s : State) (q m : ℕ) : Type 0 where
  pub bits : (r : ℕ) → bit r m ≡ (ltb r E && s.from q r)

-- m is the set of the unused equations
pub record Unused (E : ℕ) (s : State) (m : ℕ) : Type 0 where
  pub bits : (r : ℕ) → bit r m ≡ (ltb r E && not (s.used r))

-- ---- the steps of a turn, on a list of the equations' masks

-- an equation's first unsolved cell: the lowest of the lost cells in its mask; 64 where it has none
abbrev pub first_cell : ℕ → ℕ
first_cell row = lowest 64 (λ k. bit k row)

-- equation q is unused, and its first unsolved cell is number k
abbrev pub starts_at : List ℕ → ℕ → ℕ → ℕ → Bool
starts_at rows unused k q = bit q unused && eqb (first_cell (get_or rows q 0)) k

-- m is the set of those of the first E equations that hold lost cell number k
pub record Holding (E : ℕ) (rows : List ℕ) (k m : ℕ) : Type 0 where
  pub bits : (q : ℕ) → bit q m ≡ (ltb q E && bit k (get_or rows q 0))

-- `more` added to the mask m where q is a member of `test`
abbrev pub added_where : ℕ → ℕ → ℕ → ℕ → ℕ
added_where test q m more = cond (bit q test) (bit_xor m more) m

-- new is old with `more` put to the value of each member of a set, as `gives` says
pub record AddedBy {T : Type 0} (gives : T → T → T → Type 0) (old : List T) (members : ℕ) (more : T) (new : List T) : Type 0 where
  pub long : length new ≡ length old
  pub put : (r : ℕ) (d : T) → r < length old → bit r members ≡ true → gives (get_or old r d) more (get_or new r d)
  pub kept : (r : ℕ) (d : T) → r < length old → bit r members ≡ false → get_or new r d ≡ get_or old r d

-- new is old with `more` added to the mask of each member of a set
abbrev pub Added : List ℕ → ℕ → ℕ → List ℕ → Type 0
Added = AddedBy (λ x y z. z ≡ bit_xor x y)

-- each of the first E masks has its own number alone
pub record Own (E : ℕ) (masks : List ℕ) : Type 0 where
  pub mask : (q : ℕ) → q < E → get_or masks q 0 ≡ 2 ^ q

-- ---- the whole elimination

-- the lost cells below n by rising number: there are u, and number k is `cell k`
pub record Lists (n : ℕ) (lost : ℕ → Bool) (u : ℕ) (cell : ℕ → ℕ) : Type 0 where
  pub rising : (j k : ℕ) → j < k → k < u → cell j < cell k
  pub inside : (k : ℕ) → k < u → cell k < n
  pub is_lost : (k : ℕ) → k < u → lost (cell k) ≡ true
  pub all : (c : ℕ) → c < n → lost c ≡ true → (k : ℕ) × (k < u) × (cell k ≡ c)

-- a problem in masks: its equations, its lost cells in a list, and mask q is the set of the numbers of the lost cells that equation q holds
pub record Problem (E u : ℕ) (masks : List ℕ) : Type 0 where
  pub n : ℕ
  pub equation : ℕ → ℕ → Bool
  pub lost : ℕ → Bool
  pub cell : ℕ → ℕ
  pub lists : Lists n lost u cell
  pub rows : (q : ℕ) → q < E → (k : ℕ) → k < u → bit k (get_or masks q 0) ≡ equation q (cell k)

-- what the method comes to on it
abbrev pub outcome : (E u : ℕ) (masks : List ℕ) → Problem E u masks → Outcome
outcome E u masks p = run E p.equation p.lost p.n

-- the state s in masks: the equations chosen for the first u lost cells, the sources of all equations, and the unused ones
pub record Masked (E u : ℕ) (cell : ℕ → ℕ) (s : State) (sources chosen : List ℕ) (unused : ℕ) : Type 0 where
  pub choice : (k : ℕ) → k < u → get_or chosen k 0 ≡ s.chosen (cell k)
  pub source : (q : ℕ) → q < E → Sources E s q (get_or sources q 0)
  pub free : Unused E s unused

-- what an answer says of a problem: the method passed all cells, and what is lent holds its state; or it stopped
abbrev pub Answers : (E u : ℕ) (masks sources chosen : List ℕ) → Problem E u masks → Option ℕ → Type 0
Answers E u masks sources chosen p answer = MatchOption answer ((c : ℕ) × (s : State) × (outcome E u masks p ≡ stopped c s))
    (λ unused. (s : State) × (outcome E u masks p ≡ passed s) × Masked E u p.cell s sources chosen unused)

-- the answer is right on every problem with these masks
pub record Eliminates (E u : ℕ) (masks sources chosen : List ℕ) (answer : Option ℕ) : Type 0 where
  pub answers : (p : Problem E u masks) → Answers E u masks sources chosen p answer
