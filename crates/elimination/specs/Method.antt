-- The elimination method: lost cells by rising number; for each, the lowest unused equation that holds it is chosen, and added to every
-- other equation that holds it. The method stops at the first lost cell for which there is none.
use Rattle.std.specs.Prelude.{Bool, false, cond, not, ◌&&◌, ◌||◌, ℕ, zero, suc, ◌+◌, eqb, ltb}
use Rattle.std.specs.Bool.{xor}
use Rattle.xor.specs.Sets.{count}
use Rattle.bits.specs.Bit.{lowest}

-- what the method knows between two cells
pub record State : Type 0 where
  -- the equations as they now are
  pub row : ℕ → ℕ → Bool
  -- the original equations that each is the sum of
  pub from : ℕ → ℕ → Bool
  -- the equations that were chosen
  pub used : ℕ → Bool
  -- the cells that an equation was chosen for, and that equation
  pub solved : ℕ → Bool
  pub chosen : ℕ → ℕ
  -- how many additions were made
  pub additions : ℕ

-- before the first turn: nothing is chosen, and each equation is the sum of itself alone
abbrev pub start : (ℕ → ℕ → Bool) → State
start equation = record { row = equation; from = eqb; used = λ q. false; solved = λ c. false; chosen = λ c. 0; additions = 0 }

-- set q added to each set r of the family that `joins` names
abbrev pub add_to : (ℕ → Bool) → ℕ → (ℕ → ℕ → Bool) → ℕ → ℕ → Bool
add_to joins q family r k = xor (family r k) (joins r && family q k)

-- equation q may be chosen for cell c: it is unused and holds c
abbrev pub free : State → ℕ → ℕ → Bool
free s c q = not (s.used q) && s.row q c

-- equation r is one that q is added to: another, and it holds c
abbrev pub joins : State → ℕ → ℕ → ℕ → Bool
joins s c q r = not (eqb r q) && s.row r c

-- equation q is chosen for cell c
abbrev pub choose : ℕ → State → ℕ → ℕ → State
choose E s c q = record {
  row = add_to (joins s c q) q s.row;
  from = add_to (joins s c q) q s.from;
  used = λ r. eqb r q || s.used r;
  solved = λ d. eqb d c || s.solved d;
  chosen = λ d. cond (eqb d c) q (s.chosen d);
  additions = s.additions + count E (joins s c q);
}

-- how far the method came: past every cell so far, or it stopped at a cell
pub data Outcome : Type 0 where
  passed : State → Outcome
  stopped : ℕ → State → Outcome

-- the state that the method came to
abbrev pub state_of : Outcome → State
state_of (passed s) = s
state_of (stopped c s) = s

-- one turn, at the lost cell c
abbrev pub turn : ℕ → State → ℕ → Outcome
turn E s c = let q = lowest E (free s c) in cond (ltb q E) (passed (choose E s c q)) (stopped c s)

-- one cell further: a turn where it is lost, and nothing after a stop
abbrev pub next : ℕ → (ℕ → Bool) → Outcome → ℕ → Outcome
next E lost (passed s) c = cond (lost c) (turn E s c) (passed s)
next E lost (stopped d s) c = stopped d s

-- the method over the cells below n
unfoldable pub run : ℕ → (ℕ → ℕ → Bool) → (ℕ → Bool) → ℕ → Outcome
run E equation lost zero = passed (start equation)
run E equation lost (suc n) = next E lost (run E equation lost n) n
