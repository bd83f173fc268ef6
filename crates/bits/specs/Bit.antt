-- A number as the set of its bits: what a mask of the program means.
use Rattle.std.specs.Prelude.{◌≡◌, List, Bool, true, false, cond, Option, MatchOption, ℕ, zero, suc, ◌-◌, ◌*◌, ◌/◌, ◌%◌, ◌^◌, ◌≤◌, ◌<◌, eqb, length, get_or}
use Rattle.std.specs.Int.Bits.{bit_and}
use Rattle.xor.specs.Xor.{xors}

-- bit k of m
unfoldable pub bit : ℕ → ℕ → Bool
bit k m = eqb (m / 2 ^ k % 2) 1

-- the lowest number below n that passes the test; n where none does
unfoldable pub lowest : ℕ → (ℕ → Bool) → ℕ
lowest zero test = 0
lowest (suc n) test = cond (test 0) 0 (suc (lowest n (λ k. test (suc k))))

-- r is the lowest number below n that passes the test, or n where none does
pub record IsLowest (n : ℕ) (test : ℕ → Bool) (r : ℕ) : Type 0 where
  pub most : r ≤ n
  pub passes : r < n → test r ≡ true
  pub before : (k : ℕ) → k < r → test k ≡ false

-- every member of the set is below n
pub record Within (n set : ℕ) : Type 0 where
  pub below : (r : ℕ) → bit r set ≡ true → r < n

-- the lowest number below 64 that passes the test, or none where none does
abbrev pub FindsLowest : (ℕ → Bool) → Option ℕ → Type 0
FindsLowest test found = MatchOption found (IsLowest 64 test 64) (λ q. (q < 64) × IsLowest 64 test q)

-- the lowest member of `set` is taken out of it, and `rest` is left; or nothing is, where it has none
abbrev pub TakesLowest : ℕ → Option ℕ → ℕ → Type 0
TakesLowest set taken rest = MatchOption taken ((set ≡ 0) × (rest ≡ 0))
    (λ q. (q < 64) × IsLowest 64 (λ k. bit k set) q × (rest ≡ bit_and set (set - 1)))

-- the list has the members of a set by rising number, each times `apart`
pub record Members (set apart : ℕ) (list : List ℕ) : Type 0 where
  pub few : length list ≤ 64
  pub member : (k : ℕ) → k < length list → (r : ℕ) × (r < 64) × (bit r set ≡ true) × (get_or list k 0 ≡ r * apart)
  pub all : (r : ℕ) → r < 64 → bit r set ≡ true → (k : ℕ) × (k < length list) × (get_or list k 0 ≡ r * apart)
  pub sum : (f : ℕ → ℕ) → xors (length list) (λ k. f (get_or list k 0)) ≡ xors 64 (λ r. cond (bit r set) (f (r * apart)) 0)

-- every member of the sets is in the union, and no other
pub record Union (sets : List ℕ) (all : ℕ) : Type 0 where
  pub within : (j : ℕ) → j < length sets → (r : ℕ) → bit r (get_or sets j 0) ≡ true → bit r all ≡ true
  pub made : (r : ℕ) → bit r all ≡ true → (j : ℕ) × (j < length sets) × (bit r (get_or sets j 0) ≡ true)
