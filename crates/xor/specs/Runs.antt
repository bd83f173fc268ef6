-- Runs of bytes in a slice: a run is given by the place of its first byte.
use Rattle.std.specs.Prelude.{◌≡◌, ◌≢◌, ◌⊎◌, List, Bool, true, false, Option, MatchOption, ℕ, ◌+◌, ◌≤◌, ◌<◌, length, get_or}
use Rattle.xor.specs.Xor.{◌⊕◌, xors}

-- the XOR of the bytes t past each place
unfoldable pub sum_at : List ℕ → List ℕ → ℕ → ℕ
sum_at s places t = xors (length places) (λ k. get_or s (get_or places k 0 + t) 0)

-- byte t of the run at `to`, with the difference of the run at `from` and of the new bytes XORed in
unfoldable pub changed_by : List ℕ → ℕ → ℕ → List ℕ → ℕ → ℕ
changed_by s to from new t = get_or s (to + t) 0 ⊕ (get_or s (from + t) 0 ⊕ get_or new t 0)

-- byte t of the run of d at `to`, with the bytes of s at + t past each place XORed in
unfoldable pub added_to : List ℕ → ℕ → List ℕ → List ℕ → ℕ → ℕ → ℕ
added_to d to s places at t = get_or d (to + t) 0 ⊕ sum_at s places (at + t)

-- every run of n bytes lies inside
pub record Inside (long : ℕ) (places : List ℕ) (n : ℕ) : Type 0 where
  pub ends : (k : ℕ) → k < length places → get_or places k 0 + n ≤ long

-- none of the runs of n bytes meets the run at `to`
pub record Apart (places : List ℕ) (to n : ℕ) : Type 0 where
  pub side : (k : ℕ) → k < length places → (get_or places k 0 + n ≤ to) ⊎ (to + n ≤ get_or places k 0)

-- two runs of n bytes do not meet
abbrev pub Beside : ℕ → ℕ → ℕ → Type 0
Beside to from n = (from + n ≤ to) ⊎ (to + n ≤ from)

-- r is the block `sum` with f i XORed into each byte i below n
pub record Added (sum : List ℕ) (n : ℕ) (f : ℕ → ℕ) (r : List ℕ) : Type 0 where
  pub long : length r ≡ length sum
  pub inner : (i : ℕ) → i < n → get_or r i 0 ≡ get_or sum i 0 ⊕ f i
  pub outer : (i : ℕ) → n ≤ i → get_or r i 0 ≡ get_or sum i 0

-- s' is s with f t in byte t of the run of n bytes at `to`, and no other byte changed
pub record Put (s : List ℕ) (to n : ℕ) (f : ℕ → ℕ) (s' : List ℕ) : Type 0 where
  pub long : length s' ≡ length s
  pub inner : (t : ℕ) → t < n → get_or s' (to + t) 0 ≡ f t
  pub outer : (i : ℕ) → (i < to) ⊎ (to + n ≤ i) → get_or s' i 0 ≡ get_or s i 0

-- r says whether the fact holds
pub record Says (fact : Type 0) (r : Bool) : Type 0 where
  pub yes : r ≡ true → fact
  pub no : r ≡ false → fact → ⊥

-- s' is s with f t in byte t of the run of n bytes at `to`, and r says whether every byte of the run is zero now
pub record Summed (s : List ℕ) (to n : ℕ) (f : ℕ → ℕ) (s' : List ℕ) (r : Bool) : Type 0 where
  pub put : Put s to n f s'
  pub zero : Says ((t : ℕ) → t < n → get_or s' (to + t) 0 ≡ 0) r

-- r is some number below n at which f is not zero, or none, and f is zero below n
abbrev pub NonzeroAt : (ℕ → ℕ) → ℕ → Option ℕ → Type 0
NonzeroAt f n r = MatchOption r ((t : ℕ) → t < n → f t ≡ 0) (λ i. (i < n) × (f i ≢ 0))
