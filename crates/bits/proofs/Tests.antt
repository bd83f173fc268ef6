-- Laws of tests, by cases: what an addition (`xor`) does to one member, and sets that lie within another.
use mathlib.Core.Path.{◌≡◌, refl, sym}
use mathlib.Core.Bool.{Bool, true, false, not, ◌&&◌, ◌||◌, xor}
use Rattle.xor.proofs.Cases.{clash}

-- the members of a set that fail a second test, and those that pass it
pub split_by : (a b : Bool) → a ≡ xor (a && not b) (a && b)
unfolding xor
split_by true true = refl
split_by true false = refl
split_by false b = refl

-- what is not in the added set (x) is not touched
pub add_nothing : (a b x : Bool) → x ≡ false → xor a (b && x) ≡ a
unfolding xor
add_nothing a b true e = clash refl e
add_nothing true true false e = refl
add_nothing true false false e = refl
add_nothing false true false e = refl
add_nothing false false false e = refl

-- a cell that the chosen equation holds (x): that equation (b) keeps it, the others that hold it (a) lose it
pub add_sweeps : (a b x : Bool) → x ≡ true → (b ≡ true → a ≡ true) → xor a (not b && a && x) ≡ b
unfolding xor
add_sweeps a b false e h = clash e refl
add_sweeps true true true e h = refl
add_sweeps true false true e h = refl
add_sweeps false true true e h = h refl
add_sweeps false false true e h = refl

-- a member (b) of a set (a) taken out of it
pub take_out : (a b : Bool) → (b ≡ true → a ≡ true) → xor a b ≡ (not b && a)
unfolding xor
take_out true true h = refl
take_out true false h = refl
take_out false true h = sym (h refl)
take_out false false h = refl

-- ---- sets cut to those below a bound (l)

pub added_within : (l a b y : Bool) → xor (l && a) (b && (l && y)) ≡ (l && xor a (b && y))
unfolding xor
added_within true a b y = refl
added_within false a true y = refl
added_within false a false y = refl

pub neither_within : (l a b : Bool) → (not a && (l && not b)) ≡ (l && not (a || b))
neither_within true true b = refl
neither_within true false b = refl
neither_within false true b = refl
neither_within false false b = refl
