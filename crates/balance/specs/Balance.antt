-- A balanced read plan for one lost column of RDP: document 02, request 04.
use Rattle.std.specs.Prelude.{Bool, not, ◌&&◌, ◌||◌, ℕ, ◌+◌, ◌-◌, ◌*◌, ◌%◌, eqb, ltb}
use Rattle.xor.specs.Sets.{any}
use Rattle.bits.specs.Bit.{lowest}
use Rattle.codes.specs.declared.Shape.{Shape}

-- whether balanced plans are offered for prime p
unfoldable pub offered : ℕ → Bool
offered p = eqb p 3 || eqb p 7 || eqb p 11 || eqb p 19 || eqb p 23 || eqb p 31

-- whether i is in the set of nonzero squares mod p, shifted by s: it is a² + s mod p for some a from 1 to p-1
unfoldable pub shifted : ℕ → ℕ → ℕ → Bool
shifted p s i = any p (λ a. ltb 0 a && eqb ((a * a + s) % p) i)

-- whether that set holds neither p-1 nor p-1-k
unfoldable pub fits : ℕ → ℕ → ℕ → Bool
fits p k s = not (shifted p s (p - 1)) && not (shifted p s (p - 1 - k))

-- the shift for column k: the smallest s from 0 on for which it holds neither
unfoldable pub shift : ℕ → ℕ → ℕ
shift p k = lowest p (fits p k)

-- whether the balanced plan takes row i of column k by its diagonal: where it is in the set shifted so
unfoldable pub by_balance : Shape → ℕ → ℕ → Bool
by_balance s k i = shifted s.p (shift s.p k) i
