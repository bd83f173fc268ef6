-- Which equations hold a cell: those that sum it, and the one whose parity cell it is.
use Rattle.std.specs.Prelude.{◌≡◌, Bool, ◌&&◌, ◌||◌, ℕ, eqb, leb, ltb}
use Rattle.bits.specs.Bit.{bit}
use Rattle.codes.specs.declared.Shape.{Shape}
use Rattle.codes.specs.Shape.{equations}
use Rattle.codes.specs.Encoded.{parity_cell, sums_cell}

-- whether equation q holds cell c: as its parity cell, or as one that it sums
unfoldable pub holds : Shape → ℕ → ℕ → Bool
holds s q c = eqb c (parity_cell s q) || sums_cell s q c

-- m is the set of the equations that pass the test
pub record SetOf (s : Shape) (test : ℕ → Bool) (m : ℕ) : Type 0 where
  pub bits : (q : ℕ) → bit q m ≡ (ltb q (equations s) && test q)

-- m is the set of the equations that hold cell c
abbrev pub HeldBy : Shape → ℕ → ℕ → Type 0
HeldBy s c m = SetOf s (λ q. holds s q c) m

-- m is the set of the equations numbered a and b, where there are such
abbrev pub Named : Shape → ℕ → ℕ → ℕ → Type 0
Named s a b m = SetOf s (λ q. eqb q a || eqb q b) m

-- m is the set of equation a and of all from equation n on
abbrev pub NamedFrom : Shape → ℕ → ℕ → ℕ → Type 0
NamedFrom s a n m = SetOf s (λ q. eqb q a || leb n q) m
