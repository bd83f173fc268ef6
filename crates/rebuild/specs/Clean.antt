-- Where nothing is lost: whether the stripe is encoded.
use Rattle.std.specs.Prelude.{◌≡◌, ◌≢◌, ◌⊎◌, List, ℕ}
use Rattle.codes.specs.declared.Shape.{Shape}
use Rattle.codes.specs.Encoded.{Encoded}

-- 0 where the stripe is encoded, else 12
pub record CleanOrNot (s : Shape) (stripe : List ℕ) (answer : ℕ) : Type 0 where
  pub number : (answer ≡ 0) ⊎ (answer ≡ 12)
  pub clean : answer ≡ 0 → Encoded s stripe
  pub not' : answer ≢ 0 → Encoded s stripe → ⊥
