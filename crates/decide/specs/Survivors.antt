-- Lost cells and survivors: demand 3 and document 01, "What each call gives".
use Rattle.std.specs.Prelude.{◌≡◌, ◌≢◌, List, Bool, ℕ, ◌<◌, eqb, length, get_or}
use Rattle.xor.specs.Sets.{any}
use Rattle.codes.specs.declared.Shape.{Shape}
use Rattle.codes.specs.Shape.{stripe_length}
use Rattle.codes.specs.Geometry.{cell_of}
use Rattle.codes.specs.Encoded.{Encoded}
use Rattle.codes.specs.Agree.{Agree}

-- whether a caller's list names cell c
unfoldable pub named : Shape → List ℕ → ℕ → Bool
named s numbers c = any (length numbers) (λ k. eqb (cell_of s (get_or numbers k 0)) c)

-- x is an encoded stripe: bytes, as many as the shape says, in which every equation holds
pub record EncodedStripe (s : Shape) (x : List ℕ) : Type 0 where
  pub long : length x ≡ stripe_length s
  pub bytes : (i : ℕ) → get_or x i 0 < 256
  pub encoded : Encoded s x

-- undetermined: two different encoded stripes agree with each other on every cell that isn't lost
pub record Undetermined (s : Shape) (lost : ℕ → Bool) : Type 0 where
  pub one : List ℕ
  pub other : List ℕ
  pub one_is : EncodedStripe s one
  pub other_is : EncodedStripe s other
  pub agree : Agree s lost one other
  pub differ : one ≢ other

-- x is an encoded stripe that agrees with every survivor of old
pub record Restores (s : Shape) (lost : ℕ → Bool) (old x : List ℕ) : Type 0 where
  pub is : EncodedStripe s x
  pub agree : Agree s lost old x
