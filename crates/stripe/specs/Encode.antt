-- What encode promises: document 01, "What each call gives".
use Rattle.std.specs.Prelude.{◌≡◌, ◌≢◌, List, ℕ, length}
use Rattle.codes.specs.declared.Shape.{Shape}
use Rattle.codes.specs.Encoded.{is_parity, Encoded}
use Rattle.codes.specs.Agree.{Agree}
use Rattle.refusals.specs.Refusals.{refusal, stripe_faults}

-- new is the encoded stripe with the data cells of old
pub record EncodingOf (s : Shape) (old new : List ℕ) : Type 0 where
  pub long : length new ≡ length old
  pub kept : Agree s (is_parity s) new old
  pub encoded : Encoded s new

-- encode answers 0 and leaves the encoded stripe with the same data cells, or it answers the refusal and leaves every byte
pub record Encodes (s : Shape) (old : List ℕ) (answer : ℕ) (new : List ℕ) : Type 0 where
  pub number : answer ≡ refusal (stripe_faults s (length old))
  pub refused : answer ≢ 0 → new ≡ old
  pub done : answer ≡ 0 → EncodingOf s old new
