-- Answers that give something or a refusal: document 01, "What each call gives".
use Rattle.std.specs.Prelude.{◌≡◌, List, ℕ, Result, Ok, Err}
use Rattle.refusals.specs.declared.reason.Refusal.{Refusal}
use Rattle.refusals.specs.Refusals.{Fault, refusal}
use Rattle.refusals.specs.Number.{number_of}

-- the answer of a call with these faults that writes nothing: what it gives, of which P holds, or the refusal
abbrev pub Tells : {A : Type 0} → List Fault → (A → Type 0) → Result A Refusal → Type 0
Tells faults P (Ok given) = (0 ≡ refusal faults) × P given
Tells faults P (Err why) = number_of why ≡ refusal faults

-- the answer of a call with these faults, which finds the bytes old and leaves new. Document 01's number of what is given is 0, and P holds of it;
-- that of a refusal is the refusal, and every byte is as it was
abbrev pub Answers : {A : Type 0} → List Fault → List ℕ → List ℕ → (A → Type 0) → Result A Refusal → Type 0
Answers faults old new P (Ok given) = (0 ≡ refusal faults) × P given
Answers faults old new P (Err why) = (number_of why ≡ refusal faults) × (new ≡ old)
