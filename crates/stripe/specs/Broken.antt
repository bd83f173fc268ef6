-- What broken promises: document 01, "What each call gives".
use Rattle.std.specs.Prelude.{◌≡◌, Result, List, ℕ, length}
use Rattle.codes.specs.declared.Shape.{Shape}
use Rattle.refusals.specs.declared.reason.Refusal.{Refusal}
use Rattle.codes.specs.Encoded.{broken_equations}
use Rattle.refusals.specs.Refusals.{stripe_faults}
use Rattle.refusals.specs.Answer.{Answers}

-- broken answers how many equations fail in at least one byte, or the refusal
abbrev pub Counts : Shape → List ℕ → Result ℕ Refusal → Type 0
Counts s stripe = Answers (stripe_faults s (length stripe)) stripe stripe (λ n. n ≡ broken_equations s stripe)
