-- Any two results that a call's contract allows are equal: the answer, and every lent byte.
use mathlib.Core.Path.{◌≡◌, refl, sym, ◌∙◌}
use mathlib.Core.List.{List}
use Prim.Native.Nat.{ℕ}
use lib.ListN.{length}
use Rattle.xor.proofs.Cases.{by_equal}
use Rattle.codes.specs.declared.Shape.{Shape}
use Rattle.refusals.specs.declared.reason.Refusal.{Refusal}
use Rattle.std.specs.Prelude.{Result}
use Rattle.codes.specs.Encoded.{broken_equations}
use Rattle.codes.specs.Geometry.{cell_at}
use Rattle.refusals.specs.Refusals.{stripe_faults, write_faults}
use Rattle.refusals.proofs.Refused.{accepted, write_accepted}
use Rattle.refusals.specs.Number.{number}
use Rattle.refusals.proofs.Answer.{same_answer, one_answer}
use Rattle.stripe.specs.Encode.{Encodes}
use Rattle.stripe.specs.Broken.{Counts}
use Rattle.stripe.specs.Write.{Written, Depending, Writes}
use Rattle.stripe.proofs.Encoding.{one_encoding}
use Rattle.stripe.proofs.WriteFacts.{one_count, one_write}

-- encode
pub encode_one : (s : Shape) (old : List ℕ) (a b : ℕ) (x y : List ℕ) → Encodes s old a x → Encodes s old b y → (a ≡ b) × (x ≡ y)
encode_one s old a b x y ha hb = (
  same,
  by_equal a 0
      (λ z. let right = accepted s (length old) (sym ha.number ∙ z) in one_encoding s right.0 old x y right.1 (ha.done z) (hb.done (sym same ∙ z)))
      (λ n. ha.refused n ∙ sym (hb.refused (λ z. n (same ∙ z)))),
)
  where
    same : a ≡ b
    same = ha.number ∙ sym hb.number

-- of what the call answers, whose number the contract speaks of
pub encode_told : (s : Shape) (old : List ℕ) (a b : Result (Unit {0}) Refusal) (x y : List ℕ) → Encodes s old (number a) x → Encodes s old (number b) y → (a ≡ b) × (x ≡ y)
encode_told s old a b x y ha hb = let both = encode_one s old (number a) (number b) x y ha hb in (same_answer a b both.0, both.1)

-- broken
pub broken_one : (s : Shape) (stripe : List ℕ) (a b : Result ℕ Refusal) → Counts s stripe a → Counts s stripe b → a ≡ b
broken_one s stripe a b ha hb =
    let faults = stripe_faults s (length stripe) in
    let is : ℕ → Type 0 = λ n. n ≡ broken_equations s stripe in
    (one_answer faults faults stripe stripe stripe is is refl (λ z m n em en. (em ∙ sym en, refl)) a b ha hb).0

-- a small write
pub write_one : (s : Shape) (row column : ℕ) (bytes old : List ℕ) (x y : List ℕ) (a b : Result ℕ Refusal) → Writes s row column bytes old x a → Writes s row column bytes old y b → (a ≡ b) × (x ≡ y)
write_one s row column bytes old x y =
    let faults = write_faults s (length old) row column (length bytes) in
    let cell = cell_at s row column in
    one_answer faults faults old x y (λ n. Written s cell old bytes x × Depending s cell n) (λ n. Written s cell old bytes y × Depending s cell n) refl
    (λ z m n hm hn.
    let right = (write_accepted s (length old) row column (length bytes) z).1 in
    (one_count s right.formed cell m n hm.1 hn.1, one_write s right.formed cell old bytes x y right.long hm.0 hn.0))
