-- Laws of bytes stored one list after the other, and of an answer made of them.
use mathlib.Core.Path.{◌≡◌, refl, sym, ap, ◌∙◌, subst}
use mathlib.Core.Logic.{◌≢◌, inr}
use mathlib.Core.List.{List, [], ◌∷◌, ◌++◌, append-nil}
use Prim.Native.Nat.{ℕ, zero, suc, ◌+◌, ◌-◌, ◌/◌, ◌%◌, ◌≤◌, ◌<◌}
use native.Mathlib.Nat.{zero-add}
use native.Mathlib.Omega.{arith}
use lib.ListN.{length, get_or, drop, length-append, length-drop, drop_of_length-le, get_or-append}
use lib.Seq.{get_or-append-add, get_or-drop, ext_get_or}
use Rattle.xor.proofs.Cases.{by_less}
use Rattle.xor.proofs.Runs.{put_over, put_same, put_end}
use Rattle.std.specs.Prelude.{Result, Ok, Err}
use Rattle.std.specs.Borrow.{Bor}
use Rattle.refusals.specs.declared.reason.Refusal.{Refusal}
use Rattle.refusals.specs.Number.{number_of}
use Rattle.refusals.proofs.Answer.{not_none}
use Rattle.format.specs.Format.{two_bytes_of, field, answer_bytes}
use Rattle.jobs.specs.Answer.{bytes_of, PutInto}
use Rattle.jobs.specs.Carrying.{Stored}

-- one list after the other
stored_both : (s s₁ s₂ a b : List ℕ) (at : ℕ) → Stored s at a s₁ → Stored s₁ (at + length a) b s₂ → Stored s at (a ++ b) s₂
stored_both s s₁ s₂ a b at first second =
    put_end s s₂ at (length (a ++ b)) (length a + length b) (λ t. get_or (a ++ b) t 0)
    (put_over s s₁ s₂ at (length a) (length b) (length a) (λ t. get_or (a ++ b) t 0) (λ t. get_or b t 0)
    (put_same s s₁ at (length a) (λ t. get_or a t 0) (λ t. get_or (a ++ b) t 0) first (λ t l. sym (get_or-append a b 0 t l)))
    second (λ t l. sym (get_or-append-add a b t 0)) (omega arith) (omega arith))
    (sym (length-append a b))

-- the tag and the length, then the content
pub stored_field : (s s₁ s₂ content head : List ℕ) (at tag : ℕ) → head ≡ tag ∷ two_bytes_of (length content) → Stored s at head s₁ → Stored s₁ (at + 3) content s₂ → Stored s at (field tag content) s₂
unfolding field two_bytes_of
stored_field s s₁ s₂ content head at tag e first =
    stored_both s s₁ s₂ (tag ∷ two_bytes_of (length content)) content at (subst (λ (h : List ℕ). Stored s at h s₁) e first)

pub head_is : (found tag n : ℕ) (b : List ℕ) → found ≡ tag → b ≡ n / 256 % 256 ∷ n % 256 ∷ [] → n < 65536 → found ∷ get_or b 0 0 ∷ get_or b 1 0 ∷ [] ≡ tag ∷ two_bytes_of n
unfolding two_bytes_of
head_is found tag n b t e l =
    let high : n / 256 % 256 ≡ n / 256 = omega arith in
    λ i. t i ∷ (ap (λ (x : List ℕ). get_or x 0 0) e ∙ high) i ∷ get_or (e i) 1 0 ∷ []

-- bytes stored at the start, and what comes after them
stored_start : (old bytes new : List ℕ) → length bytes ≤ length old → Stored old 0 bytes new → new ≡ bytes ++ drop (length bytes) old
stored_start old bytes new fits h = ext_get_or 0 new (bytes ++ drop (length bytes) old) long at
  where
    long : length new ≡ length (bytes ++ drop (length bytes) old)
    long = omega (arith, h.long, length-append bytes (drop (length bytes) old), length-drop (length bytes) old)

    at : (i : ℕ) → i < length new → get_or new i 0 ≡ get_or (bytes ++ drop (length bytes) old) i 0
    at i l =
        by_less i (length bytes)
        (λ w. ap (λ (k : ℕ). get_or new k 0) (sym (zero-add i)) ∙ h.inner i w ∙ sym (get_or-append bytes (drop (length bytes) old) 0 i w))
        (λ w. let same : length bytes + (i - length bytes) ≡ i = omega arith in
        h.outer i (inr (omega arith))
        ∙ ap (λ (k : ℕ). get_or old k 0) (sym same)
        ∙ sym (get_or-drop (length bytes) old (i - length bytes) 0)
        ∙ sym (get_or-append-add bytes (drop (length bytes) old) (i - length bytes) 0)
        ∙ ap (λ (k : ℕ). get_or (bytes ++ drop (length bytes) old) k 0) same)

-- bytes stored over as many others
pub stored_all : (old bytes new : List ℕ) → length old ≡ length bytes → Stored old 0 bytes new → new ≡ bytes
stored_all old bytes new long h =
    stored_start old bytes new (omega arith) h ∙ ap (λ (r : List ℕ). bytes ++ r) (drop_of_length-le old {i = length bytes} (omega arith)) ∙ append-nil bytes

-- with room for the bytes they are stored, and without it nothing is
pub writes_stored : (bytes old : List ℕ) (size : ℕ) (new : List ℕ) → size ≡ length bytes → size ≤ length old → Stored old 0 bytes new → PutInto bytes old size new
writes_stored bytes old size new long fits h = record {
  long = long;
  room = λ l. stored_start old bytes new (omega arith) h ∙ ap (λ (n : ℕ). bytes ++ drop n old) (sym long);
  narrow = λ l. absurd (omega arith);
}

pub writes_nothing : (bytes old : List ℕ) (size : ℕ) → size ≡ length bytes → length old < size → PutInto bytes old size old
writes_nothing bytes old size long narrow = record { long = long; room = λ l. absurd (omega arith); narrow = λ l. refl }

-- ---- the bytes of an answer: with the stripe after 0, alone after a refusal

-- after a refusal the stripe does not count
pub bytes_refused : (why : Refusal) (stripe : List ℕ) → answer_bytes (number_of why) stripe ≡ field 6 (number_of why ∷ [])
unfolding answer_bytes
bytes_refused why stripe = by_number (number_of why) (not_none why)
  where
    by_number : (n : ℕ) → n ≢ 0 → answer_bytes n stripe ≡ field 6 (n ∷ [])
    by_number zero some = absurd (some refl)
    by_number (suc n) some = refl

pub length_done : (stripe : List ℕ) → length (answer_bytes 0 stripe) ≡ 7 + length stripe
unfolding answer_bytes field two_bytes_of
length_done stripe = omega arith

pub length_refused : (why : Refusal) (stripe : List ℕ) → length (answer_bytes (number_of why) stripe) ≡ 4
unfolding field two_bytes_of
length_refused why stripe = ap length (bytes_refused why stripe)

-- the bytes of what is answered, and that they are stored

module _ (answer : Result (Bor (List ℕ)) Refusal) (stripe : Bor (List ℕ)) (given : answer ≡ Ok stripe) where
  pub size_given : length (bytes_of answer) ≡ 7 + length stripe.now
  size_given = ap (λ a. length (bytes_of a)) given ∙ length_done stripe.now

  pub written_given : (old s₁ s₂ : List ℕ) (size : ℕ) → size ≡ length (bytes_of answer) → size ≤ length old
      → Stored old 0 (field 6 (0 ∷ [])) s₁ → Stored s₁ 4 (field 5 stripe.now) s₂ → PutInto (bytes_of answer) old size s₂
  unfolding answer_bytes field two_bytes_of
  written_given old s₁ s₂ size long fits first second =
      writes_stored (bytes_of answer) old size s₂ long fits
      (subst (λ (a : Result (Bor (List ℕ)) Refusal). Stored old 0 (bytes_of a) s₂) (sym given) (stored_both old s₁ s₂ (field 6 (0 ∷ [])) (field 5 stripe.now) 0 first second))

module _ (answer : Result (Bor (List ℕ)) Refusal) (why : Refusal) (refused : answer ≡ Err why) where
  pub size_refused : length (bytes_of answer) ≡ 4
  size_refused = ap (λ a. length (bytes_of a)) refused ∙ length_refused why []

  pub written_refused : (old s₁ : List ℕ) (size number : ℕ) → number ≡ number_of why → size ≡ length (bytes_of answer) → size ≤ length old → Stored old 0 (field 6 (number ∷ [])) s₁ → PutInto (bytes_of answer) old size s₁
  written_refused old s₁ size number is long fits first =
      writes_stored (bytes_of answer) old size s₁ long fits
      (subst (λ (b : List ℕ). Stored old 0 b s₁) (ap (λ (n : ℕ). field 6 (n ∷ [])) is ∙ sym (bytes_refused why []) ∙ ap bytes_of (sym refused)) first)
