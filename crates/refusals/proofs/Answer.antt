-- Any two answers of a call are equal where any two things that it gives are, and so are the bytes that it leaves. A refusal is told by its number.
use mathlib.Core.Path.{◌≡◌, refl, sym, ap, ◌∙◌}
use mathlib.Core.Logic.{◌≢◌}
use mathlib.Core.List.{List}
use mathlib.Core.Bool.{cond}
use Prim.Native.Nat.{ℕ}
use native.Mathlib.Omega.{arith}
use lib.Dec.{eqb}
use Rattle.std.specs.Prelude.{Option, None, Some, Result, Ok, Err}
use Rattle.refusals.specs.declared.reason.Refusal.{Refusal}
use Rattle.refusals.specs.declared.reason.Refusal.TheVariants.{Code, Prime, DataColumns, OtherCode, OtherPrime, CellSize, Length, Outside, ParityCell, NewLength, PlanNotAccepted, NotRebuilt, Undetermined, Disagree, NoJob}
use Rattle.refusals.specs.Number.{number_of, number, number_if}
use Rattle.refusals.specs.Refusals.{Fault, refusal}
use Rattle.refusals.specs.Answer.{Tells, Answers}

-- no refusal has number 0
pub not_none : (why : Refusal) → number_of why ≢ 0
not_none Code e = omega arith
not_none Prime e = omega arith
not_none OtherCode e = omega arith
not_none CellSize e = omega arith
not_none Length e = omega arith
not_none Outside e = omega arith
not_none ParityCell e = omega arith
not_none NewLength e = omega arith
not_none PlanNotAccepted e = omega arith
not_none NotRebuilt e = omega arith
not_none Undetermined e = omega arith
not_none Disagree e = omega arith
not_none NoJob e = omega arith
not_none DataColumns e = omega arith
not_none OtherPrime e = omega arith

-- the refusal that has a number
unfoldable pub numbered : ℕ → Refusal
numbered n =
    cond (eqb n 1) Code (cond (eqb n 2) Prime (cond (eqb n 3) OtherCode (cond (eqb n 4) CellSize (cond (eqb n 5) Length (cond (eqb n 6) Outside (cond (eqb n 7) ParityCell (cond (eqb n 8) NewLength (cond (eqb n 9) PlanNotAccepted (cond (eqb n 10) NotRebuilt (cond (eqb n 11) Undetermined (cond (eqb n 12) Disagree (cond (eqb n 13) NoJob (cond (eqb n 14) DataColumns (OtherPrime))))))))))))))

numbered_so : (why : Refusal) → numbered (number_of why) ≡ why
unfolding numbered
numbered_so Code = refl
numbered_so Prime = refl
numbered_so OtherCode = refl
numbered_so CellSize = refl
numbered_so Length = refl
numbered_so Outside = refl
numbered_so ParityCell = refl
numbered_so NewLength = refl
numbered_so PlanNotAccepted = refl
numbered_so NotRebuilt = refl
numbered_so Undetermined = refl
numbered_so Disagree = refl
numbered_so NoJob = refl
numbered_so DataColumns = refl
numbered_so OtherPrime = refl

-- a refusal is told by its number
pub same_refusal : (a b : Refusal) → number_of a ≡ number_of b → a ≡ b
same_refusal a b e = sym (numbered_so a) ∙ ap numbered e ∙ numbered_so b

-- an answer that gives nothing beside a refusal is told by its number
pub same_answer : (a b : Result (Unit {0}) Refusal) → number a ≡ number b → a ≡ b
same_answer (Ok a) (Ok b) e = refl
same_answer (Ok a) (Err why) e = absurd (not_none why (sym e))
same_answer (Err why) (Ok b) e = absurd (not_none why e)
same_answer (Err a) (Err b) e = ap Err (same_refusal a b e)

-- a refusal that may be none is told by its number
pub same_reason : (a b : Option Refusal) → number_if a ≡ number_if b → a ≡ b
same_reason None None e = refl
same_reason None (Some why) e = absurd (not_none why (sym e))
same_reason (Some why) None e = absurd (not_none why e)
same_reason (Some a) (Some b) e = ap Some (same_refusal a b e)

module _ {A : Type 0} (f g : List Fault) (old x y : List ℕ) (P Q : A → Type 0) (same : refusal f ≡ refusal g) (counts : refusal f ≡ 0 → (m n : A) → P m → Q n → (m ≡ n) × (x ≡ y)) where
  pub one_answer : (a b : Result A Refusal) → Answers f old x P a → Answers g old y Q b → (a ≡ b) × (x ≡ y)
  one_answer (Ok m) (Ok n) ha hb = let both = counts (sym ha.0) m n ha.1 hb.1 in (ap Ok both.0, both.1)
  one_answer (Ok m) (Err why) ha hb = absurd (not_none why (hb.0 ∙ sym same ∙ sym ha.0))
  one_answer (Err why) (Ok n) ha hb = absurd (not_none why (ha.0 ∙ same ∙ sym hb.0))
  one_answer (Err why) (Err other) ha hb = (ap Err (same_refusal why other (ha.0 ∙ same ∙ sym hb.0)), ha.1 ∙ sym hb.1)

module _ {A : Type 0} (faults : List Fault) (P : A → Type 0) (things : refusal faults ≡ 0 → (m n : A) → P m → P n → m ≡ n) where
  pub one_told : (a b : Result A Refusal) → Tells faults P a → Tells faults P b → a ≡ b
  one_told (Ok m) (Ok n) ha hb = ap Ok (things (sym ha.0) m n ha.1 hb.1)
  one_told (Ok m) (Err why) ha hb = absurd (not_none why (hb ∙ sym ha.0))
  one_told (Err why) (Ok n) ha hb = absurd (not_none why (ha ∙ sym hb.0))
  one_told (Err why) (Err other) ha hb = ap Err (same_refusal why other (ha ∙ sym hb))
