-- Shapes and answers in numbers: any two answers that an exported function may give are equal, since any two of the Rattle call are.
use mathlib.Core.Path.{◌≡◌, sym, ap, ◌∙◌, subst}
use mathlib.Core.List.{List}
use Prim.Native.Nat.{ℕ}
use Rattle.codes.specs.declared.Shape.{Shape}
use Rattle.stripe.specs.Broken.{Counts}
use Rattle.stripe.specs.Write.{Writes}
use Rattle.stripe.proofs.OneAnswer.{broken_one, write_one}
use Rattle.bad.specs.Bad.{Finds}
use Rattle.bad.proofs.OneAnswer.{bad_one}
use Rattle.plan.specs.Plans.{Plans}
use Rattle.balance.specs.Balances.{Balances}
use Rattle.spare.specs.Run.{RunsByPlan}
use Rattle.show.specs.Show.{Shown}
use Rattle.plan.proofs.Planning.{plan_one}
use Rattle.balance.proofs.BalanceFacts.{balance_one}
use Rattle.spare.proofs.SameReads.{run_one}
use Rattle.show.proofs.ShowFacts.{shown_one}
use Rattle.zijraduf.specs.declared.ShapeNumbers.{ShapeNumbers}
use Rattle.zijraduf.specs.declared.Count.{Count}
use Rattle.zijraduf.specs.declared.Found.{Found}
use Rattle.zijraduf.specs.declared.Planned.{Planned}
use Rattle.zijraduf.specs.declared.Part.{Part}
use Rattle.zijraduf.specs.Export.{shape_from, Told, InNumbers, count_in_numbers, found_in_numbers, plan_in_numbers, shown_in_numbers}

module _ {A B : Type 0} (numbers : A → B) where
  same_numbers : (P Q : A → Type 0) (a b : B) (ha : InNumbers numbers P a) (hb : InNumbers numbers Q b) → ha.given ≡ hb.given → a ≡ b
  same_numbers P Q a b ha hb same = ha.is ∙ ap numbers same ∙ sym hb.is

pub exported_broken_one : (s : Shape) (stripe : List ℕ) (a b : Count) → InNumbers count_in_numbers (Counts s stripe) a → InNumbers count_in_numbers (Counts s stripe) b → a ≡ b
exported_broken_one s stripe a b ha hb = same_numbers _ _ _ a b ha hb (broken_one s stripe ha.given hb.given ha.allowed hb.allowed)

pub exported_write_one : (s : Shape) (row column : ℕ) (bytes old : List ℕ) (a b : Count) (x y : List ℕ)
    → InNumbers count_in_numbers (Writes s row column bytes old x) a → InNumbers count_in_numbers (Writes s row column bytes old y) b → (a ≡ b) × (x ≡ y)
exported_write_one s row column bytes old a b x y ha hb =
    let same = write_one s row column bytes old x y ha.given hb.given ha.allowed hb.allowed in
    (same_numbers _ _ _ a b ha hb same.0, same.1)

pub exported_bad_one : (s : Shape) (stripe : List ℕ) (a b : Found) → InNumbers found_in_numbers (Finds s stripe) a → InNumbers found_in_numbers (Finds s stripe) b → a ≡ b
exported_bad_one s stripe a b ha hb = same_numbers _ _ _ a b ha hb (bad_one s stripe ha.given hb.given ha.allowed hb.allowed)

pub exported_plan_one : (s : Shape) (k : ℕ) (a b : Planned) → InNumbers plan_in_numbers (Plans s k) a → InNumbers plan_in_numbers (Plans s k) b → a ≡ b
exported_plan_one s k a b ha hb = same_numbers _ _ _ a b ha hb (plan_one s k ha.given hb.given ha.allowed hb.allowed)

pub exported_balance_one : (s : Shape) (k : ℕ) (a b : Planned) → InNumbers plan_in_numbers (Balances s k) a → InNumbers plan_in_numbers (Balances s k) b → a ≡ b
exported_balance_one s k a b ha hb = same_numbers _ _ _ a b ha hb (balance_one s k ha.given hb.given ha.allowed hb.allowed)

pub exported_run_one : (s : Shape) (k plan first budget : ℕ) (stripe old : List ℕ) (a b : Count) (x y : List ℕ)
    → InNumbers count_in_numbers (RunsByPlan s k plan first budget stripe old x) a → InNumbers count_in_numbers (RunsByPlan s k plan first budget stripe old y) b → (a ≡ b) × (x ≡ y)
exported_run_one s k plan first budget stripe old a b x y ha hb =
    let same = run_one s k plan first budget stripe old x y ha.given hb.given ha.allowed hb.allowed in
    (same_numbers _ _ _ a b ha hb same.0, same.1)

pub exported_show_one : (s : Shape) (bytes spare k done row column : ℕ) (a b : Part)
    → InNumbers (shown_in_numbers s) (Shown s bytes spare k done row column) a → InNumbers (shown_in_numbers s) (Shown s bytes spare k done row column) b → a ≡ b
exported_show_one s bytes spare k done row column a b ha hb =
    same_numbers _ _ _ a b ha hb (shown_one s bytes spare k done row column ha.given hb.given ha.allowed hb.allowed)

-- what holds of any two promises on one shape holds of two on the shape that the same numbers describe
pub told_one : (numbers : ShapeNumbers) (P Q : Shape → Type 0) (R : Type 0) → ((s : Shape) → P s → Q s → R) → Told numbers P → Told numbers Q → R
told_one numbers P Q R same a b = same (shape_from numbers) (subst P a.is a.so) (subst Q b.is b.so)
