-- `refusals::check_code` meets its contract. Each return gives the first refusal in order, by the tests before it.
use mathlib.Core.Path.{◌≡◌, sym, ap, ◌∙◌}
use mathlib.Core.Logic.{◌⊎◌, ⊎_elim}
use mathlib.Core.List.{[], ◌∷◌}
use mathlib.Core.Bool.{not}
use Prim.Native.Nat.{ℕ, ◌≤◌, ◌<◌}
use native.Mathlib.Omega.{arith}
use borrow.Author.Tests.{eq-eqb, ne_eqb, lt-ltb, le-ltb}
use Rattle.std.proofs.Common.{rules}
use Rattle.codes.specs.declared.Code.{Code}
use Rattle.codes.specs.declared.Code.TheVariants.{Rdp, HCode, XCode, Evenodd}
use Rattle.codes.specs.declared.Shape.{Shape}
use Rattle.codes.specs.Kinds.{number_of}
use Rattle.codes.specs.Shape.{listed, wrong_data}
use Rattle.refusals.specs.Refusals.{fault, refusal, code_faults}
use Rattle.refusals.proofs.Order.{Gives, hit, miss, right}
use Rattle.refusals.proofs.Refused.{code_given}
use Rattle.refusals.proofs.check_code.Goals as goal

-- a code's number is one of four
one_of_four : (code : Code) → (1 ≤ number_of code) × (number_of code ≤ 4)
one_of_four Rdp = (omega arith, omega arith)
one_of_four HCode = (omega arith, omega arith)
one_of_four XCode = (omega arith, omega arith)
one_of_four Evenodd = (omega arith, omega arith)

module _ (s : Shape) where
  -- a number that no code has is refused
  unknown : (s.code ≡ 0) ⊎ (4 < s.code) → 1 ≡ refusal (code_faults s)
  unknown side = ⊎_elim (λ z. code_given s (hit (eq-eqb _ 0 z))) (λ l. code_given s (miss (ne_eqb _ 0 (λ z. omega arith)) (hit (lt-ltb 4 _ l)))) side

  -- where it is a code's the prime and the data columns decide
  known : (code : Code) → number_of code ≡ s.code → {r : ℕ} → Gives (fault 2 (not (listed s.p)) ∷ fault 14 (wrong_data s.code s.p s.width) ∷ []) r → r ≡ refusal (code_faults s)
  known code e g = let four = one_of_four code in code_given s (miss (ne_eqb _ 0 (λ z. omega (arith, four))) (miss (le-ltb 4 _ (omega (arith, four))) g))

pub returns-in_err-try_from : goal.returns-in_err-try_from
returns-in_err-try_from c = let e = unknown c.args.shape c.in_err-try_from.ensures.1 in search rules

pub returns-then-not-is_listed : goal.returns-then-not-is_listed
returns-then-not-is_listed c = known c.args.shape _ c.in_ok-try_from.ensures (hit (ap not (sym c.is_listed.ensures ∙ c.if-not-is_listed.true)))

pub returns-then-data_wrong : goal.returns-then-data_wrong
returns-then-data_wrong c =
    known c.args.shape _ c.in_ok-try_from.ensures (miss (ap not (sym c.is_listed.ensures ∙ c.if-not-is_listed.false)) (hit (sym c.data_wrong.ensures ∙ c.if-data_wrong.true)))

pub returns : goal.returns
returns c =
    known c.args.shape _ c.in_ok-try_from.ensures (miss (ap not (sym c.is_listed.ensures ∙ c.if-not-is_listed.false)) (miss (sym c.data_wrong.ensures ∙ c.if-data_wrong.false) right))
