-- `balance::check_balance` meets its contract. What is wrong with the code, the prime or the data columns comes first, then missing columns, another
-- code, another prime, the cell size, and the column.
use mathlib.Core.Path.{◌≡◌, sym, ap, ◌∙◌}
use Rattle.std.proofs.Common.{rules}
use Rattle.refusals.proofs.Answer.{not_none}
use mathlib.Core.List.{[], ◌∷◌}
use mathlib.Core.Bool.{false, not}
use Prim.Native.Nat.{ℕ}
use borrow.Author.Tests.{eq-eqb, ne_eqb, le-leb, lt-leb}
use lib.Dec.{eqb, ltb}
use Rattle.codes.specs.declared.Shape.{Shape}
use Rattle.codes.specs.Shape.{missing}
use Rattle.refusals.specs.Refusals.{refusal, code_faults, size_faults, outside}
use Rattle.refusals.proofs.Order.{Gives, hit, miss, right}
use Rattle.refusals.proofs.Refused.{prime_listed}
use Rattle.balance.specs.Balance.{offered}
use Rattle.balance.specs.Refusals.{balance_faults}
use Rattle.balance.proofs.Refused.{from_width, from_code, from_prime, from_size, balance_after, size_decides, size_passes}
use Rattle.balance.proofs.check_balance.Goals as goal

-- past each test what the next faults give is given
module _ (s : Shape) (k : ℕ) (code : refusal (code_faults s) ≡ 0) {r : ℕ} where
  past1 : Gives (from_width s k) r → r ≡ refusal (balance_faults s k)
  past1 = (balance_after s k).own code

  module _ (full : ltb 0 (missing s) ≡ false) where
    past2 : Gives (from_code s k) r → r ≡ refusal (balance_faults s k)
    past2 next = past1 (miss full next)

    module _ (rdp : not (eqb s.code 1) ≡ false) where
      past3 : Gives (from_prime s k) r → r ≡ refusal (balance_faults s k)
      past3 next = past2 (miss rdp next)

      module _ (prime : not (offered s.p) ≡ false) where
        past4 : Gives (from_size s k) r → r ≡ refusal (balance_faults s k)
        past4 next = past3 (miss prime next)

        past5 : 0 ≡ refusal (size_faults s) → Gives (outside k s.p ∷ []) r → r ≡ refusal (balance_faults s k)
        past5 own next = past4 (size_passes s k own next)

pub returns-in_err-check_code : goal.returns-in_err-check_code
returns-in_err-check_code c = let e = (balance_after c.args.shape c.args.k).earlier c.in_err-check_code.ensures (not_none _) in search rules

pub is_short-requires : goal.is_short-requires
is_short-requires c = prime_listed c.args.shape (sym c.in_ok-check_code.ensures)

pub returns-then-is_short : goal.returns-then-is_short
returns-then-is_short c = past1 c.args.shape c.args.k (sym c.in_ok-check_code.ensures) (hit (sym c.is_short.ensures ∙ c.if-is_short.true))

pub returns-then-shape : goal.returns-then-shape
returns-then-shape c = past2 c.args.shape c.args.k (sym c.in_ok-check_code.ensures) (sym c.is_short.ensures ∙ c.if-is_short.false) (hit (ap not (ne_eqb _ 1 c.if-shape.true)))

pub returns-then-not-is_offered : goal.returns-then-not-is_offered
returns-then-not-is_offered c =
    past3 c.args.shape c.args.k (sym c.in_ok-check_code.ensures) (sym c.is_short.ensures ∙ c.if-is_short.false) (ap not (eq-eqb _ 1 c.if-shape.false))
    (hit (ap not (sym c.is_offered.ensures ∙ c.if-not-is_offered.true)))

pub returns-in_err-check_size : goal.returns-in_err-check_size
returns-in_err-check_size c =
    let e = past4 c.args.shape c.args.k (sym c.in_ok-check_code.ensures) (sym c.is_short.ensures ∙ c.if-is_short.false) (ap not (eq-eqb _ 1 c.if-shape.false)) (ap not (sym c.is_offered.ensures ∙ c.if-not-is_offered.false))
    (size_decides c.args.shape c.args.k c.in_err-check_size.ensures (not_none _)) in
    search rules

pub returns-then-shape-k : goal.returns-then-shape-k
returns-then-shape-k c =
    past5 c.args.shape c.args.k (sym c.in_ok-check_code.ensures) (sym c.is_short.ensures ∙ c.if-is_short.false) (ap not (eq-eqb _ 1 c.if-shape.false)) (ap not (sym c.is_offered.ensures ∙ c.if-not-is_offered.false))
    c.in_ok-check_size.ensures (hit (le-leb _ _ c.if-shape-k.true))

pub returns : goal.returns
returns c =
    past5 c.args.shape c.args.k (sym c.in_ok-check_code.ensures) (sym c.is_short.ensures ∙ c.if-is_short.false) (ap not (eq-eqb _ 1 c.if-shape.false)) (ap not (sym c.is_offered.ensures ∙ c.if-not-is_offered.false))
    c.in_ok-check_size.ensures (miss (lt-leb _ _ c.if-shape-k.false) right)
