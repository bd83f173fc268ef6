-- `spare::check_spare` meets its contract. What is wrong with the shape comes first, then the two lengths.
use mathlib.Core.Path.{◌≡◌, sym, ap, ◌∙◌}
use mathlib.Core.List.{[], ◌∷◌}
use mathlib.Core.Bool.{not}
use Prim.Native.Nat.{ℕ, ◌*◌}
use native.Mathlib.Omega.{arith}
use borrow.Author.Tests.{eq-eqb, ne_eqb}
use Rattle.std.proofs.Common.{rules}
use Rattle.codes.specs.declared.Shape.{Shape}
use Rattle.codes.specs.Shape.{rows, stripe_length}
use Rattle.refusals.specs.Refusals.{refusal, other_length}
use Rattle.refusals.proofs.Answer.{not_none}
use Rattle.refusals.proofs.Order.{Gives, hit, miss, right}
use Rattle.plan.specs.Refusals.{rdp_faults}
use Rattle.spare.proofs.Column.{spare_length}
use Rattle.plan.proofs.Refused.{rdp_accepted}
use Rattle.spare.specs.Refusals.{spare_faults}
use Rattle.spare.proofs.Refused.{spare_after}
use Rattle.spare.proofs.check_spare.Goals as goal

-- where the stripe has the right length the spare decides
whole : (s : Shape) (bytes spare n : ℕ) → refusal (rdp_faults s) ≡ 0 → bytes ≡ n → n ≡ stripe_length s → {r : ℕ} → Gives (other_length spare (rows s * s.cell) ∷ []) r
    → r ≡ refusal (spare_faults s bytes spare)
whole s bytes spare n shape e long g = (spare_after s bytes spare).own shape (miss (ap not (eq-eqb bytes _ (e ∙ long))) g)

pub returns-in_err-check_rdp : goal.returns-in_err-check_rdp
returns-in_err-check_rdp c = let a = c.args in let e = (spare_after a.shape a.bytes a.spare).earlier c.in_err-check_rdp.ensures (not_none _) in search rules

pub stripe_bytes-requires : goal.stripe_bytes-requires
stripe_bytes-requires c = (rdp_accepted c.args.shape (sym c.in_ok-check_rdp.ensures)).0

pub returns-then-bytes-stripe_bytes : goal.returns-then-bytes-stripe_bytes
returns-then-bytes-stripe_bytes c =
    let a = c.args in
    (spare_after a.shape a.bytes a.spare).own (sym c.in_ok-check_rdp.ensures) (hit (ap not (ne_eqb a.bytes _ (λ e. c.if-bytes-stripe_bytes.true (e ∙ sym c.stripe_bytes.ensures)))))

pub row_count-requires : goal.row_count-requires
row_count-requires c = (rdp_accepted c.args.shape (sym c.in_ok-check_rdp.ensures)).0

pub overflow_mul-row_count : goal.overflow_mul-row_count
overflow_mul-row_count c = omega (arith, spare_length c.args.shape _ (rdp_accepted c.args.shape (sym c.in_ok-check_rdp.ensures)).0 c.row_count.ensures)

pub returns-then-spare-row_count : goal.returns-then-spare-row_count
returns-then-spare-row_count c =
    let a = c.args in
    whole a.shape a.bytes a.spare _ (sym c.in_ok-check_rdp.ensures) c.if-bytes-stripe_bytes.false c.stripe_bytes.ensures
    (hit (ap not (ne_eqb a.spare _ (λ e. c.if-spare-row_count.true (e ∙ ap (λ (n : ℕ). n * a.shape.cell) (sym c.row_count.ensures))))))

pub returns : goal.returns
returns c =
    let a = c.args in
    whole a.shape a.bytes a.spare _ (sym c.in_ok-check_rdp.ensures) c.if-bytes-stripe_bytes.false c.stripe_bytes.ensures
    (miss (ap not (eq-eqb a.spare _ (c.if-spare-row_count.false ∙ ap (λ (n : ℕ). n * a.shape.cell) c.row_count.ensures))) right)
