-- `spare::check_run` meets its contract. Each return gives the first refusal in order, by the tests before it.
use mathlib.Core.Path.{◌≡◌, sym, ap, ◌∙◌, subst}
use mathlib.Core.List.{[], ◌∷◌}
use mathlib.Core.Bool.{Bool, not}
use Prim.Native.Nat.{ℕ, ◌<◌}
use native.Mathlib.Omega.{arith}
use borrow.Author.Tests.{le-leb, lt-leb}
use Rattle.std.proofs.Common.{rules}
use Rattle.codes.specs.declared.Shape.{Shape}
use Rattle.codes.specs.Shape.{disks}
use Rattle.codes.specs.Geometry.{column_of}
use Rattle.refusals.specs.Refusals.{fault, outside, refusal}
use Rattle.refusals.proofs.Answer.{not_none}
use Rattle.refusals.proofs.Order.{Gives, hit, miss, right, beyond, inside}
use Rattle.plan.specs.Plan.{is_accepted}
use Rattle.plan.specs.Right.{RdpColumn}
use Rattle.plan.proofs.Column.{lying}
use Rattle.spare.specs.Refusals.{spare_faults, run_faults}
use Rattle.spare.proofs.Refused.{spare_accepted, run_after}
use Rattle.spare.proofs.check_run.Goals as goal

module _ (s : Shape) (bytes spare k plan first : ℕ) (none : refusal (spare_faults s bytes spare) ≡ 0) where
  -- a place below the number of disks is that of a column for which there are plans
  column : (n j : ℕ) → n ≡ disks s → k < n → j ≡ column_of s k → RdpColumn s j
  column n j e l lies = let formed = spare_accepted s bytes spare none in subst (RdpColumn s) (sym lies) (lying _ _ (formed.0, formed.1, omega arith))

  -- past the test of the column the first row and the plan decide
  past_column : (n : ℕ) → n ≡ disks s → k < n → {r : ℕ} → Gives (outside first s.p ∷ fault 9 (not (is_accepted s (column_of s k) plan)) ∷ []) r
      → r ≡ refusal (run_faults s bytes spare k plan first)
  past_column n e l g = (run_after s bytes spare k plan first).own none (miss (inside e l) g)

  -- past the test of the first row the plan decides
  past_row : (n : ℕ) → n ≡ disks s → k < n → first < s.p → {r : ℕ} → Gives (fault 9 (not (is_accepted s (column_of s k) plan)) ∷ []) r
      → r ≡ refusal (run_faults s bytes spare k plan first)
  past_row n e l low g = past_column n e l (miss (lt-leb _ _ low) g)

  -- whether the plan is accepted for the column at place k
  answer : (j : ℕ) (b : Bool) → j ≡ column_of s k → b ≡ is_accepted s j plan → is_accepted s (column_of s k) plan ≡ b
  answer j b lies e = sym (e ∙ ap (λ (x : ℕ). is_accepted s x plan) lies)

pub returns-in_err-check_spare : goal.returns-in_err-check_spare
returns-in_err-check_spare c = let a = c.args in let e = (run_after a.shape a.bytes a.spare a.k a.plan a.first).earlier c.in_err-check_spare.ensures (not_none _) in search rules

pub disk_count-requires : goal.disk_count-requires
disk_count-requires c = let a = c.args in (spare_accepted a.shape a.bytes a.spare (sym c.in_ok-check_spare.ensures)).0

pub returns-then-disk_count-k : goal.returns-then-disk_count-k
returns-then-disk_count-k c =
    let a = c.args in
    (run_after a.shape a.bytes a.spare a.k a.plan a.first).own (sym c.in_ok-check_spare.ensures) (hit (beyond c.disk_count.ensures c.if-disk_count-k.true))

pub returns-then-shape-first : goal.returns-then-shape-first
returns-then-shape-first c =
    let a = c.args in
    past_column a.shape a.bytes a.spare a.k a.plan a.first (sym c.in_ok-check_spare.ensures) _ c.disk_count.ensures c.if-disk_count-k.false
    (hit (le-leb a.shape.p a.first c.if-shape-first.true))

pub column_of-requires : goal.column_of-requires
column_of-requires c =
    let a = c.args in
    ((spare_accepted a.shape a.bytes a.spare (sym c.in_ok-check_spare.ensures)).0, omega (arith, c.disk_count.ensures, c.if-disk_count-k.false))

pub is_accepted-requires : goal.is_accepted-requires
is_accepted-requires c =
    let a = c.args in
    column a.shape a.bytes a.spare a.k a.plan a.first (sym c.in_ok-check_spare.ensures) _ _ c.disk_count.ensures c.if-disk_count-k.false c.column_of.ensures

pub returns-then-not-is_accepted : goal.returns-then-not-is_accepted
returns-then-not-is_accepted c =
    let a = c.args in
    let none = sym c.in_ok-check_spare.ensures in
    past_row a.shape a.bytes a.spare a.k a.plan a.first none _ c.disk_count.ensures c.if-disk_count-k.false c.if-shape-first.false
    (hit (ap not (answer a.shape a.bytes a.spare a.k a.plan a.first none _ _ c.column_of.ensures c.is_accepted.ensures ∙ c.if-not-is_accepted.true)))

pub returns : goal.returns
returns c =
    let a = c.args in
    let none = sym c.in_ok-check_spare.ensures in
    past_row a.shape a.bytes a.spare a.k a.plan a.first none _ c.disk_count.ensures c.if-disk_count-k.false c.if-shape-first.false
    (miss (ap not (answer a.shape a.bytes a.spare a.k a.plan a.first none _ _ c.column_of.ensures c.is_accepted.ensures ∙ c.if-not-is_accepted.false)) right)
