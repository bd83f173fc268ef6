-- But for the code that came later, with no number of data columns given, and for RDP with all p-1 of them given, every call is as it was: what it may
-- answer, and which bytes it may leave, is what document 01's contract of it allowed, and nothing else.
use mathlib.Core.Path.{◌≡◌, refl, ap, ◌∙◌}
use mathlib.Core.Logic.Iff
use mathlib.Core.Logic.{◌↔◌, ◌≢◌}
use mathlib.Core.Bool.{true}
use Prim.Native.Nat.{ℕ, ◌-◌, ◌<◌}
use native.Mathlib.Omega.{arith}
use borrow.Author.Tests.{eq-eqb, ne_eqb, lt-leb}
use Rattle.std.specs.declared.option.Option.TheVariants.{None, Some}
use Rattle.codes.specs.declared.Shape.{Shape}
use Rattle.codes.specs.Shape.{last_code, listed, missing, without, wrong_data}
use Rattle.codes.proofs.Shapes.{each_prime}
use Rattle.before.proofs.Calls.{Call, encode, broken, small_write, rebuild_cells, rebuild_columns, bad_column, plan, run, show, show_reason, shown_at, Allowed, Allowed01}
use Rattle.before.proofs.Moved.{along, full, Whole}
use Rattle.before.proofs.Carried.{encodes_as, counts_as, writes_as, cells_rebuilt_as, columns_rebuilt_as, finds_as, plans_as, runs_as, shows_as, reason_as, shown_as}

-- the law: where no column is missing a call may do what it might before, and nothing else. Whatever the numbers are: a refused call is a call too
pub as_before : (s : Shape) → Whole s → (c : Call) → Allowed s c ↔ Allowed01 (full s) c
as_before s w (encode old answer new) = encodes_as s w old answer new
as_before s w (broken stripe answer) = counts_as s w stripe answer
as_before s w (small_write row column bytes old new answer) = writes_as s w row column bytes old new answer
as_before s w (rebuild_cells numbers old answer new) = cells_rebuilt_as s w numbers old answer new
as_before s w (rebuild_columns a b old answer new) = columns_rebuilt_as s w a b old answer new
as_before s w (bad_column stripe answer) = finds_as s w stripe answer
as_before s w (plan k answer) = plans_as s w k answer
as_before s w (run k by first budget stripe old new answer) = runs_as s w k by first budget stripe old new answer
as_before s w (show k done row column stripe spare answer) = shows_as s w k done row column stripe spare answer
as_before s w (show_reason k done row column stripe spare answer) = along (λ i. answer ≡ reason_as s w k done row column stripe spare i)
as_before s w (shown_at bytes spare k done row column answer) = shown_as s w k done row column bytes spare answer

-- no number given
absent : (s : Shape) → s.code ≢ last_code → s.width ≡ None → Whole s
unfolding missing
absent s known e = record { known = known; none = ap (without s.p) e; right = λ h. ap (wrong_data s.code s.p) e }

-- a listed prime is more than 1
more : (p : ℕ) → listed p ≡ true → 1 < p
more = each_prime (λ p. 1 < p) (omega arith) (omega arith) (omega arith) (omega arith) (omega arith) (omega arith) (omega arith) (omega arith) (omega arith) (omega arith)

-- for RDP a number m that leaves no data column out
all_given : (s : Shape) (m : ℕ) → s.code ≡ 1 → s.width ≡ Some m → s.p - 1 - m ≡ 0 → (listed s.p ≡ true → (0 < m) × (m < s.p)) → Whole s
unfolding missing
all_given s m rdp e left some =
    record {
      known = λ z. omega arith;
      none = ap (without s.p) e ∙ left;
      right = λ h.
          let inside : (0 < m) × (m < s.p) = some h in
          ap (wrong_data s.code s.p) e ∙ rw (eq-eqb s.code 1 rdp, ne_eqb m 0 (λ z. omega arith), lt-leb s.p m (omega arith)) refl;
    }

-- ---- document 02, request 01

-- with m absent every answer and every byte is as it was, whatever the code is but the one that came later
pub absent_as_before : (s : Shape) → s.code ≢ last_code → s.width ≡ None → (c : Call) → Allowed s c ↔ Allowed01 (full s) c
absent_as_before s known e = as_before s (absent s known e)

-- with m = p-1 for RDP too
pub all_as_before : (s : Shape) → s.code ≡ 1 → s.width ≡ Some (s.p - 1) → (c : Call) → Allowed s c ↔ Allowed01 (full s) c
all_as_before s rdp e = as_before s (all_given s (s.p - 1) rdp e (omega arith) (λ h. (omega (arith, more s.p h), omega (arith, more s.p h))))

-- so m = p-1 gives the same as m absent
pub all_as_absent : (s : Shape) → s.code ≡ 1 → s.width ≡ Some (s.p - 1) → (c : Call) → Allowed s c ↔ Allowed (full s) c
all_as_absent s rdp e c =
    Iff.trans (as_before s (all_given s (s.p - 1) rdp e (omega arith) (λ h. (omega (arith, more s.p h), omega (arith, more s.p h)))) c) (Iff.symm (absent_as_before (full s) (λ z. omega arith) refl c))
