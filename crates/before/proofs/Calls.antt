-- The calls that take a shape, each with what else it is told, the bytes that it finds, its answer and the bytes that it leaves; and what allows it.
use mathlib.Core.Path.{◌≡◌}
use mathlib.Core.List.{List}
use Prim.Native.Nat.{ℕ}
use Rattle.codes.specs.declared.Shape.{Shape}
use Rattle.std.specs.Prelude.{Result}
use Rattle.refusals.specs.declared.reason.Refusal.{Refusal}
use Rattle.stripe.specs.Encode.{Encodes}
use Rattle.stripe.specs.Broken.{Counts}
use Rattle.stripe.specs.Write.{Writes}
use Rattle.rebuild.specs.Rebuild.{RebuildsCells, RebuildsColumns}
use Rattle.bad.specs.declared.BadColumn.{BadColumn}
use Rattle.bad.specs.Bad.{Finds}
use Rattle.plan.specs.declared.ReadPlan.{ReadPlan}
use Rattle.plan.specs.Plans.{Plans}
use Rattle.spare.specs.Run.{RunsByPlan}
use Rattle.show.specs.declared.ShownAt.{ShownAt}
use Rattle.show.specs.Show.{Lent, reason, Shows, Shown}
use Rattle.before.proofs.Document01 as was

-- a call that was made, and what came of it
pub data Call : Type 0 where
  encode : (old : List ℕ) (answer : ℕ) (new : List ℕ) → Call
  broken : (stripe : List ℕ) (answer : Result ℕ Refusal) → Call
  small_write : (row column : ℕ) (bytes old new : List ℕ) (answer : Result ℕ Refusal) → Call
  rebuild_cells : (numbers old : List ℕ) (answer : ℕ) (new : List ℕ) → Call
  rebuild_columns : (a b : ℕ) (old : List ℕ) (answer : ℕ) (new : List ℕ) → Call
  bad_column : (stripe : List ℕ) (answer : Result BadColumn Refusal) → Call
  plan : (k : ℕ) (answer : Result ReadPlan Refusal) → Call
  run : (k by first budget : ℕ) (stripe old new : List ℕ) (answer : Result ℕ Refusal) → Call
  show : (k done row column : ℕ) (stripe spare answer : Lent) → Call
  show_reason : (k done row column : ℕ) (stripe spare : Lent) (answer : ℕ) → Call
  shown_at : (bytes spare k done row column : ℕ) (answer : Result ShownAt Refusal) → Call

-- what the contracts of today allow
abbrev pub Allowed : Shape → Call → Type 0
Allowed s (encode old answer new) = Encodes s old answer new
Allowed s (broken stripe answer) = Counts s stripe answer
Allowed s (small_write row column bytes old new answer) = Writes s row column bytes old new answer
Allowed s (rebuild_cells numbers old answer new) = RebuildsCells s numbers old answer new
Allowed s (rebuild_columns a b old answer new) = RebuildsColumns s a b old answer new
Allowed s (bad_column stripe answer) = Finds s stripe answer
Allowed s (plan k answer) = Plans s k answer
Allowed s (run k by first budget stripe old new answer) = RunsByPlan s k by first budget stripe old new answer
Allowed s (show k done row column stripe spare answer) = Shows s k done row column stripe spare answer
Allowed s (show_reason k done row column stripe spare answer) = answer ≡ reason s k done row column stripe spare
Allowed s (shown_at bytes spare k done row column answer) = Shown s bytes spare k done row column answer

-- what document 01's allowed
abbrev pub Allowed01 : Shape → Call → Type 0
Allowed01 s (encode old answer new) = was.Encodes s old answer new
Allowed01 s (broken stripe answer) = was.Counts s stripe answer
Allowed01 s (small_write row column bytes old new answer) = was.Writes s row column bytes old new answer
Allowed01 s (rebuild_cells numbers old answer new) = was.RebuildsCells s numbers old answer new
Allowed01 s (rebuild_columns a b old answer new) = was.RebuildsColumns s a b old answer new
Allowed01 s (bad_column stripe answer) = was.Finds s stripe answer
Allowed01 s (plan k answer) = was.Plans s k answer
Allowed01 s (run k by first budget stripe old new answer) = was.RunsByPlan s k by first budget stripe old new answer
Allowed01 s (show k done row column stripe spare answer) = was.Shows s k done row column stripe spare answer
Allowed01 s (show_reason k done row column stripe spare answer) = answer ≡ was.reason s k done row column stripe spare
Allowed01 s (shown_at bytes spare k done row column answer) = was.Shown s bytes spare k done row column answer
