-- `bad::name_column` meets its contract. The candidate is the only column that can explain the byte.
use mathlib.Core.Path.{◌≡◌, sym, subst}
use mathlib.Core.Bool.{true}
use mathlib.Core.List.{List}
use mathlib.Core.Logic.{◌≢◌}
use Prim.Native.Nat.{ℕ, ◌+◌, ◌<◌}
use Rattle.std.specs.Prelude.{Option}
use Rattle.codes.specs.Shape.{columns, equations}
use Rattle.codes.specs.Geometry.{is_there}
use Rattle.codes.specs.Encoded.{total}
use Rattle.codes.proofs.Geometry.{column_there, is_there_lem}
use Rattle.equation.specs.declared.Window.{Window}
use Rattle.equation.specs.Window.{bytes_at}
use Rattle.bad.specs.Candidate.{TotalsOf, Candidate}
use Rattle.bad.proofs.Naming.{Sought, named_column, none_named, not_this}
use Rattle.bad.proofs.name_column.Goals as goal

-- what is known of the candidate that was sought at byte i
sought : (w : Window) (q i : ℕ) → q < equations w.shape → i < w.n → total w.shape q (bytes_at w.shape w.stripe.now (w.at + i)) ≢ 0 → (totals : List ℕ)
    → TotalsOf w.shape (bytes_at w.shape w.stripe.now (w.at + i)) totals → {given : Option ℕ} → Candidate w.shape totals given → Sought w.shape w.inside.formed w.stripe.now w.at w.n given
sought w q i there inside fails totals of candidate = record { q = q; i = i; there = there; inside = inside; fails = fails; totals = totals; of = of; candidate = candidate }

pub failing_byte-i-requires : goal.failing_byte-i-requires
failing_byte-i-requires c = c.requires

pub totals_at-totals-requires : goal.totals_at-totals-requires
totals_at-totals-requires c = c.failing_byte-i.ensures.0

pub candidate-requires : goal.candidate-requires
candidate-requires c = c.args.window.now.inside.formed

pub returns-in_default : goal.returns-in_default
returns-in_default c =
    let at = c.failing_byte-i.ensures in
    none_named _ _ _ _ _ _ (sought c.args.window.now c.args.q _ c.requires.0 at.0 at.1 _ c.totals_at-totals.ensures c.candidate.ensures) c.in_default.is

pub column_of-requires : goal.column_of-requires
column_of-requires c = (c.args.window.now.inside.formed, c.in-Some.ensures.0)

pub column_agrees-requires : goal.column_agrees-requires
column_agrees-requires c =
    let s = c.args.window.now.shape in
    let formed = c.args.window.now.inside.formed in (
      subst (λ (j : ℕ). j < columns s) (sym c.column_of.ensures) (column_there s formed _ c.in-Some.ensures.0),
      subst (λ (j : ℕ). is_there s j ≡ true) (sym c.column_of.ensures) (is_there_lem s formed _),
    )

pub returns-then-column_agrees : goal.returns-then-column_agrees
returns-then-column_agrees c =
    let at = c.failing_byte-i.ensures in
    named_column _ _ _ _ _ _ (sought c.args.window.now c.args.q _ c.requires.0 at.0 at.1 _ c.totals_at-totals.ensures c.candidate.ensures) _ c.in-Some.ensures.0 _ c.column_of.ensures
    (c.column_agrees.ensures.yes c.if-column_agrees.true)

pub returns : goal.returns
returns c =
    let at = c.failing_byte-i.ensures in
    not_this _ _ _ _ _ _ (sought c.args.window.now c.args.q _ c.requires.0 at.0 at.1 _ c.totals_at-totals.ensures c.candidate.ensures) _ c.in-Some.is _ c.column_of.ensures
    (c.column_agrees.ensures.no c.if-column_agrees.false)
