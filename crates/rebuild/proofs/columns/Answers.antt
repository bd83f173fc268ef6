-- `rebuild::columns` meets its contract. What is wrong with the numbers comes first; two columns are never undetermined.
use mathlib.Core.Path.{sym, ap₂, ◌∙◌, subst}
use Prim.Native.Nat.{ℕ, ◌<◌}
use Rattle.codes.specs.Shape.{columns}
use Rattle.codes.specs.Agree.{in_columns, callers_columns}
use Rattle.std.proofs.Common.{rules}
use Rattle.refusals.proofs.Answer.{not_none}
use Rattle.refusals.proofs.Refused.{columns_accepted}
use Rattle.codes.proofs.Geometry.{column_there}
use Rattle.decide.proofs.Marks.{columns_there}
use Rattle.rebuild.proofs.Calls.{rebuilds_refused, rebuilds_decided, rebuilds_columns}
use Rattle.rebuild.proofs.columns.Goals as goal

pub returns-in_err-check_columns : goal.returns-in_err-check_columns
returns-in_err-check_columns c = let a = c.args in let e = rebuilds_columns a.shape a.a a.b a.stripe.now _ _ (rebuilds_refused a.shape (callers_columns a.shape a.a a.b) _ a.stripe.now _ c.in_err-check_columns.ensures (not_none _)) in search rules

pub column_of-first-requires : goal.column_of-first-requires
column_of-first-requires c = let right = columns_accepted _ _ _ _ (sym c.in_ok-check_columns.ensures) in (right.0, right.2)

pub column_of-second-requires : goal.column_of-second-requires
column_of-second-requires c = let right = columns_accepted _ _ _ _ (sym c.in_ok-check_columns.ensures) in (right.0, right.3)

pub mark_columns-map-requires : goal.mark_columns-map-requires
mark_columns-map-requires c =
    let a = c.args in
    let right = columns_accepted _ _ _ _ (sym c.in_ok-check_columns.ensures) in (
      right.0,
      subst (λ (j : ℕ). j < columns a.shape) (sym c.column_of-first.ensures) (column_there a.shape right.0 a.a right.2),
      subst (λ (j : ℕ). j < columns a.shape) (sym c.column_of-second.ensures) (column_there a.shape right.0 a.b right.3),
    )

pub rebuild_lost-requires : goal.rebuild_lost-requires
rebuild_lost-requires c =
    let right = columns_accepted _ _ _ _ (sym c.in_ok-check_columns.ensures) in
    let s = c.args.shape in
    (right.0, right.1, λ d l p. columns_there s right.0 _ _ d l (sym (c.mark_columns-map.ensures d l ∙ ap₂ (λ (x y : ℕ). in_columns s x y d) c.column_of-first.ensures c.column_of-second.ensures) ∙ p))

pub returns : goal.returns
returns c =
    let s = c.args.shape in
    rebuilds_columns _ _ _ _ _ _ (rebuilds_decided _ _ _ _ _ _ _ (sym c.in_ok-check_columns.ensures)
    (λ k l. c.mark_columns-map.ensures k l ∙ ap₂ (λ (x y : ℕ). in_columns s x y k) c.column_of-first.ensures c.column_of-second.ensures) c.rebuild_lost.ensures)
