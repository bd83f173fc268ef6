-- `spare::short::stand_in` meets its contract.
use mathlib.Core.Path.{refl}
use borrow.Author.Tests.{eq-eqb, ne_eqb}
use Rattle.spare.proofs.short.stand_in.Goals as goal

pub returns-then-place-own : goal.returns-then-place-own
returns-then-place-own c = let a = c.args in rw (eq-eqb a.place a.own c.if-place-own.true) refl

pub returns-else-place-own : goal.returns-else-place-own
returns-else-place-own c = let a = c.args in rw (ne_eqb a.place a.own c.if-place-own.false) refl
