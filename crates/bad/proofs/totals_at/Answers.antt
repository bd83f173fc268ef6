-- `bad::totals_at` meets its contract. The loop's invariant: the first q entries are the totals of the first q equations.
use native.Mathlib.Omega.{arith}
use Rattle.codes.specs.Encoded.{total}
use Rattle.codes.proofs.Shapes.{small_equations}
use Rattle.equation.specs.InWindow.{bytes_in}
use Rattle.bad.proofs.Rests.{filled_more}
use borrow.Author.Rules.{rules}
use Rattle.bad.proofs.totals_at.Goals as goal

pub loop-q-init : goal.loop-q-init
loop-q-init c = (search rules, λ k l. absurd (omega arith))

pub bounds-totals-q : goal.bounds-totals-q
bounds-totals-q c = omega (arith, c.equation_count-n.ensures, small_equations c.args.window.now.shape c.args.window.now.inside.formed)

pub loop-q-preserved : goal.loop-q-preserved
loop-q-preserved c =
    let turn = c.loop-q in (
      search rules,
      filled_more (λ k. total c.args.window.now.shape k (bytes_in c.args.window.now c.args.i)) turn.totals turn.q _
          (omega (arith, c.equation_count-n.ensures, small_equations c.args.window.now.shape c.args.window.now.inside.formed)) turn.invariant.1 c.total_byte.ensures,
    )

pub returns : goal.returns
returns c = record { of = λ q l. c.loop-q.invariant.1 q (omega (arith, c.equation_count-n.ensures)) }
