-- `bad::column_agrees` meets its contract. One column is never undetermined, and the checks tell whether it explains the bytes.
use Prim.Native.Nat.{ℕ}
use native.Mathlib.Omega.{arith}
use lib.ListN.{length-replicate}
use Rattle.bad.proofs.Naming.{column_only, column_determined, column_says}
use Rattle.bad.proofs.column_agrees.Goals as goal

pub mark_columns-map-requires : goal.mark_columns-map-requires
mark_columns-map-requires c = (c.args.window.now.inside.formed, c.requires.0, omega (arith, c.requires.0))

pub decide-requires : goal.decide-requires
decide-requires c = (c.args.window.now.inside.formed, λ k l p. column_only c.args.window.now.shape c.args.column _ c.mark_columns-map.ensures c.requires.1 k l p)

pub returns-in_default : goal.returns-in_default
returns-in_default c =
    absurd (column_determined c.args.window.now.shape c.args.window.now.inside.formed c.args.column c.requires.0 c.args.window.now.stripe.now c.args.window.now.at c.args.window.now.n _
    c.mark_columns-map.ensures c.in_default.ensures)

pub survivors_agree-requires : goal.survivors_agree-requires
survivors_agree-requires c = (c.in-Some.ensures.1.tests, length-replicate {A = ℕ} 32768 0)

pub returns : goal.returns
returns c =
    column_says c.args.window.now.shape c.args.window.now.inside.formed c.args.column c.requires.0 c.args.window.now.stripe.now c.args.window.now.at c.args.window.now.n _
    c.mark_columns-map.ensures _ _ _ _ _ c.in-Some.ensures.1 _ c.survivors_agree.ensures.0
