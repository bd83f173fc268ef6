-- `bad::totals_at` meets its contract. The loop's invariant: the first q entries are the totals of the first q equations.
use mathlib.Core.Path.{◌≡◌}
use Prim.Native.Nat.{ℕ, ◌<◌}
use lib.ListN.{length, get_or}
use Rattle.codes.specs.Encoded.{total}
use Rattle.equation.specs.InWindow.{bytes_in}
use Rattle.bad.proofs.totals_at.Given as goal

abbrev pub invariant-loop-q : goal.invariant-loop-q
invariant-loop-q l = (length l.totals ≡ 64) × ((k : ℕ) → k < l.q → get_or l.totals k 0 ≡ total l.window.shape k (bytes_in l.window l.i))
