-- A row of a stripe some of whose columns don't exist: from the list of all cells of the chosen equation to that of the others.
use mathlib.Core.Path.{◌≡◌, ◌∙◌, subst}
use mathlib.Core.List.{List}
use mathlib.Core.Bool.{true, false}
use Prim.Native.Nat.{ℕ, ◌-◌, ◌≤◌}
use native.Mathlib.Omega.{arith}
use lib.ListN.{get_or}
use Rattle.codes.specs.declared.Shape.{Shape}
use Rattle.codes.specs.Shape.{cell_number}
use Rattle.codes.specs.Geometry.{cell_there, place}
use Rattle.codes.specs.Lines.{takes_shared, Holding}
use Rattle.codes.proofs.Geometry.{cell_there_at}
use Rattle.codes.proofs.Shared.{none_takes}
use Rattle.plan.specs.Plan.{chosen}
use Rattle.spare.specs.Places.{RowRight, OthersPut, OthersListed}
use Rattle.spare.proofs.Choice.{chosen_held}
use Rattle.spare.proofs.LeftOut.{some_cell, others_left}

module _ (s : Shape) (k plan i : ℕ) (right : RowRight s k plan i) (q n : ℕ) (list : List ℕ) (is : q ≡ chosen s k plan i) (all : Holding s q n list) where
  -- the row's cell of the lost column exists
  there : cell_there s (cell_number s i k) ≡ true
  there = cell_there_at s right.of.formed i k right.row ∙ right.of.there

  -- RDP's equations share nothing
  alone : takes_shared s (chosen s k plan i) ≡ false
  alone = none_takes s (λ e. omega (arith, right.of.rdp)) (chosen s k plan i)

  of_chosen : Holding s (chosen s k plan i) n list
  of_chosen = subst (λ (x : ℕ). Holding s x n list) is all

  pub row_some : 1 ≤ n
  row_some = some_cell s (chosen s k plan i) (cell_number s i k) (chosen_held s k plan i right) there alone n list of_chosen

  pub row_listed : (own : ℕ) (places : List ℕ) → own ≡ place s (cell_number s i k) → OthersPut (n - 1) own (get_or list (n - 1) 0) list places
      → OthersListed s k plan i (n - 1) places
  row_listed own places e put = record {
    few = omega (arith, all.few);
    long = put.long;
    cells = others_left s (chosen s k plan i) (cell_number s i k) (chosen_held s k plan i right) there alone n list of_chosen own (n - 1) places e (let same : n - 1 ≡ n - 1 = omega arith in same) put;
  }
