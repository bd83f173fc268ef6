-- The loops that mark lost cells in a map, one turn of each as a law on plain lists.
use mathlib.Core.Path.{◌≡◌, refl, sym, ap, ◌∙◌, subst}
use mathlib.Core.List.{List}
use mathlib.Core.Bool.{Bool, true, false, ◌||◌, or-false, or_assoc}
use Prim.Native.Nat.{ℕ, ◌+◌, ◌*◌, ◌/◌, ◌%◌, ◌<◌}
use native.Mathlib.Nat.{mod-lt}
use native.Mathlib.Numerals.{add-one}
use native.Mathlib.Omega.{arith}
use lib.Dec.{eqb}
use lib.ListN.{length, get_or, set, length-set, replicate, length-replicate}
use lib.Seq.{get_or-set_same, get_or-set_other}
use borrow.Author.Tests.{eq-eqb, ne_eqb, eqb-true}
use Rattle.xor.specs.Sets.{any}
use Rattle.xor.proofs.Cases.{by_equal, either, or_left, or_right, same_test}
use Rattle.xor.proofs.Sets.{any_at, any_some}
use Rattle.codes.specs.declared.Shape.{Shape}
use Rattle.codes.specs.Shape.{rows, columns, cells, cell_number, WellFormed}
use Rattle.codes.specs.Geometry.{is_there, cell_there, column_of, cell_of}
use Rattle.codes.proofs.Shapes.{most_cells, rows_low, cells_high}
use Rattle.codes.proofs.Geometry.{is_there_lem, cell_of_there}
use Rattle.codes.proofs.Positions.{column_is, cell_is, cell_inside, number_is}
use Rattle.decide.specs.Solver.{lost_in, OnlyThere}
use Rattle.codes.specs.Agree.{in_columns, callers_columns}
use Rattle.decide.specs.Survivors.{named}
use Rattle.decide.proofs.Lists.{new_at}

-- the cells marked are those of the first k turns; `marks j c` tells whether turn j marks cell c
pub record Marked (marks : ℕ → ℕ → Bool) (k : ℕ) (map : List Bool) : Type 0 where
  pub long : length map ≡ most_cells
  pub is : (c : ℕ) → lost_in map c ≡ any k (λ j. marks j c)

-- a turn marks the cell that the list names there
abbrev pub of_list : Shape → List ℕ → ℕ → ℕ → Bool
of_list s numbers j c = eqb (cell_of s (get_or numbers j 0)) c

-- a turn marks the cells of row j in columns a and b, where there are n rows
abbrev pub of_columns : ℕ → ℕ → ℕ → ℕ → ℕ → Bool
of_columns a b n j c = eqb (a * n + j) c || eqb (b * n + j) c

any_more : (k : ℕ) (test : ℕ → Bool) → any (k + 1) test ≡ (any k test || test k)
unfolding any
any_more k test = rw add-one refl

mark_at : (map : List Bool) (i c : ℕ) → i < length map → lost_in (set map i true) c ≡ (lost_in map c || eqb i c)
mark_at map i c l = by_equal c i
    (λ e. ap (λ (k : ℕ). get_or (set map i true) k false) e ∙ get_or-set_same map i true false l ∙ sym (or_right (lost_in map c) (eq-eqb i c (sym e))))
    (λ n. get_or-set_other map i c true false n ∙ sym (or-false (lost_in map c)) ∙ ap (◌||◌ (lost_in map c)) (sym (ne_eqb i c (λ e. n (sym e)))))

module _ (marks : ℕ → ℕ → Bool) where
  pub marked_none : Marked marks 0 (replicate most_cells false)
  unfolding any
  marked_none = record { long = length-replicate most_cells false; is = λ c. new_at most_cells c false }

  module _ (k : ℕ) (map : List Bool) (h : Marked marks k map) where
    more : (after : List Bool) → length after ≡ length map → ((c : ℕ) → lost_in after c ≡ (lost_in map c || marks k c)) → Marked marks (k + 1) after
    more after long is = record {
      long = long ∙ h.long;
      is = λ c. is c ∙ ap (λ (b : Bool). b || marks k c) (h.is c) ∙ sym (any_more k (λ j. marks j c));
    }

    -- a turn that marks one cell
    pub marked_one : (i : ℕ) → i < most_cells → ((c : ℕ) → eqb i c ≡ marks k c) → Marked marks (k + 1) (set map i true)
    marked_one i l e = more (set map i true) (length-set map i true) (λ c. mark_at map i c (omega (arith, h.long)) ∙ ap (◌||◌ (lost_in map c)) (e c))

    -- a turn that marks two
    pub marked_two : (i j : ℕ) → i < most_cells → j < most_cells → ((c : ℕ) → (eqb i c || eqb j c) ≡ marks k c) → Marked marks (k + 1) (set (set map i true) j true)
    marked_two i j li lj e = more (set (set map i true) j true) (length-set (set map i true) j true ∙ length-set map i true)
        (λ c. mark_at (set map i true) j c (omega (arith, length-set map i true, h.long)) ∙ ap (λ (b : Bool). b || eqb j c) (mark_at map i c (omega (arith, h.long)))
        ∙ or_assoc (lost_in map c) (eqb i c) (eqb j c) ∙ ap (◌||◌ (lost_in map c)) (e c))

-- ---- after the last turn

pub named_all : (s : Shape) (numbers : List ℕ) (k : ℕ) (map : List Bool) → k ≡ length numbers → Marked (of_list s numbers) k map → (c : ℕ) → lost_in map c ≡ named s numbers c
unfolding named
named_all s numbers k map e h c = h.is c ∙ ap (λ (m : ℕ). any m (λ j. of_list s numbers j c)) e

module _ (s : Shape) (w : WellFormed s) (n : ℕ) (rowsAre : n ≡ rows s) where
  -- a cell by its row and column has a place in the map
  pub in_map : (i j : ℕ) → i < n → j < columns s → j * n + i < most_cells
  in_map i j li lj = omega (arith, number_is s w i j n rowsAre, cell_inside s w i j (omega arith) lj, cells_high s w)

  pub columns_all : (a b k : ℕ) (map : List Bool) → k ≡ n → Marked (of_columns a b n) k map → (c : ℕ) → c < cells s → lost_in map c ≡ in_columns s a b c
  unfolding in_columns
  columns_all a b k map e h c _ = h.is c ∙ ap (λ (m : ℕ). any m (λ j. of_columns a b n j c)) e ∙ same_test there back
    where
      column : (q j : ℕ) → j < n → eqb (q * n + j) c ≡ true → c / rows s ≡ q
      column q j l p = ap (λ (x : ℕ). x / rows s) (sym (eqb-true (q * n + j) c p) ∙ number_is s w j q n rowsAre) ∙ column_is s w j q (omega arith)

      there : any n (λ j. of_columns a b n j c) ≡ true → (eqb (c / rows s) a || eqb (c / rows s) b) ≡ true
      there p =
          let found = any_some n (λ j. of_columns a b n j c) p in
          either (eqb (a * n + found.0) c) (eqb (b * n + found.0) c) found.2
          (λ q. or_left (eqb (c / rows s) b) (eq-eqb (c / rows s) a (column a found.0 found.1 q)))
          (λ q. or_right (eqb (c / rows s) a) (eq-eqb (c / rows s) b (column b found.0 found.1 q)))

      here : (q : ℕ) → eqb (c / rows s) q ≡ true → eqb (q * n + c % rows s) c ≡ true
      here q p = eq-eqb (q * n + c % rows s) c (number_is s w (c % rows s) q n rowsAre ∙ ap (cell_number s (c % rows s)) (sym (eqb-true (c / rows s) q p)) ∙ cell_is s w c)

      back : (eqb (c / rows s) a || eqb (c / rows s) b) ≡ true → any n (λ j. of_columns a b n j c) ≡ true
      back p = any_at n (λ j. of_columns a b n j c) (c % rows s) (subst (λ (m : ℕ). c % rows s < m) (sym rowsAre) (mod-lt c (omega (arith, rows_low s w))))
          (either (eqb (c / rows s) a) (eqb (c / rows s) b) p
          (λ q. or_left (eqb (b * n + c % rows s) c) (here a q))
          (λ q. or_right (eqb (a * n + c % rows s) c) (here b q)))

-- ---- what callers name exists

pub named_there : (s : Shape) → WellFormed s → (numbers : List ℕ) → OnlyThere s (named s numbers)
unfolding named
named_there s w numbers c lc p =
    let found = any_some (length numbers) (λ k. eqb (cell_of s (get_or numbers k 0)) c) p in
    ap (cell_there s) (sym (eqb-true (cell_of s (get_or numbers found.0 0)) c found.2)) ∙ cell_of_there s w (get_or numbers found.0 0)

pub columns_there : (s : Shape) → WellFormed s → (a b : ℕ) → OnlyThere s (callers_columns s a b)
unfolding in_columns cell_there
columns_there s w a b c lc p =
    either (eqb (c / rows s) (column_of s a)) (eqb (c / rows s) (column_of s b)) p
    (λ e. ap (is_there s) (eqb-true (c / rows s) (column_of s a) e) ∙ is_there_lem s w a)
    (λ e. ap (is_there s) (eqb-true (c / rows s) (column_of s b) e) ∙ is_there_lem s w b)
