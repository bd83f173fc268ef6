-- The other cells of an equation, a slot each: its parity cell stands in for the cell that is left out.
use mathlib.Core.Path.{◌≡◌, refl, sym, ap, ap₂, ◌∙◌, subst}
use mathlib.Core.Logic.{◌≢◌}
use mathlib.Core.List.{List}
use mathlib.Core.Bool.{true, cond}
use Prim.Native.Nat.{ℕ, ◌+◌, ◌<◌}
use native.Mathlib.Omega.{arith}
use lib.Dec.{eqb}
use lib.ListN.{length, get_or}
use borrow.Author.Tests.{eq-eqb, ne_eqb}
use Rattle.xor.specs.Xor.{◌⊕◌, xors}
use Rattle.xor.specs.Runs.{sum_at}
use Rattle.xor.proofs.Cases.{by_equal}
use Rattle.xor.proofs.Algebra.{⊕_zero, ⊕_comm, ⊕_assoc, ⊕_self, ⊕_cancel, equal_⊕}
use Rattle.xor.proofs.Sums.{xors_same, xors_one, xors_plus, set_apart}
use Rattle.codes.specs.declared.Shape.{Shape}
use Rattle.codes.specs.Shape.{cells, equations, WellFormed}
use Rattle.codes.specs.Geometry.{cell_there, place}
use Rattle.codes.specs.Encoded.{parity_cell, byte_at, sum_over, total}
use Rattle.codes.specs.Holders.{holds}
use Rattle.codes.proofs.Ordered.{ordered}
use Rattle.codes.proofs.Geometry.{place_inside, byte_there, parity_there}
use Rattle.codes.proofs.Solutions.{total_holds}
use Rattle.spare.specs.Run.{others}
use Rattle.spare.specs.Places.{OthersAt}

-- a cell of the stripe that equation q holds
pub record Held (s : Shape) (q own : ℕ) : Type 0 where
  pub formed : WellFormed s
  pub equation : q < equations s
  pub cell : own < cells s
  pub held : holds s q own ≡ true

-- two sums that differ in one number
changed : (n : ℕ) (f g : ℕ → ℕ) (d : ℕ) → d < n → ((k : ℕ) → k < n → k ≢ d → f k ≡ g k) → xors n f ≡ xors n g ⊕ (f d ⊕ g d)
changed n f g d l h =
    sym (⊕_cancel (xors n g) (xors n f))
    ∙ ap (λ (x : ℕ). xors n g ⊕ x)
    (⊕_comm (xors n g) (xors n f) ∙ sym (xors_plus n f g) ∙ xors_one n (λ k. f k ⊕ g k) d l (λ k lk e. equal_⊕ (f k) (g k) (h k lk e)))

module _ (s : Shape) (q own : ℕ) (h : Held s q own) where
  -- the sum of an equation's other cells is that of all its cells, with the own cell taken out
  pub others_are : (f : ℕ → ℕ) → others s q own f ≡ total s q f ⊕ f own
  unfolding others
  others_are f =
      sym (⊕_zero (others s q own f)) ∙ ap (λ (x : ℕ). others s q own f ⊕ x) (sym (⊕_self (f own))) ∙ sym (⊕_assoc (others s q own f) (f own) (f own))
      ∙ ap (λ (x : ℕ). x ⊕ f own) (sym (set_apart (cells s) (holds s q) f own h.cell h.held) ∙ total_holds s h.formed q h.equation f)

  -- the parity cell is left out
  others_of_parity : own ≡ parity_cell s q → (f : ℕ → ℕ) → sum_over s q f ≡ others s q own f
  unfolding total
  others_of_parity e f =
      sym (⊕_cancel (f own) (sum_over s q f)) ∙ ⊕_comm (f own) (f own ⊕ sum_over s q f)
      ∙ ap (λ (c : ℕ). (f c ⊕ sum_over s q f) ⊕ f own) e ∙ sym (others_are f)

  -- a cell that is summed is left out: the parity cell comes in for it
  others_of_summed : (f : ℕ → ℕ) → sum_over s q f ⊕ (f (parity_cell s q) ⊕ f own) ≡ others s q own f
  unfolding total
  others_of_summed f =
      sym (⊕_assoc (sum_over s q f) (f (parity_cell s q)) (f own)) ∙ ap (λ (x : ℕ). x ⊕ f own) (⊕_comm (sum_over s q f) (f (parity_cell s q))) ∙ sym (others_are f)

  -- the cells that the equation sums are in n slots, g j in slot j; the places, `at` further on, are where cells start
  module _ (n : ℕ) (g : ℕ → ℕ) (below : (j : ℕ) → j < n → g j < cells s) (exist : (j : ℕ) → j < n → cell_there s (g j) ≡ true) (sum : (f : ℕ → ℕ) → sum_over s q f ≡ xors n (λ j. f (g j)))
      (at : ℕ) (places : List ℕ) (long : length places ≡ n) where
    in_slots : (cell : ℕ → ℕ) → ((j : ℕ) → j < n → cell j < cells s) → ((j : ℕ) → j < n → cell_there s (cell j) ≡ true) → ((f : ℕ → ℕ) → xors n (λ j. f (cell j)) ≡ others s q own f)
        → ((j : ℕ) → j < n → get_or places j 0 + at ≡ place s (cell j)) → OthersAt s q own at places
    unfolding sum_at
    in_slots cell inside there is at_place = record {
      inside = record { ends = λ j lj. let l : j < n = omega arith in omega (arith, at_place j l, place_inside s h.formed (cell j) (inside j l) (there j l)) };
      sum = λ stripe t.
          ap (λ (m : ℕ). xors m (λ j. get_or stripe (get_or places j 0 + (at + t)) 0)) long
          ∙ xors_same n (λ j. get_or stripe (get_or places j 0 + (at + t)) 0) (λ j. byte_at s stripe (cell j) t)
          (λ j lj. ap (λ (x : ℕ). get_or stripe x 0) (let exact : get_or places j 0 + (at + t) ≡ place s (cell j) + t = omega (arith, at_place j lj) in exact)
          ∙ sym (byte_there s h.formed stripe (cell j) t (there j lj)))
          ∙ is (λ c. byte_at s stripe c t);
    }

    -- the own cell is the equation's parity cell
    pub others_kept : own ≡ parity_cell s q → ((j : ℕ) → j < n → get_or places j 0 + at ≡ place s (g j)) → OthersAt s q own at places
    others_kept e = in_slots g below exist (λ f. sym (sum f) ∙ others_of_parity e f)

    -- the own cell is that of slot m: the parity cell is there
    pub others_swapped : (m : ℕ) → m < n → g m ≡ own → get_or places m 0 + at ≡ place s (parity_cell s q)
        → ((j : ℕ) → j < n → j ≢ m → get_or places j 0 + at ≡ place s (g j)) → OthersAt s q own at places
    others_swapped m lm e here off =
        in_slots cell
        (λ j lj. by_equal j m (λ z. subst (λ (c : ℕ). c < cells s) (sym (cell_here j z)) ((ordered s h.formed).inside q h.equation))
        (λ z. subst (λ (c : ℕ). c < cells s) (sym (cell_off j z)) (below j lj)))
        (λ j lj. by_equal j m (λ z. ap (cell_there s) (cell_here j z) ∙ parity_there s h.formed q h.equation) (λ z. ap (cell_there s) (cell_off j z) ∙ exist j lj))
        (λ f. changed n (λ j. f (cell j)) (λ j. f (g j)) m lm (λ j lj z. ap f (cell_off j z))
        ∙ ap₂ ◌⊕◌ (sym (sum f)) (ap₂ (λ (x y : ℕ). f x ⊕ f y) (cell_here m refl) e) ∙ others_of_summed f)
        (λ j lj. by_equal j m (λ z. ap (λ (i : ℕ). get_or places i 0 + at) z ∙ here ∙ ap (place s) (sym (cell_here j z)))
        (λ z. off j lj z ∙ ap (place s) (sym (cell_off j z))))
      where
        cell : ℕ → ℕ
        cell j = cond (eqb j m) (parity_cell s q) (g j)

        cell_here : (j : ℕ) → j ≡ m → cell j ≡ parity_cell s q
        cell_here j z = rw (eq-eqb j m z) refl

        cell_off : (j : ℕ) → j ≢ m → cell j ≡ g j
        cell_off j z = rw (ne_eqb j m z) refl
