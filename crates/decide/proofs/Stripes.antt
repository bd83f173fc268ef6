-- A stripe made of a solution in each byte is an encoded stripe, and two solutions that agree on the survivors make lost cells undetermined.
use mathlib.Core.Path.{◌≡◌, refl, sym, ap, ◌∙◌, subst}
use mathlib.Core.Logic.{◌≢◌}
use mathlib.Core.List.{List}
use mathlib.Core.Bool.{Bool, false, cond}
use Prim.Native.Nat.{ℕ, ◌/◌, ◌%◌, ◌<◌}
use native.Mathlib.Nat.{mod-lt, div-lt_iff_lt-mul}
use native.Mathlib.Omega.{arith}
use lib.ListN.{get_or, get_or-eq_default}
use Rattle.xor.specs.Xor.{◌⊕◌}
use Rattle.xor.proofs.Cases.{by_less, by_test}
use Rattle.xor.proofs.Algebra.{⊕_bits, ⊕_equal, equal_⊕}
use Rattle.xor.proofs.Sums.{xors_zero, nothing}
use Rattle.codes.specs.declared.Shape.{Shape}
use Rattle.codes.specs.Shape.{cells, stripe_length, WellFormed}
use Rattle.codes.specs.Geometry.{cell_there, cell_of}
use Rattle.codes.specs.Encoded.{parity_cell, sums_cell, sum_over, Solves, byte_at}
use Rattle.codes.proofs.Ordered.{ordered}
use Rattle.codes.proofs.Geometry.{cell_of_inside}
use Rattle.codes.proofs.Parity.{sum_same}
use Rattle.codes.proofs.Solutions.{plus, solves_plus, solves_same}
use Rattle.codes.proofs.Built.{built, Blank, built_long, built_at, built_byte}
use Rattle.decide.specs.Survivors.{EncodedStripe, Undetermined}

module _ (s : Shape) (w : WellFormed s) where
  inside : (F : ℕ → ℕ → ℕ) → ((t : ℕ) → t < s.cell → (c : ℕ) → c < cells s → F t c < 256) → (i : ℕ) → i < stripe_length s → get_or (built s F) i 0 < 256
  unfolding stripe_length
  inside F bytes i l = subst (λ (x : ℕ). x < 256) (sym (built_byte s F i l)) (bytes (i % s.cell) (mod-lt i w.cell_low) (cell_of s (i / s.cell)) (cell_of_inside s w (i / s.cell) ((div-lt_iff_lt-mul w.cell_low).1 l)))

  -- a stripe of solutions is encoded
  pub built_encoded : (F : ℕ → ℕ → ℕ) → Blank s F → ((t : ℕ) → t < s.cell → (c : ℕ) → c < cells s → F t c < 256) → ((t : ℕ) → t < s.cell → Solves s (F t)) → EncodedStripe s (built s F)
  built_encoded F blank bytes solves = record {
    long = built_long s F;
    bytes = λ i. by_less i (stripe_length s) (inside F bytes i)
        (λ l. subst (λ (x : ℕ). x < 256) (sym (get_or-eq_default (built s F) 0 (omega (arith, built_long s F)))) (omega arith));
    encoded = record {
      holds = λ q l t lt.
          built_at s w F blank (parity_cell s q) ((ordered s w).inside q l) t lt ∙ solves t lt q l
          ∙ sym (sum_same s q (λ c. byte_at s (built s F) c t) (F t) (λ c lc p. built_at s w F blank c lc t lt));
    };
  }

  -- zeros are a solution
  zeros_solve : Solves s (λ c. 0)
  unfolding sum_over
  zeros_solve q l = sym (xors_zero (cells s) (λ c. cond (sums_cell s q c) 0 0) (λ c lc. nothing (sums_cell s q c) 0 refl))

  -- two solutions that are the same in the cells that don't exist, and in the survivors, differ by one that is zero there:
  -- every byte of a cell is its value in that one, or is zero
  pub two_solutions : (lost : ℕ → Bool) (f g : ℕ → ℕ) → ((c : ℕ) → c < cells s → cell_there s c ≡ false → f c ≡ g c) → ((c : ℕ) → c < cells s → f c < 256) → ((c : ℕ) → c < cells s → g c < 256) → Solves s f → Solves s g
      → ((c : ℕ) → c < cells s → lost c ≡ false → f c ≡ g c) → (c : ℕ) → c < cells s → f c ≢ g c → Undetermined s lost
  two_solutions lost f g off fBytes gBytes fSolves gSolves agree c lc differ = record {
    one = built s (λ t. cut d);
    other = built s (λ t c. 0);
    one_is = built_encoded (λ t. cut d) (λ t lt. cut_blank) (λ t lt e l. subst (λ (x : ℕ). x < 256) (sym (cut_in e l)) (⊕_bits 8 (f e) (g e) (fBytes e l) (gBytes e l)))
        (λ t lt. solves_same s w d (cut d) (λ e l. sym (cut_in e l)) (solves_plus s f g fSolves gSolves));
    other_is = built_encoded (λ t c. 0) (λ t lt c l none. refl) (λ t lt c l. omega arith) (λ t lt. zeros_solve);
    agree = record { same = λ e l n t lt. at_cut e l t lt ∙ cut_in e l ∙ equal_⊕ (f e) (g e) (agree e l n) ∙ sym (built_at s w (λ t c. 0) (λ t lt c l none. refl) e l t lt) };
    differ = λ e. differ (⊕_equal (f c) (g c) (sym (cut_in c lc) ∙ sym (at_cut c lc 0 w.cell_low) ∙ ap (λ (x : List ℕ). byte_at s x c 0) e ∙ built_at s w (λ t c. 0) (λ t lt c l none. refl) c lc 0 w.cell_low));
  }
    where
      d : ℕ → ℕ
      d = plus f g

      -- a value for each cell, and zero where a cell doesn't exist
      cut : (ℕ → ℕ) → ℕ → ℕ
      cut v e = cond (cell_there s e) (v e) 0

      cut_blank : (e : ℕ) → e < cells s → cell_there s e ≡ false → cut d e ≡ 0
      cut_blank e l none = rw none refl

      -- which changes nothing, as the solutions are the same there
      cut_in : (e : ℕ) → e < cells s → cut d e ≡ f e ⊕ g e
      cut_in e l =
          by_test (cell_there s e) (λ h. rw h refl)
          (λ h. rw h (sym (equal_⊕ (f e) (g e) (off e l h))))

      at_cut : (e : ℕ) → e < cells s → (t : ℕ) → t < s.cell → byte_at s (built s (λ t. cut d)) e t ≡ cut d e
      at_cut e l t lt = built_at s w (λ t. cut d) (λ t lt. cut_blank) e l t lt
