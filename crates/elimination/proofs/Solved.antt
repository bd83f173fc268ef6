-- What a state says of the values in the solved cells: they are residues of the survivors.
use mathlib.Core.Path.{◌≡◌, refl, sym, ap, ap₂, ◌∙◌, subst}
use mathlib.Core.Logic.{◌≢◌}
use mathlib.Core.Bool.{Bool, true, false, cond, not, ◌&&◌}
use Prim.Native.Nat.{ℕ, ◌^◌, ◌<◌}
use borrow.Author.Tests.{eq-eqb, ne_eqb, not-true}
use Rattle.xor.specs.Xor.{◌⊕◌}
use Rattle.xor.proofs.Cases.{by_test, clash, and_left, and_right, and_both}
use Rattle.xor.proofs.Algebra.{⊕_zero, ⊕_comm, ⊕_self, ⊕_cancel, ⊕_equal}
use Rattle.elimination.specs.Solution.{over, Solution, Agree, syndrome}
use Rattle.elimination.specs.Method.{State}
use Rattle.elimination.specs.Verdict.{residue, summed, rebuilt, Consistent}
use Rattle.elimination.proofs.Over.{over_values, over_zero, over_one, over_split, over_kept, over_bits}
use Rattle.elimination.proofs.Invariant.{Invariant}

module _ (E n : ℕ) (equation : ℕ → ℕ → Bool) (lost : ℕ → Bool) (s : State) where
  -- residues depend on the survivors alone
  residue_same : (f g : ℕ → ℕ) → Agree n lost f g → (q : ℕ) → residue E n equation lost s f q ≡ residue E n equation lost s g q
  unfolding syndrome
  residue_same f g a q =
      over_values E (s.from q) (syndrome n equation lost f) (syndrome n equation lost g)
      (λ r l p. over_values n (λ c. equation r c && not (lost c)) f g (λ c lc t. a.same c lc (not-true (lost c) (and_right (equation r c) (not (lost c)) t))))

  rebuilt_lost : (f : ℕ → ℕ) (c : ℕ) → lost c ≡ true → rebuilt E n equation lost s f c ≡ residue E n equation lost s f (s.chosen c)
  rebuilt_lost f c e = rw e refl

  pub rebuilt_agrees : (f : ℕ → ℕ) → Agree n lost f (rebuilt E n equation lost s f)
  rebuilt_agrees f = record { same = λ c l e. rw e refl }

  -- survivors of b bits have residues of b bits
  pub rebuilt_bits : (b : ℕ) (f : ℕ → ℕ) → ((c : ℕ) → c < n → lost c ≡ false → f c < 2 ^ b) → (c : ℕ) → c < n → rebuilt E n equation lost s f c < 2 ^ b
  unfolding syndrome
  rebuilt_bits b f h c l =
      by_test (lost c)
      (λ e. rw e (over_bits b E (s.from (s.chosen c)) (syndrome n equation lost f)
      (λ r lr p. over_bits b n (λ d. equation r d && not (lost d)) f (λ d ld t. h d ld (not-true (lost d) (and_right (equation r d) (not (lost d)) t))))))
      (λ e. rw e (h c l e))

-- ---- the lost cells are the solved ones
module _ (E n : ℕ) (equation : ℕ → ℕ → Bool) (lost : ℕ → Bool) (s : State) (i : Invariant E n equation s)
    (same : (d : ℕ) → d < n → s.solved d ≡ lost d) where
  solved : (d : ℕ) → d < n → lost d ≡ true → s.solved d ≡ true
  solved d l e = same d l ∙ e

  -- every equation of the state sums to zero over a solution
  row_zero : (f : ℕ → ℕ) → Solution E n equation f → (q : ℕ) → q < E → over n (s.row q) f ≡ 0
  row_zero f h q l = i.sums f q l ∙ over_zero E (s.from q) (λ r. over n (equation r) f) (λ r lr p. h.holds r lr)

  -- the residue of q is the XOR of the survivors that q holds
  pub residue_is : (f : ℕ → ℕ) (q : ℕ) → q < E → over n (λ d. s.row q d && not (lost d)) f ≡ residue E n equation lost s f q
  unfolding syndrome
  residue_is f q l =
      let survivors : ℕ → ℕ = λ d. cond (lost d) 0 (f d) in
      over_kept n (s.row q) lost f ∙ i.sums survivors q l
      ∙ over_values E (s.from q) (λ r. over n (equation r) survivors) (syndrome n equation lost f) (λ r lr p. sym (over_kept n (equation r) lost f))

  -- the chosen equation of d holds no other lost cell
  alone : (d c : ℕ) → d < n → lost d ≡ true → c < n → lost c ≡ true → c ≢ d → s.row (s.chosen d) c ≡ false
  alone d c l e lc ec other =
      i.column c (solved c lc ec) (s.chosen d) (i.below d (solved d l e))
      ∙ ne_eqb (s.chosen d) (s.chosen c) (λ q. other (i.own c d (solved c lc ec) (solved d l e) (sym q)))

  -- an unused equation holds none
  no_lost : (q c : ℕ) → q < E → s.used q ≡ false → c < n → lost c ≡ true → s.row q c ≡ false
  no_lost q c l u lc ec =
      i.column c (solved c lc ec) q l ∙ ne_eqb q (s.chosen c) (λ e. clash (ap s.used e ∙ i.taken c (solved c lc ec)) u)

  chosen_sum : (f : ℕ → ℕ) (d : ℕ) → d < n → lost d ≡ true → over n (s.row (s.chosen d)) f ≡ residue E n equation lost s f (s.chosen d) ⊕ f d
  chosen_sum f d l e =
      let q = s.chosen d in
      let below = i.below d (solved d l e) in
      let holds = i.column d (solved d l e) q below ∙ eq-eqb q q refl in
      over_split n (s.row q) lost f
      ∙ ap₂ ◌⊕◌ (residue_is f q below)
      (over_one n (λ c. s.row q c && lost c) f d l (and_both holds e)
      (λ c lc other p. clash (and_left (s.row q c) (lost c) p) (alone d c l e lc (and_right (s.row q c) (lost c) p) other)))

  unused_sum : (f : ℕ → ℕ) (q : ℕ) → q < E → s.used q ≡ false → over n (s.row q) f ≡ residue E n equation lost s f q
  unused_sum f q l u =
      over_split n (s.row q) lost f
      ∙ ap₂ ◌⊕◌ (residue_is f q l)
      (over_zero n (λ c. s.row q c && lost c) f
      (λ c lc p. clash (and_left (s.row q c) (lost c) p) (no_lost q c l u lc (and_right (s.row q c) (lost c) p))))
      ∙ ⊕_zero (residue E n equation lost s f q)

  -- ---- what follows

  pub value_by_sums_lem : (f : ℕ → ℕ) (d : ℕ) → d < n → lost d ≡ true → residue E n equation lost s f (s.chosen d) ≡ f d ⊕ summed E n equation s f (s.chosen d)
  value_by_sums_lem f d l e =
      let r = residue E n equation lost s f (s.chosen d) in
      sym (ap (λ (x : ℕ). f d ⊕ x) (sym (i.sums f (s.chosen d) (i.below d (solved d l e))) ∙ chosen_sum f d l e ∙ ⊕_comm r (f d)) ∙ ⊕_cancel (f d) r)

  pub zero_by_sums_lem : (f : ℕ → ℕ) (q : ℕ) → q < E → s.used q ≡ false → residue E n equation lost s f q ≡ summed E n equation s f q
  zero_by_sums_lem f q l u = sym (unused_sum f q l u) ∙ i.sums f q l

  pub lost_value : (f : ℕ → ℕ) → Solution E n equation f → (c : ℕ) → c < n → lost c ≡ true → f c ≡ residue E n equation lost s f (s.chosen c)
  lost_value f h c l e =
      sym (⊕_equal (residue E n equation lost s f (s.chosen c)) (f c)
      (sym (chosen_sum f c l e) ∙ row_zero f h (s.chosen c) (i.below c (solved c l e))))

  pub one_solution : (f g : ℕ → ℕ) → Solution E n equation f → Solution E n equation g → Agree n lost f g → (c : ℕ) → c < n → f c ≡ g c
  one_solution f g hf hg a c l =
      by_test (lost c)
      (λ e. lost_value f hf c l e ∙ residue_same E n equation lost s f g a (s.chosen c) ∙ sym (lost_value g hg c l e))
      (λ e. a.same c l e)

  pub solution_passes : (f g : ℕ → ℕ) → Solution E n equation g → Agree n lost f g → Consistent E n equation lost s f
  solution_passes f g h a = record {
    zero = λ q l u. residue_same E n equation lost s f g a q ∙ sym (unused_sum g q l u) ∙ row_zero g h q l;
  }

  pub rebuilt_solves : (f : ℕ → ℕ) → Consistent E n equation lost s f → Solution E n equation (rebuilt E n equation lost s f)
  rebuilt_solves f p = i.back g (record { holds = λ q l. by_test (s.used q) (λ u. used_zero q l u) (λ u. unused_sum g q l u ∙ back q ∙ p.zero q l u) })
    where
      g : ℕ → ℕ
      g = rebuilt E n equation lost s f

      back : (q : ℕ) → residue E n equation lost s g q ≡ residue E n equation lost s f q
      back q = sym (residue_same E n equation lost s f g (rebuilt_agrees E n equation lost s f) q)

      chosen_zero : (d : ℕ) → d < n → lost d ≡ true → over n (s.row (s.chosen d)) g ≡ 0
      chosen_zero d l e =
          chosen_sum g d l e ∙ ap₂ ◌⊕◌ (back (s.chosen d)) (rebuilt_lost E n equation lost s f d e) ∙ ⊕_self (residue E n equation lost s f (s.chosen d))

      used_zero : (q : ℕ) → q < E → s.used q ≡ true → over n (s.row q) g ≡ 0
      used_zero q l u =
          let found = i.owner q l u in
          let inside = i.inside found.0 found.1 in
          subst (λ (r : ℕ). over n (s.row r) g ≡ 0) found.2 (chosen_zero found.0 inside (sym (same found.0 inside) ∙ found.1))
