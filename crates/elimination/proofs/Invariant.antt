-- What the method's state keeps true, and that it stays so when an equation is chosen. Nothing here speaks of lost cells.
use mathlib.Core.Path.{◌≡◌, refl, sym, ap, ap₂, ◌∙◌, subst}
use mathlib.Core.Logic.{◌≢◌}
use mathlib.Core.Bool.{Bool, true, false, cond, ◌&&◌}
use Prim.Native.Nat.{ℕ, ◌<◌}
use lib.Dec.{eqb}
use borrow.Author.Tests.{eq-eqb, ne_eqb, eqb-true}
use Rattle.xor.specs.Xor.{◌⊕◌}
use Rattle.xor.proofs.Cases.{by_equal, by_test, clash}
use Rattle.xor.proofs.Algebra.{⊕_zero}
use Rattle.xor.proofs.Sums.{nothing}
use Rattle.elimination.specs.Solution.{over, Solution}
use Rattle.elimination.specs.Method.{State, start, add_to, joins, choose}
use Rattle.bits.proofs.Tests.{add_nothing, add_sweeps}
use Rattle.elimination.proofs.Over.{over_one, over_xor, over_part}

pub record Invariant (E n : ℕ) (equation : ℕ → ℕ → Bool) (s : State) : Type 0 where
  -- each equation is the sum of the original ones that `from` names
  pub sums : (f : ℕ → ℕ) (q : ℕ) → q < E → over n (s.row q) f ≡ over E (s.from q) (λ r. over n (equation r) f)
  -- no solution was let in
  pub back : (f : ℕ → ℕ) → Solution E n s.row f → Solution E n equation f
  -- a solved cell, and the equation chosen for it
  pub inside : (d : ℕ) → s.solved d ≡ true → d < n
  pub below : (d : ℕ) → s.solved d ≡ true → s.chosen d < E
  pub taken : (d : ℕ) → s.solved d ≡ true → s.used (s.chosen d) ≡ true
  -- no other equation holds that cell
  pub column : (d : ℕ) → s.solved d ≡ true → (r : ℕ) → r < E → s.row r d ≡ eqb r (s.chosen d)
  -- each cell has an equation of its own, and each used equation its cell
  pub own : (d e : ℕ) → s.solved d ≡ true → s.solved e ≡ true → s.chosen d ≡ s.chosen e → d ≡ e
  pub owner : (q : ℕ) → q < E → s.used q ≡ true → (d : ℕ) × (s.solved d ≡ true) × (s.chosen d ≡ q)

pub start_keeps : (E n : ℕ) (equation : ℕ → ℕ → Bool) → Invariant E n equation (start equation)
start_keeps E n equation = record {
  sums = λ f q l. sym (over_one E (eqb q) (λ r. over n (equation r) f) q l (eq-eqb q q refl) (λ r lr other p. absurd (other (sym (eqb-true q r p)))));
  back = λ f h. h;
  inside = λ d h. clash h refl;
  below = λ d h. clash h refl;
  taken = λ d h. clash h refl;
  column = λ d h. clash h refl;
  own = λ d e h. clash h refl;
  owner = λ q l h. clash h refl;
}

-- ---- a set added to others of its family

over_add_to : (n : ℕ) (to : ℕ → Bool) (q : ℕ) (family : ℕ → ℕ → Bool) (r : ℕ) (f : ℕ → ℕ)
    → over n (add_to to q family r) f ≡ over n (family r) f ⊕ cond (to r) (over n (family q) f) 0
over_add_to n to q family r f =
    over_xor n (family r) (λ k. to r && family q k) f ∙ ap (λ (x : ℕ). over n (family r) f ⊕ x) (over_part n (to r) (family q) f)

-- ---- the state after equation q is chosen for cell c
module _ (E : ℕ) (s : State) (c q : ℕ) where
  pub now_solved : (choose E s c q).solved c ≡ true
  now_solved = rw (eq-eqb c c refl) refl

  pub still_solved : (d : ℕ) → s.solved d ≡ true → (choose E s c q).solved d ≡ true
  still_solved d h = by_test (eqb d c) (λ p. rw p refl) (λ p. rw p h)

  pub solved_before : (d : ℕ) → d ≢ c → (choose E s c q).solved d ≡ true → s.solved d ≡ true
  solved_before d other h = rw (ne_eqb d c other) at h

  pub chosen_here : (d : ℕ) → d ≡ c → (choose E s c q).chosen d ≡ q
  chosen_here d e = rw (eq-eqb d c e) refl

  pub chosen_before : (d : ℕ) → d ≢ c → (choose E s c q).chosen d ≡ s.chosen d
  chosen_before d other = rw (ne_eqb d c other) refl

  now_used : (r : ℕ) → r ≡ q → (choose E s c q).used r ≡ true
  now_used r e = rw (eq-eqb r q e) refl

  still_used : (r : ℕ) → s.used r ≡ true → (choose E s c q).used r ≡ true
  still_used r h = by_test (eqb r q) (λ p. rw p refl) (λ p. rw p h)

  used_before : (r : ℕ) → r ≢ q → (choose E s c q).used r ≡ s.used r
  used_before r other = rw (ne_eqb r q other) refl

  -- q is not added to itself
  not_itself : joins s c q q ≡ false
  not_itself = rw (eq-eqb q q refl) refl

  -- q keeps c, and every other equation that held it loses it
  column_here : s.row q c ≡ true → (r : ℕ) → (choose E s c q).row r c ≡ eqb r q
  column_here holds r = add_sweeps (s.row r c) (eqb r q) (s.row q c) holds (λ p. ap (λ (k : ℕ). s.row k c) (eqb-true r q p) ∙ holds)

  -- a cell that q does not hold stays in the equations that it was in
  column_stays : (d : ℕ) → s.row q d ≡ false → (r : ℕ) → (choose E s c q).row r d ≡ s.row r d
  column_stays d h r = add_nothing (s.row r d) (joins s c q r) (s.row q d) h

-- ---- the invariant is kept
module _ (E n : ℕ) (equation : ℕ → ℕ → Bool) (s : State) (i : Invariant E n equation s)
    (c q : ℕ) (inside : c < n) (below : q < E) (unused : s.used q ≡ false) (holds : s.row q c ≡ true) where
  abbrev after : State
  after = choose E s c q

  -- q was not chosen before, so it holds no solved cell; and c was not solved
  fresh : (d : ℕ) → s.solved d ≡ true → q ≢ s.chosen d
  fresh d h e = clash (ap s.used e ∙ i.taken d h) unused

  clear : (d : ℕ) → s.solved d ≡ true → s.row q d ≡ false
  clear d h = i.column d h q below ∙ ne_eqb q (s.chosen d) (fresh d h)

  new : (d : ℕ) → s.solved d ≡ true → d ≢ c
  new d h e = clash (ap (s.row q) e ∙ holds) (clear d h)

  -- what holds of c, and of each cell that was solved before, holds of each that is solved now
  each_solved : (P : ℕ → Type 0) → P c → ((d : ℕ) → d ≢ c → s.solved d ≡ true → P d) → (d : ℕ) → after.solved d ≡ true → P d
  each_solved P here before d h = by_equal d c (λ e. subst P (sym e) here) (λ other. before d other (solved_before E s c q d other h))

  sums_after : (f : ℕ → ℕ) (r : ℕ) → r < E → over n (after.row r) f ≡ over E (after.from r) (λ p. over n (equation p) f)
  sums_after f r l =
      over_add_to n (joins s c q) q s.row r f
      ∙ ap₂ (λ (x y : ℕ). x ⊕ cond (joins s c q r) y 0) (i.sums f r l) (i.sums f q below)
      ∙ sym (over_add_to E (joins s c q) q s.from r (λ p. over n (equation p) f))

  -- q sums to what it did, so where all sums are zero the others did too
  back_after : (f : ℕ → ℕ) → Solution E n after.row f → Solution E n s.row f
  back_after f h = record {
    holds = λ r l.
        sym (⊕_zero (over n (s.row r) f))
        ∙ ap (λ (x : ℕ). over n (s.row r) f ⊕ x) (sym (nothing (joins s c q r) (over n (s.row q) f) itself))
        ∙ sym (over_add_to n (joins s c q) q s.row r f)
        ∙ h.holds r l;
  }
    where
      itself : over n (s.row q) f ≡ 0
      itself =
          sym (⊕_zero (over n (s.row q) f))
          ∙ ap (λ (b : Bool). over n (s.row q) f ⊕ cond b (over n (s.row q) f) 0) (sym (not_itself E s c q))
          ∙ sym (over_add_to n (joins s c q) q s.row q f)
          ∙ h.holds q below

  -- the equation of each solved cell, and its column: those of c are new, the others stay
  chosen_after : (d : ℕ) → after.solved d ≡ true → (after.chosen d < E) × (after.used (after.chosen d) ≡ true)
  chosen_after = each_solved (λ d. (after.chosen d < E) × (after.used (after.chosen d) ≡ true))
      (rw (chosen_here E s c q c refl) (below, now_used E s c q q refl))
      (λ d other h. rw (chosen_before E s c q d other) (i.below d h, still_used E s c q (s.chosen d) (i.taken d h)))

  column_after : (d : ℕ) → after.solved d ≡ true → (r : ℕ) → r < E → after.row r d ≡ eqb r (after.chosen d)
  column_after = each_solved (λ d. (r : ℕ) → r < E → after.row r d ≡ eqb r (after.chosen d))
      (λ r l. column_here E s c q holds r ∙ ap (eqb r) (sym (chosen_here E s c q c refl)))
      (λ d other h r l. column_stays E s c q d (clear d h) r ∙ i.column d h r l ∙ ap (eqb r) (sym (chosen_before E s c q d other)))

  -- no cell that was solved before has q
  not_q : (d : ℕ) → d ≢ c → s.solved d ≡ true → q ≢ after.chosen d
  not_q d other h e = fresh d h (e ∙ chosen_before E s c q d other)

  own_after : (d : ℕ) → after.solved d ≡ true → (e : ℕ) → after.solved e ≡ true → after.chosen d ≡ after.chosen e → d ≡ e
  own_after = each_solved (λ d. (e : ℕ) → after.solved e ≡ true → after.chosen d ≡ after.chosen e → d ≡ e)
      (each_solved (λ e. after.chosen c ≡ after.chosen e → c ≡ e) (λ same. refl)
      (λ e other h same. absurd (not_q e other h (sym (chosen_here E s c q c refl) ∙ same))))
      (λ d other h. each_solved (λ e. after.chosen d ≡ after.chosen e → d ≡ e)
      (λ same. absurd (not_q d other h (sym (chosen_here E s c q c refl) ∙ sym same)))
      (λ e other' h' same. i.own d e h h' (sym (chosen_before E s c q d other) ∙ same ∙ chosen_before E s c q e other')))

  owner_after : (r : ℕ) → r < E → after.used r ≡ true → (d : ℕ) × (after.solved d ≡ true) × (after.chosen d ≡ r)
  owner_after r l u =
      by_equal r q (λ e. (c, now_solved E s c q, chosen_here E s c q c refl ∙ sym e))
      (λ other. let found = i.owner r l (sym (used_before E s c q r other) ∙ u) in still r found.0 found.1 found.2)
    where
      still : (r d : ℕ) → s.solved d ≡ true → s.chosen d ≡ r → (d : ℕ) × (after.solved d ≡ true) × (after.chosen d ≡ r)
      still r d h e = (d, still_solved E s c q d h, chosen_before E s c q d (new d h) ∙ e)

  pub choice_keeps : Invariant E n equation after
  choice_keeps = record {
    sums = sums_after;
    back = λ f h. i.back f (back_after f h);
    inside = each_solved (λ d. d < n) inside (λ d other h. i.inside d h);
    below = λ d h. (chosen_after d h).0;
    taken = λ d h. (chosen_after d h).1;
    column = column_after;
    own = λ d e hd he. own_after d hd e he;
    owner = owner_after;
  }
