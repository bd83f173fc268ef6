-- What equations share: an equation sums its own cells and, where it takes them in, the shared ones. Only EVENODD has such, and they are data.
use mathlib.Core.Path.{◌≡◌, refl, sym, ap, ◌∙◌}
use mathlib.Core.Logic.{◌≢◌}
use mathlib.Core.Bool.{Bool, true, false, cond, ◌&&◌, and-true, and-false}
use Prim.Native.Nat.{ℕ, ◌-◌, ◌/◌, ◌%◌, ◌<◌}
use native.Mathlib.Omega.{arith}
use lib.Dec.{eqb, leb, ltb}
use borrow.Author.Tests.{eqb-true, ne_eqb, leb-true, lt-leb, ltb-true}
use Rattle.xor.specs.Xor.{◌⊕◌}
use Rattle.xor.proofs.Cases.{by_test, and_left, and_right, or_left}
use Rattle.xor.proofs.Algebra.{zero_⊕, ⊕_zero, ⊕_assoc}
use Rattle.xor.proofs.Sums.{xors_same, xors_plus}
use Rattle.codes.specs.declared.Shape.{Shape}
use Rattle.codes.specs.declared.Line.{Line}
use Rattle.codes.specs.Shape.{rows, cells, WellFormed}
use Rattle.codes.specs.Equations.{evenodd_s}
use Rattle.codes.specs.Encoded.{parity_cell, sums_cell, sum_over, total, is_parity}
use Rattle.codes.specs.Lines.{shares, shares_cell, takes_shared, own_cell, sum_where, shared_sum, own_total, Covers}
use Rattle.codes.proofs.Lines.{evenodd_rows, evenodd_diagonal_is}
use Rattle.codes.proofs.Geometry.{number_at, row_at, column_at}
use Rattle.codes.proofs.Positions.{evenodd_parity}

-- ---- sums over the cells that pass a test

module _ (s : Shape) where
  pub where_same : (a b : ℕ → Bool) (f : ℕ → ℕ) → ((c : ℕ) → c < cells s → a c ≡ b c) → sum_where s a f ≡ sum_where s b f
  unfolding sum_where
  where_same a b f h = xors_same (cells s) (λ c. cond (a c) (f c) 0) (λ c. cond (b c) (f c) 0) (λ c l. ap (λ (x : Bool). cond x (f c) 0) (h c l))

  -- a line that covers the cells of a test covers those of one that says the same
  pub covers_same : (a b : ℕ → Bool) (l : Line) → ((c : ℕ) → c < cells s → a c ≡ b c) → Covers s a l → Covers s b l
  covers_same a b l same h = record {
    short = h.short;
    cell = h.cell;
    inside = h.inside;
    there = h.there;
    at = h.at;
    passes = λ k lk. sym (same (h.cell k) (h.inside k lk)) ∙ h.passes k lk;
    sum = λ f blank. sym (where_same a b f same) ∙ h.sum f blank;
  }

-- ---- who shares

module _ (s : Shape) where
  pub evenodd_shares : shares s ≡ true → s.code ≡ 4
  unfolding shares
  evenodd_shares h = eqb-true s.code 4 h

  pub none_shares : s.code ≢ 4 → shares s ≡ false
  unfolding shares
  none_shares n = ne_eqb s.code 4 n

  pub takes_shares : (q : ℕ) → takes_shared s q ≡ true → shares s ≡ true
  unfolding takes_shared
  takes_shares q h = and_left (shares s) (leb (rows s) q) h

  -- as the code works it out
  pub unshared_takes : (q : ℕ) → shares s ≡ false → false ≡ takes_shared s q
  unfolding takes_shared
  unshared_takes q h = rw h refl

  pub shared_takes : (q n : ℕ) → shares s ≡ true → n ≡ rows s → leb n q ≡ takes_shared s q
  unfolding takes_shared
  shared_takes q n h e = rw (h, e) refl

  pub none_takes : s.code ≢ 4 → (q : ℕ) → takes_shared s q ≡ false
  unfolding takes_shared
  none_takes n q = ap (λ (b : Bool). b && leb (rows s) q) (none_shares n)

  -- rows never do
  pub row_takes : (q : ℕ) → q < rows s → takes_shared s q ≡ false
  unfolding takes_shared
  row_takes q l = rw (lt-leb (rows s) q l) (and-false (shares s))

  -- an equation that takes in nothing sums its cells by itself
  pub own_plain : (q : ℕ) → takes_shared s q ≡ false → (c : ℕ) → sums_cell s q c ≡ own_cell s q c
  unfolding own_cell
  own_plain q h c = rw h (sym (and-true (sums_cell s q c)))

  pub own_all : (q : ℕ) → takes_shared s q ≡ false → (f : ℕ → ℕ) → sum_where s (own_cell s q) f ≡ sum_over s q f
  unfolding sum_over sum_where
  own_all q h f = where_same s (own_cell s q) (sums_cell s q) f (λ c l. sym (own_plain q h c))

  pub own_total_lem : (q : ℕ) → takes_shared s q ≡ false → (f : ℕ → ℕ) → own_total s q f ≡ total s q f
  unfolding total
  own_total_lem q h f = ap (λ (x : ℕ). f (parity_cell s q) ⊕ x) (own_all q h f)

  pub plain_walks : (q : ℕ) (l : Line) → takes_shared s q ≡ false → Covers s (sums_cell s q) l → Covers s (own_cell s q) l
  plain_walks q l h = covers_same s (sums_cell s q) (own_cell s q) l (λ c lc. own_plain q h c)

module _ (s : Shape) (w : WellFormed s) where
  -- one that takes them in sums them
  shared_summed : (q c : ℕ) → takes_shared s q ≡ true → shares_cell s c ≡ true → sums_cell s q c ≡ true
  unfolding takes_shared shares_cell sums_cell
  shared_summed q c takes here =
      let is = evenodd_shares s (takes_shares s q takes) in
      let far = leb-true (rows s) q (and_right (shares s) (leb (rows s) q) takes) in
      ap (λ e. e.sums (c % rows s) (c / rows s)) (evenodd_diagonal_is s w is q (omega (arith, evenodd_rows s w is)))
      ∙ or_left _ (and_right (shares s) (evenodd_s s.p (c % rows s) (c / rows s)) here)

  -- what an equation sums: its own cells, and what it takes in
  pub own_shared : (q : ℕ) → takes_shared s q ≡ true → (f : ℕ → ℕ) → sum_where s (own_cell s q) f ⊕ shared_sum s f ≡ sum_over s q f
  unfolding sum_over sum_where own_cell
  own_shared q takes f =
      sym (xors_plus (cells s) (λ c. cond (own_cell s q c) (f c) 0) (λ c. cond (shares_cell s c) (f c) 0))
      ∙ xors_same (cells s) (λ c. cond (own_cell s q c) (f c) 0 ⊕ cond (shares_cell s c) (f c) 0) (λ c. cond (sums_cell s q c) (f c) 0)
      (λ c l. rw takes (by_test (shares_cell s c)
      (λ h. rw (h, shared_summed q c takes h) (zero_⊕ (f c)))
      (λ h. rw h (both (sums_cell s q c) (f c)))))
    where
      both : (b : Bool) (x : ℕ) → cond (b && true) x 0 ⊕ 0 ≡ cond b x 0
      both true x = ⊕_zero x
      both false x = ⊕_zero 0

  pub shared_total : (q : ℕ) → takes_shared s q ≡ true → (f : ℕ → ℕ) → own_total s q f ⊕ shared_sum s f ≡ total s q f
  unfolding total
  shared_total q takes f = ⊕_assoc (f (parity_cell s q)) (sum_where s (own_cell s q) f) (shared_sum s f) ∙ ap (λ (x : ℕ). f (parity_cell s q) ⊕ x) (own_shared q takes f)

  -- the shared cells are data
  pub shared_data : (c : ℕ) → c < cells s → shares_cell s c ≡ true → is_parity s c ≡ false
  unfolding shares_cell
  shared_data c l here =
      let is = evenodd_shares s (and_left (shares s) (evenodd_s s.p (c % rows s) (c / rows s)) here) in
      let right = and_right (ltb 0 (c / rows s)) (ltb (c / rows s) s.p && eqb (c % rows s) (s.p - 1 - c / rows s)) (and_right (shares s) (evenodd_s s.p (c % rows s) (c / rows s)) here) in
      ap (is_parity s) (sym (number_at s w c)) ∙ sym (evenodd_parity s w is (c % rows s) (c / rows s) (row_at s w c) (column_at s w c l))
      ∙ lt-leb s.p (c / rows s) (ltb-true (c / rows s) s.p (and_left (ltb (c / rows s) s.p) (eqb (c % rows s) (s.p - 1 - c / rows s)) right))

  -- values that agree on data have the same sum of them
  pub shared_same : (f g : ℕ → ℕ) → ((c : ℕ) → c < cells s → is_parity s c ≡ false → f c ≡ g c) → shared_sum s f ≡ shared_sum s g
  unfolding sum_where
  shared_same f g same =
      xors_same (cells s) (λ c. cond (shares_cell s c) (f c) 0) (λ c. cond (shares_cell s c) (g c) 0)
      (λ c l. by_test (shares_cell s c) (λ h. rw h (same c l (shared_data c l h))) (λ h. rw h refl))
