-- The cells of an equation that exist, with one left out: the last of their places stands in for that of the cell.
use mathlib.Core.Path.{◌≡◌, refl, sym, ap, ap₂, ◌∙◌, subst}
use mathlib.Core.Logic.{◌≢◌, ◌⊎◌, inl, inr, ⊎_elim}
use mathlib.Core.List.{List}
use mathlib.Core.Bool.{Bool, true, false, cond}
use Prim.Native.Nat.{ℕ, zero, suc, ◌+◌, ◌-◌, ◌≤◌, ◌<◌}
use native.Mathlib.Nat.{add-zero, zero-add}
use native.Mathlib.Omega.{arith}
use lib.Dec.{eqb}
use lib.ListN.{length, get_or, set, length-set, take, replicate, get_or-replicate, length-replicate, get_or-eq_default}
use lib.Seq.{get_or-set_same, get_or-set_other, length-take-le, get_or-take}
use borrow.Author.Tests.{eq-eqb, ne_eqb}
use Rattle.xor.specs.Xor.{◌⊕◌, xors}
use Rattle.xor.specs.Runs.{sum_at}
use Rattle.xor.proofs.Cases.{by_test, by_equal, by_less}
use Rattle.xor.proofs.Algebra.{zero_⊕, ⊕_zero, ⊕_comm, ⊕_assoc, ⊕_self, ⊕_cancel, equal_⊕}
use Rattle.xor.proofs.Sums.{xors_more, xors_none, xors_same, xors_one, xors_plus}
use Rattle.codes.specs.declared.Shape.{Shape}
use Rattle.codes.specs.Shape.{cells, stripe_length}
use Rattle.codes.specs.Geometry.{cell_there, place}
use Rattle.codes.specs.Encoded.{byte_at, total}
use Rattle.codes.specs.Holders.{holds}
use Rattle.codes.specs.Lines.{takes_shared, Holding}
use Rattle.codes.proofs.Geometry.{place_apart, byte_there, byte_missing}
use Rattle.codes.proofs.Shared.{own_total_lem}
use Rattle.codes.proofs.Solutions.{total_holds}
use Rattle.spare.specs.Places.{stand_in, OthersPut, OthersAt}
use Rattle.spare.proofs.Slots.{Held, others_are}

-- ---- one place after the other

pub others_none : (own last : ℕ) (cells : List ℕ) → length cells ≡ 32 → OthersPut 0 own last cells cells
others_none own last cells long = record { long = long; at = λ j l. absurd (omega arith); after = λ j l. refl }

pub others_more : (n own last next : ℕ) (cells places : List ℕ) → n < 32 → OthersPut n own last cells places → next ≡ stand_in own last (get_or places n 0)
    → OthersPut (n + 1) own last cells (set places n next)
others_more n own last next cells places l h e = record {
  long = length-set places n next ∙ h.long;
  at = λ j lj. by_equal j n
      (λ z. ap (λ (x : ℕ). get_or (set places n next) x 0) z ∙ get_or-set_same places n next 0 (omega (arith, h.long)) ∙ e
      ∙ ap (stand_in own last) (h.after n (omega arith) ∙ ap (λ (x : ℕ). get_or cells x 0) (sym z)))
      (λ z. get_or-set_other places n j next 0 z ∙ h.at j (omega arith));
  after = λ j lj. get_or-set_other places n j next 0 (λ z. omega arith) ∙ h.after j (omega arith);
}

pub others_end : (j n own last : ℕ) (cells places : List ℕ) → j ≡ n → OthersPut j own last cells places → OthersPut n own last cells places
others_end j n own last cells places e h = subst (λ (m : ℕ). OthersPut m own last cells places) e h

-- ---- sums with a number in the stead of another

-- 1 for each number that is `own`
abbrev hit : ℕ → ℕ → ℕ
hit own x = cond (eqb x own) 1 0

-- v summed as often as a test is passed is nothing or v, as 1 is
often : (n v : ℕ) (test : ℕ → Bool)
    → ((xors n (λ k. cond (test k) 1 0) ≡ 0) × (xors n (λ k. cond (test k) v 0) ≡ 0)) ⊎ ((xors n (λ k. cond (test k) 1 0) ≡ 1) × (xors n (λ k. cond (test k) v 0) ≡ v))
unfolding xors
often zero v test = inl (refl, refl)
often (suc n) v test =
    by_test (test n)
    (λ p. ⊎_elim
    (λ h. inr (rw (h.0, p) (zero_⊕ 1), rw (h.1, p) (zero_⊕ v)))
    (λ h. inl (rw (h.0, p) (⊕_self 1), rw (h.1, p) (⊕_self v))) (often n v test))
    (λ p. ⊎_elim
    (λ h. inl (rw (h.0, p) (⊕_zero 0), rw (h.1, p) (⊕_zero 0)))
    (λ h. inr (rw (h.0, p) (⊕_zero 1), rw (h.1, p) (⊕_zero v))) (often n v test))

module _ (f at : ℕ → ℕ) (own m : ℕ) where
  last : ℕ
  last = at m

  change : ℕ
  change = f last ⊕ f own

  one : (x : ℕ) → f (stand_in own last x) ≡ f x ⊕ cond (eqb x own) change 0
  unfolding change
  one x =
      by_equal x own
      (λ e. rw (eq-eqb x own e) (sym (ap (λ (y : ℕ). f y ⊕ (f last ⊕ f own)) e ∙ ap (◌⊕◌ (f own)) (⊕_comm (f last) (f own)) ∙ ⊕_cancel (f own) (f last))))
      (λ n. rw (ne_eqb x own n) (sym (⊕_zero (f x))))

  -- the last of the numbers stands in for those that are `own`, which are odd in number: that leaves `own` out
  pub left_out : xors (m + 1) (λ k. hit own (at k)) ≡ 1 → xors m (λ k. f (stand_in own (at m) (at k))) ≡ xors (m + 1) (λ k. f (at k)) ⊕ f own
  unfolding last change
  left_out odd =
      xors_same m (λ k. f (stand_in own (at m) (at k))) (λ k. f (at k) ⊕ cond (eqb (at k) own) change 0) (λ k l. one (at k))
      ∙ xors_plus m (λ k. f (at k)) (λ k. cond (eqb (at k) own) change 0)
      ∙ ap (◌⊕◌ (xors m (λ k. f (at k)))) (⊎_elim even (λ h. h.1) (often m change (λ k. eqb (at k) own)))
      ∙ sym (⊕_assoc (xors m (λ k. f (at k))) (f (at m)) (f own)) ∙ ap (λ (x : ℕ). x ⊕ f own) (sym (xors_more m (λ k. f (at k))))
    where
      even : (xors m (λ k. hit own (at k)) ≡ 0) × (xors m (λ k. cond (eqb (at k) own) change 0) ≡ 0) → xors m (λ k. cond (eqb (at k) own) change 0) ≡ f (at m) ⊕ f own
      even h =
          by_equal (at m) own
          (λ e. h.1 ∙ sym (equal_⊕ (f (at m)) (f own) (ap f e)))
          (λ n. absurd (let none : ◌≡◌ {A = ℕ} 0 1 = sym (⊕_zero 0) ∙ sym (ap₂ ◌⊕◌ h.0 (ap (λ (b : Bool). cond b 1 0) (ne_eqb (at m) own n))) ∙ sym (xors_more m (λ k. hit own (at k))) ∙ odd in omega arith))

-- ---- a stripe with a 1 in one byte alone

unit : ℕ → List ℕ
unit at = set (replicate (at + 1) 0) at 1

unit_is : (at x : ℕ) → get_or (unit at) x 0 ≡ hit at x
unfolding unit
unit_is at x =
    by_equal x at
    (λ e. ap (λ (y : ℕ). get_or (set (replicate (at + 1) 0) at 1) y 0) e ∙ get_or-set_same (replicate (at + 1) 0) at 1 0 (omega (arith, length-replicate {A = ℕ} (at + 1) 0)) ∙ rw (eq-eqb x at e) refl)
    (λ n. get_or-set_other (replicate (at + 1) 0) at x 1 0 n ∙ zero_at ∙ rw (ne_eqb x at n) refl)
  where
    zero_at : ◌≡◌ {A = ℕ} (get_or (replicate (at + 1) 0) x 0) 0
    zero_at = by_less x (at + 1) (get_or-replicate {A = ℕ} (at + 1) x 0 0) (λ l. get_or-eq_default (replicate (at + 1) 0) 0 (omega (arith, length-replicate {A = ℕ} (at + 1) 0)))

-- ---- the cells of an equation

module _ (s : Shape) (q own : ℕ) (h : Held s q own) (there : cell_there s own ≡ true) where
  -- that of the own cell: the equation's sum is 1
  unit_total : total s q (λ c. byte_at s (unit (place s own)) c 0) ≡ 1
  unit_total =
      sym (total_holds s h.formed q h.equation value)
      ∙ xors_one (cells s) (λ c. cond (holds s q c) (value c) 0) own h.cell (λ c lc n. none (holds s q c) (other c n))
      ∙ ap (λ (b : Bool). cond b (value own) 0) h.held ∙ here
    where
      value : ℕ → ℕ
      value c = byte_at s (unit (place s own)) c 0

      none : (b : Bool) {v : ℕ} → v ≡ 0 → cond b v 0 ≡ 0
      none true e = e
      none false e = refl

      here : value own ≡ 1
      here =
          byte_there s h.formed (unit (place s own)) own 0 there ∙ unit_is (place s own) (place s own + 0)
          ∙ ap (λ (b : Bool). cond b 1 0) (eq-eqb (place s own + 0) (place s own) (add-zero (place s own)))

      other : (c : ℕ) → c ≢ own → value c ≡ 0
      other c n =
          by_test (cell_there s c)
          (λ t. byte_there s h.formed (unit (place s own)) c 0 t ∙ unit_is (place s own) (place s c + 0)
          ∙ ap (λ (b : Bool). cond b 1 0) (ne_eqb (place s c + 0) (place s own) (λ e. ⊎_elim (λ a. omega (arith, h.formed.cell_low)) (λ a. omega (arith, h.formed.cell_low)) (place_apart s h.formed c own t there n))))
          (byte_missing s h.formed (unit (place s own)) c 0)

  module _ (plain : takes_shared s q ≡ false) (n : ℕ) (list : List ℕ) (all : Holding s q n list) where
    -- so the own cell's place is in the list, an odd number of times
    odd : xors n (λ k. hit (place s own) (get_or list k 0)) ≡ 1
    odd =
        xors_same n (λ k. hit (place s own) (get_or list k 0)) (λ k. get_or (unit (place s own)) (get_or list k 0 + 0) 0)
        (λ k l. sym (unit_is (place s own) (get_or list k 0 + 0) ∙ ap (hit (place s own)) (add-zero (get_or list k 0))))
        ∙ all.is (unit (place s own)) 0 ∙ own_total_lem s q plain (λ c. byte_at s (unit (place s own)) c 0) ∙ unit_total

    pub some_cell : 1 ≤ n
    some_cell = by_equal n 0 (λ e. absurd (let none : ◌≡◌ {A = ℕ} 0 1 = sym (xors_none _) ∙ ap (λ (m : ℕ). xors m (λ k. hit (place s own) (get_or list k 0))) (sym e) ∙ odd in omega arith)) (λ e. omega arith)

    -- the first places, with the last one in the stead of the own cell's, are those of the other cells
    pub others_left : (at m : ℕ) (places : List ℕ) → at ≡ place s own → m ≡ n - 1 → OthersPut m at (get_or list m 0) list places → OthersAt s q own 0 (take m places)
    unfolding sum_at
    others_left at m places e em put = record {
      inside = record { ends = λ j lj. let l : j < m = omega (arith, long) in omega (arith, slot j l, ends j l) };
      sum = λ stripe t.
          ap (λ (x : ℕ). xors x (λ j. get_or stripe (get_or (take m places) j 0 + (0 + t)) 0)) long
          ∙ xors_same m (λ j. get_or stripe (get_or (take m places) j 0 + (0 + t)) 0) (λ j. get_or stripe (stand_in at (get_or list m 0) (get_or list j 0) + t) 0)
          (λ j l. ap₂ (λ (x y : ℕ). get_or stripe (x + y) 0) (slot j l) (zero-add t))
          ∙ left_out (λ x. get_or stripe (x + t) 0) (λ k. get_or list k 0) at m (ap₂ (λ (x y : ℕ). xors x (λ k. hit y (get_or list k 0))) whole e ∙ odd)
          ∙ ap₂ ◌⊕◌ (ap (λ (x : ℕ). xors x (λ k. get_or stripe (get_or list k 0 + t) 0)) whole ∙ all.is stripe t ∙ own_total_lem s q plain (λ c. byte_at s stripe c t))
          (ap (λ (x : ℕ). get_or stripe (x + t) 0) e ∙ sym (byte_there s h.formed stripe own t there))
          ∙ sym (others_are s q own h (λ c. byte_at s stripe c t));
    }
      where
        whole : m + 1 ≡ n
        whole = omega (arith, some_cell)

        long : length (take m places) ≡ m
        long = length-take-le m places (omega (arith, put.long, all.few, whole))

        slot : (j : ℕ) → j < m → get_or (take m places) j 0 ≡ stand_in at (get_or list m 0) (get_or list j 0)
        slot j l = get_or-take m places j 0 l ∙ put.at j l

        ends : (j : ℕ) → j < m → stand_in at (get_or list m 0) (get_or list j 0) + s.cell ≤ stripe_length s
        ends j l =
            by_equal (get_or list j 0) at
            (λ z. rw (eq-eqb (get_or list j 0) at z) (all.inside m (omega (arith, whole))))
            (λ z. rw (ne_eqb (get_or list j 0) at z) (all.inside j (omega (arith, whole))))
