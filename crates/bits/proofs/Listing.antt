-- The members of a set one by one, and the union of sets, one turn of each loop as a law on plain lists.
use mathlib.Core.Path.{◌≡◌, sym, ap, ap₂, ◌∙◌, subst}
use mathlib.Core.Logic.{◌≢◌, ◌⊎◌, inl, inr, ⊎_elim}
use mathlib.Core.List.{List, [], ◌∷◌}
use mathlib.Core.Bool.{Bool, true, false, cond, not, ◌&&◌}
use Prim.Native.Nat.{ℕ, zero, suc, ◌+◌, ◌-◌, ◌*◌, ◌≤◌, ◌<◌}
use native.Mathlib.Omega.{arith}
use lib.Bits.{bit_and, bit_or}
use lib.Dec.{eqb}
use lib.ListN.{length, get_or, set, take, length-set, length-take}
use lib.Seq.{get_or-set_same, get_or-set_other, get_or-take}
use borrow.Author.Tests.{eq-eqb, ne_eqb, not-true}
use Rattle.xor.specs.Xor.{◌⊕◌, xors}
use Rattle.xor.proofs.Cases.{by_test, by_equal, by_less, clash, either, and_left, and_right, and_both, or_left, or_right}
use Rattle.xor.proofs.Algebra.{zero_⊕, ⊕_zero, ⊕_comm, ⊕_assoc}
use Rattle.xor.proofs.Sums.{xors_none, xors_more, xors_same, xors_zero, set_apart}
use Rattle.std.specs.List.{fold}
use Rattle.bits.specs.Bit.{bit, IsLowest, Members, Union}
use Rattle.bits.proofs.Bits.{bit_zero, bit_or_lem}
use Rattle.bits.proofs.Masks.{clear_lowest}

-- ---- the members of a set: those in rest are still to come

pub record MembersTo (whole apart n rest : ℕ) (list : List ℕ) : Type 0 where
  pub few : n ≤ 64
  pub long : length list ≡ 64
  pub high : (r : ℕ) → bit r rest ≡ true → n ≤ r
  pub within : (r : ℕ) → bit r rest ≡ true → bit r whole ≡ true
  pub member : (k : ℕ) → k < n → (r : ℕ) × (r < 64) × (bit r whole ≡ true) × (get_or list k 0 ≡ r * apart)
  pub all : (r : ℕ) → r < 64 → bit r whole ≡ true → bit r rest ≡ false → (k : ℕ) × (k < n) × (get_or list k 0 ≡ r * apart)
  pub sum : (f : ℕ → ℕ) → xors n (λ k. f (get_or list k 0)) ⊕ xors 64 (λ r. cond (bit r rest) (f (r * apart)) 0) ≡ xors 64 (λ r. cond (bit r whole) (f (r * apart)) 0)

module _ (whole apart : ℕ) where
  pub members_none : (rest : ℕ) (list : List ℕ) → rest ≡ whole → length list ≡ 64 → MembersTo whole apart 0 rest list
  members_none rest list e long = subst (λ (m : ℕ). MembersTo whole apart 0 m list) (sym e) record {
    few = omega arith;
    long = long;
    high = λ r p. omega arith;
    within = λ r p. p;
    member = λ k l. absurd (omega arith);
    all = λ r l p q. clash p q;
    sum = λ f. ap (λ (x : ℕ). x ⊕ xors 64 (λ r. cond (bit r whole) (f (r * apart)) 0)) (xors_none (λ k. f (get_or list k 0))) ∙ zero_⊕ (xors 64 (λ r. cond (bit r whole) (f (r * apart)) 0));
  }

  -- one member more: the lowest that is still to come
  module _ (n rest t left : ℕ) (list : List ℕ) (lt : t < 64) (lowest : IsLowest 64 (λ k. bit k rest) t) (others : left ≡ bit_and rest (rest - 1))
      (h : MembersTo whole apart n rest list) where
    here : bit t rest ≡ true
    here = lowest.passes lt

    low : n ≤ t
    low = h.high t here

    abbrev next : List ℕ
    next = set list n (t * apart)

    left_is : (r : ℕ) → bit r left ≡ (bit r rest && not (eqb r t))
    left_is r = ap (bit r) others ∙ clear_lowest 64 rest t lowest lt r

    in_rest : (r : ℕ) → bit r left ≡ true → bit r rest ≡ true
    in_rest r p = and_left (bit r rest) (not (eqb r t)) (sym (left_is r) ∙ p)

    other : (r : ℕ) → bit r left ≡ true → r ≢ t
    other r p e = clash (eq-eqb r t e) (not-true (eqb r t) (and_right (bit r rest) (not (eqb r t)) (sym (left_is r) ∙ p)))

    -- what is gone now is the lowest, or was gone before
    gone : (r : ℕ) → bit r left ≡ false → r ≢ t → bit r rest ≡ false
    gone r p e = by_test (bit r rest) (λ q. clash (left_is r ∙ and_both q (ap not (ne_eqb r t e))) p) (λ q. q)

    at_new : get_or next n 0 ≡ t * apart
    at_new = get_or-set_same list n (t * apart) 0 (omega (arith, low, h.long))

    at_old : (k : ℕ) → k < n → get_or next k 0 ≡ get_or list k 0
    at_old k l = get_or-set_other list n k (t * apart) 0 (λ e. omega arith)

    above : (r : ℕ) → bit r rest ≡ true → t ≤ r
    above r p = by_less r t (λ l. clash p (lowest.before r l)) (λ l. l)

    higher : (r : ℕ) → bit r left ≡ true → n + 1 ≤ r
    higher r p = by_equal r t (λ e. absurd (other r p e)) (λ e. omega (arith, low, above r (in_rest r p)))

    sum_next : (f : ℕ → ℕ) → xors (n + 1) (λ k. f (get_or next k 0)) ⊕ xors 64 (λ r. cond (bit r left) (f (r * apart)) 0) ≡ xors 64 (λ r. cond (bit r whole) (f (r * apart)) 0)
    sum_next f =
        let some = xors n (λ k. f (get_or list k 0)) in
        let later = xors 64 (λ r. cond (bit r left) (f (r * apart)) 0) in
        let now : xors (n + 1) (λ k. f (get_or next k 0)) ≡ some ⊕ f (t * apart) =
        xors_more n (λ k. f (get_or next k 0)) ∙ ap₂ ◌⊕◌ (xors_same n (λ k. f (get_or next k 0)) (λ k. f (get_or list k 0)) (λ k l. ap f (at_old k l))) (ap f at_new) in
        let before : xors 64 (λ r. cond (bit r rest) (f (r * apart)) 0) ≡ later ⊕ f (t * apart) =
        set_apart 64 (λ r. bit r rest) (λ r. f (r * apart)) t lt here
        ∙ ap (λ (y : ℕ). y ⊕ f (t * apart)) (xors_same 64 (λ r. cond (bit r rest && not (eqb r t)) (f (r * apart)) 0) (λ r. cond (bit r left) (f (r * apart)) 0) (λ r l. ap (λ (b : Bool). cond b (f (r * apart)) 0) (sym (left_is r)))) in
        ap (λ (y : ℕ). y ⊕ later) now ∙ ⊕_assoc some (f (t * apart)) later ∙ ap (λ (y : ℕ). some ⊕ y) (⊕_comm (f (t * apart)) later ∙ sym before) ∙ h.sum f

    pub members_more : MembersTo whole apart (n + 1) left next
    members_more = record {
      few = omega (arith, low);
      long = length-set list n (t * apart) ∙ h.long;
      high = higher;
      within = λ r p. h.within r (in_rest r p);
      member = λ k l. by_equal k n (λ e. (t, lt, h.within t here, ap (λ (j : ℕ). get_or next j 0) e ∙ at_new))
          (λ e. let found = h.member k (omega arith) in (found.0, found.1, found.2, at_old k (omega arith) ∙ found.3));
      all = λ r l p q. by_equal r t (λ e. (n, omega arith, at_new ∙ ap (λ (j : ℕ). j * apart) (sym e)))
          (λ e. let found = h.all r l p (gone r q e) in (found.0, omega (arith, found.1), at_old found.0 found.1 ∙ found.2));
      sum = sum_next;
    }

  -- none is still to come
  pub members_all : (n rest : ℕ) (list : List ℕ) → rest ≡ 0 → MembersTo whole apart n rest list → Members whole apart (take n list)
  members_all n rest list e h = record {
    few = omega (arith, long, h.few);
    member = λ k l. let found = h.member k (omega (arith, long)) in (found.0, found.1, found.2, at k (omega (arith, long)) ∙ found.3);
    all = λ r l p. let found = h.all r l p (ap (bit r) e ∙ bit_zero r) in (found.0, omega (arith, long, found.1), at found.0 found.1 ∙ found.2);
    sum = λ f.
        ap (λ (m : ℕ). xors m (λ k. f (get_or (take n list) k 0))) long
        ∙ xors_same n (λ k. f (get_or (take n list) k 0)) (λ k. f (get_or list k 0)) (λ k l. ap f (at k l))
        ∙ sym (⊕_zero (xors n (λ k. f (get_or list k 0))))
        ∙ ap (λ (x : ℕ). xors n (λ k. f (get_or list k 0)) ⊕ x) (sym (xors_zero 64 (λ r. cond (bit r rest) (f (r * apart)) 0) (λ r l. ap (λ (b : Bool). cond b (f (r * apart)) 0) (ap (bit r) e ∙ bit_zero r))))
        ∙ h.sum f;
  }
    where
      long : length (take n list) ≡ n
      long = simp length-take (omega (arith, h.few, h.long))

      at : (k : ℕ) → k < n → get_or (take n list) k 0 ≡ get_or list k 0
      at k l = rw get_or-take

-- ---- the union of sets

-- what a set holds stays when others come
united_keeps : (r : ℕ) (sets : List ℕ) (first : ℕ) → bit r first ≡ true → bit r (fold bit_or first sets) ≡ true
united_keeps r [] first p = p
united_keeps r (x ∷ sets) first p = united_keeps r sets (bit_or first x) (bit_or_lem r first x ∙ or_left (bit r x) p)

united_has : (r : ℕ) (sets : List ℕ) (first j : ℕ) → j < length sets → bit r (get_or sets j 0) ≡ true → bit r (fold bit_or first sets) ≡ true
united_has r [] first j l p = absurd (omega arith)
united_has r (x ∷ sets) first zero l p = united_keeps r sets (bit_or first x) (bit_or_lem r first x ∙ or_right (bit r first) p)
united_has r (x ∷ sets) first (suc j) l p = united_has r sets (bit_or first x) j (omega arith) p

united_made : (r : ℕ) (sets : List ℕ) (first : ℕ) → bit r (fold bit_or first sets) ≡ true
    → (bit r first ≡ true) ⊎ ((j : ℕ) × (j < length sets) × (bit r (get_or sets j 0) ≡ true))
united_made r [] first p = inl p
united_made r (x ∷ sets) first p =
    ⊎_elim (λ old. either (bit r first) (bit r x) (sym (bit_or_lem r first x) ∙ old) (λ q. inl q) (λ q. inr (0, omega arith, q)))
    (λ found. inr (suc found.0, omega (arith, found.1), found.2)) (united_made r sets (bit_or first x) p)

pub union_is : (sets : List ℕ) (all : ℕ) → all ≡ fold bit_or 0 sets → Union sets all
union_is sets all e = subst (Union sets) (sym e) record {
  within = λ j l r p. united_has r sets 0 j l p;
  made = λ r p. ⊎_elim (λ q. clash q (bit_zero r)) (λ found. found) (united_made r sets 0 p);
}
