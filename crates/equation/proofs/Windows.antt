-- From runs of bytes to cells: what the XOR of the runs of an equation's cells says of the equation in a window.
use mathlib.Core.Path.{◌≡◌, refl, sym, ap, ap₂, ◌∙◌, subst}
use mathlib.Core.Logic.{◌≢◌, ◌⊎◌, inl, inr, ⊎_elim}
use mathlib.Core.List.{List, [], ◌∷◌}
use mathlib.Core.Bool.{Bool, true, false, not, ◌||◌}
use Prim.Native.Nat.{ℕ, zero, suc, ◌+◌, ◌≤◌, ◌<◌}
use native.Mathlib.Nat.{add_assoc, zero-add}
use native.Mathlib.Omega.{arith}
use lib.Dec.{eqb}
use lib.ListN.{length, get_or, take, replicate, get_or-replicate, length-replicate, get_or-eq_default}
use borrow.Author.Tests.{eq-eqb, ne_eqb, eqb-true, not-false}
use Rattle.std.specs.Prelude.{Option, None, Some, IsSome}
use Rattle.xor.specs.Xor.{◌⊕◌}
use Rattle.xor.specs.Sets.{any}
use Rattle.xor.specs.Runs.{sum_at, added_to, Inside, Apart, Put, Says, Summed, NonzeroAt}
use Rattle.xor.proofs.Cases.{by_test, by_equal, by_less, clash}
use Rattle.xor.proofs.Algebra.{zero_⊕, ⊕_comm, ⊕_equal, equal_⊕}
use Rattle.xor.proofs.Runs.{first_long, first_at, first_inside, first_sum, one_inside, one_first, says_zero, put_same, summed_same, nonzero_same}
use Rattle.xor.proofs.Sets.{none_any, any_none}
use Rattle.codes.specs.declared.Shape.{Shape}
use Rattle.codes.specs.declared.Sources.{Sources}
use Rattle.codes.specs.Shape.{cells, equations, stripe_length, WellFormed}
use Rattle.codes.specs.Geometry.{place}
use Rattle.codes.specs.Encoded.{parity_cell, byte_at, parity_byte, total, fails, is_parity}
use Rattle.codes.specs.Lines.{shares, takes_shared, own_cell, sum_where, shared_sum, own_total, Listing, Found}
use Rattle.codes.proofs.Geometry.{place_apart, parity_there, byte_there, byte_same}
use Rattle.codes.proofs.Shared.{takes_shares, own_all, own_total_lem, own_shared, shared_total, shared_same}
use Rattle.equation.specs.Window.{bytes_at, InCells, Shares, ParityPut, ParitySet, ParityZero, fails_in}

-- ---- an equation fails, or it holds

module _ (s : Shape) (stripe : List ℕ) (q at n : ℕ) where
  -- an equation that does not fail has the total zero in every byte
  pub not_failing : fails_in s stripe q at n ≡ false → (i : ℕ) → i < n → total s q (bytes_at s stripe (at + i)) ≡ 0
  unfolding fails_in
  not_failing p i l =
      eqb-true (total s q (bytes_at s stripe (at + i))) 0
      (not-false (eqb (total s q (bytes_at s stripe (at + i))) 0) (any_none n (λ k. not (eqb (total s q (bytes_at s stripe (at + k))) 0)) p i l))

  -- and one that has it does not fail
  pub holds_everywhere : ((i : ℕ) → i < n → total s q (bytes_at s stripe (at + i)) ≡ 0) → fails_in s stripe q at n ≡ false
  unfolding fails_in
  holds_everywhere h =
      none_any n (λ i. not (eqb (total s q (bytes_at s stripe (at + i))) 0)) (λ i l. ap not (eq-eqb (total s q (bytes_at s stripe (at + i))) 0 (h i l)))

  -- what a test of the total in every byte says
  fails_says : (b : Bool) → Says ((i : ℕ) → i < n → total s q (bytes_at s stripe (at + i)) ≡ 0) b → not b ≡ fails_in s stripe q at n
  fails_says true test = sym (holds_everywhere (test.yes refl))
  fails_says false test = sym (by_test (fails_in s stripe q at n) (λ p. p) (λ p. absurd (test.no refl (not_failing p))))

  pub fails_by : (f : ℕ → ℕ) → ((i : ℕ) → i < n → f i ≡ total s q (bytes_at s stripe (at + i))) → (b : Bool) → Says ((i : ℕ) → i < n → f i ≡ 0) b → not b ≡ fails_in s stripe q at n
  fails_by f is b test = fails_says b (says_zero n f (λ i. total s q (bytes_at s stripe (at + i))) b is test)

-- a window of whole cells
pub whole : (s : Shape) (stripe : List ℕ) → WellFormed s → length stripe ≡ stripe_length s → InCells s stripe 0 s.cell
whole s stripe formed long = record { formed = formed; long = long; ends = omega arith }

-- ---- places that are listed, and passed on as the first of a list

module _ (s : Shape) (stripe : List ℕ) (at n : ℕ) (w : InCells s stripe at n) (sum : (ℕ → ℕ) → ℕ) (m : ℕ) (places : List ℕ) (h : Listing s sum m places) where
  few : m ≤ length places
  few = omega (arith, h.few, h.long)

  pub listed_long : length (take m places) ≡ m
  listed_long = first_long places m few

  -- they lie inside the stripe
  pub listed_inside : Inside (length stripe) (take m places) (at + n)
  listed_inside = first_inside places m few (length stripe) (at + n) (λ k l. omega (arith, h.inside k l, w.long, w.ends))

  -- the XOR of their runs is the sum
  pub listed_sum : (bytes : List ℕ) (t : ℕ) → sum_at bytes (take m places) t ≡ sum (bytes_at s bytes t)
  listed_sum bytes t = first_sum places m few bytes t ∙ h.is bytes t

  pub listed_added : (into into' : List ℕ) (to : ℕ) → Put into to n (added_to into to stripe (take m places) at) into' → Put into to n (λ i. get_or into (to + i) 0 ⊕ sum (bytes_at s stripe (at + i))) into'
  unfolding added_to
  listed_added into into' to put =
      put_same into into' to n (added_to into to stripe (take m places) at) (λ i. get_or into (to + i) 0 ⊕ sum (bytes_at s stripe (at + i))) put (λ i l. ap (λ (x : ℕ). get_or into (to + i) 0 ⊕ x) (listed_sum stripe (at + i)))

  pub listed_summed : (into into' : List ℕ) (to : ℕ) (r : Bool) → Summed into to n (λ t. sum_at stripe (take m places) (at + t)) into' r → Summed into to n (λ i. sum (bytes_at s stripe (at + i))) into' r
  listed_summed into into' to r h =
      summed_same into into' to n (λ t. sum_at stripe (take m places) (at + t)) (λ i. sum (bytes_at s stripe (at + i))) r h (λ i l. listed_sum stripe (at + i))

-- what the check has at hand of them
pub ruleset listed = (listed_long, listed_inside, listed_sum, listed_added, listed_summed, whole, length-replicate)

-- a new array has zeros
pub new_zeros : (m i : ℕ) → ◌≡◌ {A = ℕ} (get_or (replicate m 0) i 0) 0
new_zeros m i = by_less i m (get_or-replicate {A = ℕ} m i 0 0) (λ l. get_or-eq_default (replicate m 0) 0 (omega (arith, length-replicate {A = ℕ} m 0)))

-- one run, at the first place
pub one_added : (bytes into into' : List ℕ) (to n : ℕ) (r : Bool) → Summed into to n (added_to into to bytes (0 ∷ []) 0) into' r → Summed into to n (λ i. get_or into (to + i) 0 ⊕ get_or bytes i 0) into' r
unfolding added_to
one_added bytes into into' to n r h =
    summed_same into into' to n (added_to into to bytes (0 ∷ []) 0) (λ i. get_or into (to + i) 0 ⊕ get_or bytes i 0) r h
    (λ i l. ap (λ (x : ℕ). get_or into (to + i) 0 ⊕ x) (one_first bytes (0 + i) ∙ ap (λ (k : ℕ). get_or bytes k 0) (zero-add i)))

-- ---- the parity cell of an equation in a window

module _ (s : Shape) (stripe : List ℕ) (at n : ℕ) (w : InCells s stripe at n) (q : ℕ) (lq : q < equations s) (to : ℕ) (is : to ≡ place s (parity_cell s q)) where
  own_byte : (bytes : List ℕ) (t : ℕ) → byte_at s bytes (parity_cell s q) t ≡ get_or bytes (to + t) 0
  own_byte bytes t = byte_there s w.formed bytes (parity_cell s q) t (parity_there s w.formed q lq) ∙ ap (λ (x : ℕ). get_or bytes (x + t) 0) (sym is)

  -- values that are put there are put into no other cell
  parity_put : (f : ℕ → ℕ) (new : List ℕ) → Put stripe (to + at) n f new → ParityPut s q at n f stripe new
  parity_put f new put = record {
    long = put.long;
    own = λ i l. own_byte new (at + i) ∙ ap (λ (x : ℕ). get_or new x 0) (sym (add_assoc to at i)) ∙ put.inner i l;
    others = λ c lc t l off. byte_same s w.formed new stripe c t (λ there. put.outer (place s c + t) (by_equal c (parity_cell s q)
        (λ e. let same : place s c ≡ to = ap (place s) e ∙ sym is in
        by_less t at (λ lo. inl (omega (arith, same))) (λ lo. by_less t (at + n) (λ hi. absurd (off e lo hi)) (λ hi. inr (omega (arith, same)))))
        (λ e. ⊎_elim (λ side. inl (omega (arith, is))) (λ side. inr (omega (arith, is, w.ends))) (place_apart s w.formed c (parity_cell s q) there (parity_there s w.formed q lq) e))));
  }

  -- whether they are all zero
  pub parity_zero : (new : List ℕ) (r : Bool) → Says ((i : ℕ) → i < n → get_or new (to + at + i) 0 ≡ 0) r → ParityZero s q at n new r
  parity_zero new r =
      says_zero n (λ i. get_or new (to + at + i) 0) (λ i. byte_at s new (parity_cell s q) (at + i)) r
      (λ i l. ap (λ (x : ℕ). get_or new x 0) (add_assoc to at i) ∙ sym (own_byte new (at + i)))

  -- bytes that are XORed in there
  pub parity_more : (value : ℕ → ℕ) (old : List ℕ) (x : ℕ → ℕ) (new : List ℕ) → ParityPut s q at n value old stripe → Put stripe (to + at) n (λ i. get_or stripe (to + at + i) 0 ⊕ x i) new → ParityPut s q at n (λ i. value i ⊕ x i) old new
  parity_more value old x new before put =
      let after = parity_put (λ i. get_or stripe (to + at + i) 0 ⊕ x i) new put in
      record {
        long = after.long ∙ before.long;
        own = λ i l. after.own i l ∙ ap (λ (y : ℕ). y ⊕ x i) (ap (λ (k : ℕ). get_or stripe k 0) (add_assoc to at i) ∙ sym (own_byte stripe (at + i)) ∙ before.own i l);
        others = λ c lc t l off. after.others c lc t l off ∙ before.others c lc t l off;
      }

-- ---- the cells that an equation sums by itself

module _ (s : Shape) (stripe : List ℕ) (at n : ℕ) (w : InCells s stripe at n) (q : ℕ) (r : Sources) (places : List ℕ) (h : Found s q r places) where
  -- they lie apart from the parity cell
  pub used_apart : Apart (take r.count places) r.to (at + n)
  used_apart = record {
    side = λ k l. subst (λ (x : ℕ). (x + (at + n) ≤ r.to) ⊎ (r.to + (at + n) ≤ x)) (sym (first_at places r.count (omega (arith, h.few, h.listed.long)) k l))
        (⊎_elim (λ z. inl (omega (arith, w.ends))) (λ z. inr (omega (arith, w.ends))) (h.apart k (omega (arith, listed_long s stripe at n w (sum_where s (own_cell s q)) r.count places h.listed))));
  }

  pub parity_ends : r.to + at + n ≤ length stripe
  parity_ends = omega (arith, h.ends, w.long, w.ends)

  module _ (lq : q < equations s) where
    pub own_set : (new : List ℕ) (b : Bool) → Summed stripe (r.to + at) n (λ t. sum_at stripe (take r.count places) (at + t)) new b
        → ParityPut s q at n (λ i. sum_where s (own_cell s q) (bytes_at s stripe (at + i))) stripe new × ParityZero s q at n new b
    own_set new b sum =
        let own = listed_summed s stripe at n w (sum_where s (own_cell s q)) r.count places h.listed stripe new (r.to + at) b sum in
        (parity_put s stripe at n w q lq r.to h.to (λ i. sum_where s (own_cell s q) (bytes_at s stripe (at + i))) new own.put, parity_zero s stripe at n w q lq r.to h.to new b own.zero)

-- ---- with what is shared

module _ (s : Shape) (stripe : List ℕ) (at n : ℕ) where
  -- where nothing is shared anything will do
  pub unshared : shares s ≡ false → (shared : List ℕ) → Shares s stripe at n shared
  unshared h shared = record { long = λ k. clash k h; is = λ k. clash k h }

  -- as it is added to zeros
  pub shared_put : (old new : List ℕ) → n ≤ length old → ((i : ℕ) → i < n → get_or old i 0 ≡ 0) → Put old 0 n (λ i. get_or old (0 + i) 0 ⊕ shared_sum s (bytes_at s stripe (at + i))) new → Shares s stripe at n new
  shared_put old new long zeros put = record {
    long = λ k. omega (arith, put.long);
    is = λ k i l. ap (λ (j : ℕ). get_or new j 0) (sym (zero-add i)) ∙ put.inner i l
        ∙ ap (λ (x : ℕ). x ⊕ shared_sum s (bytes_at s stripe (at + i))) (ap (λ (j : ℕ). get_or old j 0) (zero-add i) ∙ zeros i l) ∙ zero_⊕ (shared_sum s (bytes_at s stripe (at + i)));
  }

  -- it stays as long as data stays
  pub shared_stays : WellFormed s → (new shared : List ℕ) → ((c : ℕ) → c < cells s → is_parity s c ≡ false → (i : ℕ) → i < n → byte_at s stripe c (at + i) ≡ byte_at s new c (at + i)) → Shares s stripe at n shared → Shares s new at n shared
  shared_stays w new shared same h = record {
    long = h.long;
    is = λ k i l. h.is k i l ∙ shared_same s w (bytes_at s stripe (at + i)) (bytes_at s new (at + i)) (λ c lc p. same c lc p i l);
  }

  module _ (w : WellFormed s) (q : ℕ) where
    pub set_plain : takes_shared s q ≡ false → (new : List ℕ) → ParityPut s q at n (λ i. sum_where s (own_cell s q) (bytes_at s stripe (at + i))) stripe new → ParitySet s q at n stripe new
    set_plain plain new put = record { long = put.long; own = λ i l. put.own i l ∙ own_all s q plain (bytes_at s stripe (at + i)); others = put.others }

    pub set_shared : takes_shared s q ≡ true → (shared : List ℕ) → Shares s stripe at n shared → (new : List ℕ)
        → ParityPut s q at n (λ i. sum_where s (own_cell s q) (bytes_at s stripe (at + i)) ⊕ get_or shared i 0) stripe new → ParitySet s q at n stripe new
    set_shared takes shared part new put = record {
      long = put.long;
      own = λ i l. put.own i l ∙ ap (λ (x : ℕ). sum_where s (own_cell s q) (bytes_at s stripe (at + i)) ⊕ x) (part.is (takes_shares s q takes) i l) ∙ own_shared s w q takes (bytes_at s stripe (at + i));
      others = put.others;
    }

    pub total_plain : takes_shared s q ≡ false → (into into' : List ℕ) (to : ℕ) (r : Bool) → Summed into to n (λ i. own_total s q (bytes_at s stripe (at + i))) into' r → Summed into to n (λ i. total s q (bytes_at s stripe (at + i))) into' r
    total_plain plain into into' to r h =
        summed_same into into' to n (λ i. own_total s q (bytes_at s stripe (at + i))) (λ i. total s q (bytes_at s stripe (at + i))) r h (λ i l. own_total_lem s q plain (bytes_at s stripe (at + i)))

    pub total_shared : takes_shared s q ≡ true → (shared : List ℕ) → Shares s stripe at n shared → (into mid into' : List ℕ) (to : ℕ) (r : Bool) → Put into to n (λ i. own_total s q (bytes_at s stripe (at + i))) mid
        → Summed mid to n (λ i. get_or mid (to + i) 0 ⊕ get_or shared i 0) into' r → Summed into to n (λ i. total s q (bytes_at s stripe (at + i))) into' r
    total_shared takes shared part into mid into' to r one two = record {
      put = record {
        long = two.put.long ∙ one.long;
        inner = λ i l. two.put.inner i l ∙ ap₂ ◌⊕◌ (one.inner i l) (part.is (takes_shares s q takes) i l) ∙ shared_total s w q takes (bytes_at s stripe (at + i));
        outer = λ i side. two.put.outer i side ∙ one.outer i side;
      };
      zero = two.zero;
    }

-- where the equation fails some byte is not zero, and it fails in the one that was found
pub failing_some : (s : Shape) (stripe : List ℕ) (q at n : ℕ) (f : ℕ → ℕ) → ((i : ℕ) → i < n → f i ≡ total s q (bytes_at s stripe (at + i))) → (found : Option ℕ) → fails_in s stripe q at n ≡ true → NonzeroAt f n found → IsSome found
failing_some s stripe q at n f is None p h = clash p (holds_everywhere s stripe q at n (λ i l. sym (is i l) ∙ h i l))
failing_some s stripe q at n f is (Some r) p h = refl

pub failing_at : (s : Shape) (stripe : List ℕ) (q at n : ℕ) (f : ℕ → ℕ) → ((i : ℕ) → i < n → f i ≡ total s q (bytes_at s stripe (at + i))) → (found : Option ℕ) (r : ℕ) → found ≡ Some r → NonzeroAt f n found
    → (r < n) × (total s q (bytes_at s stripe (at + r)) ≢ 0)
failing_at s stripe q at n f is found r e h = nonzero_same n (Some r) f (λ i. total s q (bytes_at s stripe (at + i))) is (subst (NonzeroAt f n) e h)

-- the same of a buffer with what is shared, into which the equation's own cells are added
module _ (s : Shape) (stripe : List ℕ) (q at n : ℕ) (w : WellFormed s) (takes : takes_shared s q ≡ true) (shared sum : List ℕ) (part : Shares s stripe at n shared)
    (put : Put shared 0 n (λ i. get_or shared (0 + i) 0 ⊕ own_total s q (bytes_at s stripe (at + i))) sum) where
  pub buffer_inside : Inside (length sum) (0 ∷ []) (0 + n)
  buffer_inside = one_inside sum 0 (0 + n) (omega (arith, put.long, part.long (takes_shares s q takes)))

  buffer_is : (i : ℕ) → i < n → sum_at sum (0 ∷ []) (0 + i) ≡ total s q (bytes_at s stripe (at + i))
  buffer_is i l =
      one_first sum (0 + i) ∙ put.inner i l
      ∙ ap (λ (x : ℕ). x ⊕ own_total s q (bytes_at s stripe (at + i))) (ap (λ (k : ℕ). get_or shared k 0) (zero-add i) ∙ part.is (takes_shares s q takes) i l)
      ∙ ⊕_comm (shared_sum s (bytes_at s stripe (at + i))) (own_total s q (bytes_at s stripe (at + i))) ∙ shared_total s w q takes (bytes_at s stripe (at + i))

  pub buffer_some : (found : Option ℕ) → fails_in s stripe q at n ≡ true → NonzeroAt (λ t. sum_at sum (0 ∷ []) (0 + t)) n found → IsSome found
  buffer_some = failing_some s stripe q at n (λ t. sum_at sum (0 ∷ []) (0 + t)) buffer_is

  pub buffer_failing : (found : Option ℕ) (r : ℕ) → found ≡ Some r → NonzeroAt (λ t. sum_at sum (0 ∷ []) (0 + t)) n found → (r < n) × (total s q (bytes_at s stripe (at + r)) ≢ 0)
  buffer_failing = failing_at s stripe q at n (λ t. sum_at sum (0 ∷ []) (0 + t)) buffer_is

-- ---- the whole cell

any_same : (n : ℕ) (a b : ℕ → Bool) → ((k : ℕ) → k < n → a k ≡ b k) → any n a ≡ any n b
unfolding any
any_same zero a b e = refl
any_same (suc n) a b e = ap₂ ◌||◌ (any_same n a b (λ k l. e k (omega arith))) (e n (omega arith))

-- an equation fails in a stripe where it fails in the whole of its cells
pub fails_whole : (s : Shape) (stripe : List ℕ) (q : ℕ) → fails_in s stripe q 0 s.cell ≡ fails s stripe q
unfolding fails_in fails total
fails_whole s stripe q =
    any_same s.cell (λ i. not (eqb (total s q (bytes_at s stripe (0 + i))) 0)) (λ t. not (eqb (byte_at s stripe (parity_cell s q) t) (parity_byte s stripe q t)))
    (λ i l. ap not (ap (λ (t : ℕ). eqb (total s q (bytes_at s stripe t)) 0) (zero-add i) ∙ zero_where (byte_at s stripe (parity_cell s q) i) (parity_byte s stripe q i)))
  where
    zero_where : (a b : ℕ) → eqb (a ⊕ b) 0 ≡ eqb a b
    zero_where a b = by_equal a b (λ e. eq-eqb (a ⊕ b) 0 (equal_⊕ a b e) ∙ sym (eq-eqb a b e)) (λ e. ne_eqb (a ⊕ b) 0 (λ z. e (⊕_equal a b z)) ∙ sym (ne_eqb a b e))

-- a stripe of the same length has the same windows
pub kept_window : (s : Shape) (stripe new : List ℕ) (at n : ℕ) → InCells s stripe at n → length new ≡ length stripe → InCells s new at n
kept_window s stripe new at n w e = record { formed = w.formed; long = e ∙ w.long; ends = w.ends }
