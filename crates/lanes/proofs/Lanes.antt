-- Laws of lanes: the totals put into them, what a set of them sums to, and the lost cells mended by them.
use mathlib.Core.Path.{◌≡◌, refl, sym, ap, ap₂, ◌∙◌, subst}
use mathlib.Core.Logic.{◌≢◌, ◌⊎◌, inl, inr, ⊎_elim}
use mathlib.Core.List.{List}
use mathlib.Core.Bool.{Bool, true, false, cond, not, ◌&&◌, ◌||◌, and-true, and-false, or-false}
use Prim.Native.Nat.{ℕ, zero, suc, ◌+◌, ◌-◌, ◌*◌, ◌^◌, ◌≤◌, ◌<◌}
use native.Mathlib.Nat.{zero-add, add_assoc}
use native.Mathlib.Omega.{arith}
use lib.Bits.{bit_and, bit_or}
use lib.Dec.{eqb, leb, ltb}
use lib.ListN.{length, get_or}
use borrow.Author.Tests.{eq-eqb, ne_eqb, lt-ltb, le-ltb, le-leb, lt-leb}
use Rattle.std.specs.Prelude.{Option, is_some}
use Rattle.xor.specs.Xor.{◌⊕◌, xors}
use Rattle.xor.specs.Runs.{sum_at, added_to, Inside, Put, Says, NonzeroAt}
use Rattle.xor.proofs.Cases.{by_test, by_equal, by_less, clash, not_passed, and_both, or_right}
use Rattle.xor.proofs.Algebra.{⊕_zero, ⊕_assoc}
use Rattle.xor.proofs.Sums.{nothing, xors_none, xors_more, xors_same, xors_zero}
use Rattle.xor.proofs.Runs.{put_same, says_same, says_zero, nonzero_says}
use Rattle.bits.specs.Bit.{bit, Within, TakesLowest, Members, Union}
use Rattle.bits.proofs.Finding.{taken_is, left_within, left_without, left_others}
use Rattle.bits.proofs.Bits.{bit_and_lem, bit_or_lem, bit_zero, bit_power}
use Rattle.codes.specs.declared.Shape.{Shape}
use Rattle.codes.specs.Shape.{cells, equations, WellFormed}
use Rattle.codes.specs.Encoded.{byte_at, total}
use Rattle.codes.proofs.Shapes.{small_equations}
use Rattle.codes.specs.Geometry.{cell_there, place}
use Rattle.codes.proofs.Geometry.{place_apart, byte_there, byte_same}
use Rattle.codes.proofs.Solutions.{total_same}
use Rattle.decide.specs.Solver.{CellsIn, summed, mended, cells_of, sets_of, Sets}
use Rattle.decide.proofs.Lists.{cell_at}
use Rattle.decide.specs.declared.Lost.{Lost}
use Rattle.std.specs.Prelude.{Some}
use Rattle.std.proofs.lemmas.List.{length-map}
use Rattle.equation.specs.declared.Window.{Window}
use Rattle.equation.specs.Window.{bytes_at, fails_in}
use Rattle.equation.specs.InWindow.{IsWhole}
use Rattle.equation.proofs.Windows.{not_failing}
use Rattle.equation.proofs.Whole.{of_whole}
use Rattle.lanes.specs.Lanes.{lane_sum, Totals, Failing, Passes, LanesOf, Filled, Mends}

-- ---- the totals of equations

module _ (s : Shape) (stripe : List ℕ) (at n : ℕ) (whole : ℕ) where
  -- the lanes of the members that are not still to come are done
  pub record TotalsTo (rest : ℕ) (lanes : List ℕ) : Type 0 where
    pub long : length lanes ≡ 32768
    pub within : (q : ℕ) → bit q rest ≡ true → bit q whole ≡ true
    pub lane : (q : ℕ) → bit q whole ≡ true → bit q rest ≡ false → (i : ℕ) → i < n → get_or lanes (q * 512 + i) 0 ≡ total s q (bytes_at s stripe (at + i))

  pub totals_none : (rest : ℕ) (lanes : List ℕ) → rest ≡ whole → length lanes ≡ 32768 → TotalsTo rest lanes
  totals_none rest lanes e long = record { long = long; within = λ q p. ap (bit q) (sym e) ∙ p; lane = λ q p off. clash p (ap (bit q) (sym e) ∙ off) }

  pub totals_more : (rest q left : ℕ) (lanes lanes' : List ℕ) → n ≤ 512 → TakesLowest rest (Some q) left → TotalsTo rest lanes
      → Put lanes (q * 512) n (λ i. total s q (bytes_at s stripe (at + i))) lanes' → TotalsTo left lanes'
  totals_more rest q left lanes lanes' few took h put = record {
    long = put.long ∙ h.long;
    within = λ r p. h.within r (left_within rest q left took r p);
    lane = λ r p off i li. by_equal r q
        (λ e. ap (λ (k : ℕ). get_or lanes' (k * 512 + i) 0) e ∙ put.inner i li ∙ ap (λ (k : ℕ). total s k (bytes_at s stripe (at + i))) (sym e))
        (λ e. put.outer (r * 512 + i) (apart r i li e) ∙ h.lane r p (sym (left_others rest q left took r e) ∙ off) i li);
  }
    where
      apart : (r i : ℕ) → i < n → r ≢ q → (r * 512 + i < q * 512) ⊎ (q * 512 + n ≤ r * 512 + i)
      apart r i li e = by_less r q (λ l. inl (omega arith)) (λ l. inr (omega arith))

  pub totals_all : (rest : ℕ) (lanes : List ℕ) → rest ≡ 0 → TotalsTo rest lanes → Totals s stripe whole at n lanes
  totals_all rest lanes e h = record { long = h.long; holds = λ q p i l. h.lane q p (ap (bit q) e ∙ bit_zero q) i l }

  -- ---- which of them fail

  -- of the members that are not still to come, those that fail
  pub record FailingTo (rest failing : ℕ) : Type 0 where
    pub within : (q : ℕ) → bit q rest ≡ true → bit q whole ≡ true
    pub is : (q : ℕ) → bit q failing ≡ (bit q whole && not (bit q rest) && fails_in s stripe q at n)

  pub failing_none : (rest : ℕ) → rest ≡ whole → FailingTo rest 0
  failing_none rest e = record { within = λ q p. ap (bit q) (sym e) ∙ p; is = λ q. bit_zero q ∙ sym (ap (λ (m : ℕ). bit q whole && not (bit q m) && fails_in s stripe q at n) e ∙ not_both (bit q whole) (fails_in s stripe q at n)) }
    where
      not_both : (a b : Bool) → (a && not a && b) ≡ false
      not_both true b = refl
      not_both false b = refl

  module _ (rest q left failing : ℕ) (took : TakesLowest rest (Some q) left) (h : FailingTo rest failing) where
    -- one more, of which the mask says what it should
    failing_next : (mask : ℕ) → ((r : ℕ) → r ≢ q → bit r mask ≡ bit r failing) → bit q mask ≡ fails_in s stripe q at n → FailingTo left mask
    failing_next mask same here = record {
      within = λ r p. h.within r (left_within rest q left took r p);
      is = λ r. by_equal r q
          (λ e. ap (λ (k : ℕ). bit k mask) e ∙ here ∙ ap (λ (k : ℕ). fails_in s stripe k at n) (sym e)
          ∙ sym (ap₂ (λ (a b : Bool). a && not b && fails_in s stripe r at n) (ap (λ (k : ℕ). bit k whole) e ∙ h.within q (taken_is rest q left took)) (left_without rest q left took r e)))
          (λ e. same r e ∙ h.is r ∙ ap (λ (b : Bool). bit r whole && not b && fails_in s stripe r at n) (sym (left_others rest q left took r e)));
    }

    -- it is not in the mask before its turn
    absent : bit q failing ≡ false
    absent = h.is q ∙ ap (λ (b : Bool). bit q whole && not b && fails_in s stripe q at n) (taken_is rest q left took) ∙ ap (λ (b : Bool). b && fails_in s stripe q at n) (and-false (bit q whole))

    pub failing_not : fails_in s stripe q at n ≡ false → FailingTo left failing
    failing_not holds = failing_next failing (λ r e. refl) (absent ∙ sym holds)

    pub failing_more : (one : ℕ) → one ≡ 2 ^ q → fails_in s stripe q at n ≡ true → FailingTo left (bit_or failing one)
    failing_more one e fail =
        failing_next (bit_or failing one)
        (λ r off. is r ∙ ap (λ (b : Bool). bit r failing || b) (ne_eqb r q off) ∙ or-false (bit r failing))
        (is q ∙ or_right (bit q failing) (eq-eqb q q refl) ∙ sym fail)
      where
        is : (r : ℕ) → bit r (bit_or failing one) ≡ (bit r failing || eqb r q)
        is r = bit_or_lem r failing one ∙ ap (λ (m : ℕ). bit r failing || bit r m) e ∙ ap (λ (b : Bool). bit r failing || b) (bit_power r q)

  pub failing_all : (rest failing : ℕ) → rest ≡ 0 → FailingTo rest failing → Failing s stripe whole at n failing
  failing_all rest failing e h q =
      h.is q ∙ ap (λ (b : Bool). bit q whole && not b && fails_in s stripe q at n) (ap (bit q) e ∙ bit_zero q) ∙ ap (λ (b : Bool). b && fails_in s stripe q at n) (and-true (bit q whole))

-- ---- sums of lanes

module _ (lanes : List ℕ) (set : ℕ) (places : List ℕ) (h : Members set 512 places) where
  pub lanes_inside : (n long : ℕ) → n ≤ 512 → long ≡ 32768 → Inside long places n
  lanes_inside n long few e = record { ends = λ k l. let found = h.member k l in omega (arith, found.1, found.3) }

  lane_sum_lem : (i : ℕ) → sum_at lanes places (0 + i) ≡ lane_sum lanes set i
  unfolding lane_sum sum_at
  lane_sum_lem i = ap (λ (j : ℕ). xors (length places) (λ k. get_or lanes (get_or places k 0 + j) 0)) (zero-add i) ∙ h.sum (λ p. get_or lanes (p + i) 0)

  pub lanes_say : (n : ℕ) (found : Option ℕ) (r : Bool) → is_some found ≡ not r → NonzeroAt (λ i. sum_at lanes places (0 + i)) n found → Says ((i : ℕ) → i < n → lane_sum lanes set i ≡ 0) r
  lanes_say n found r e h =
      says_zero n (λ i. sum_at lanes places (0 + i)) (λ i. lane_sum lanes set i) r (λ i l. lane_sum_lem i)
      (nonzero_says (λ i. sum_at lanes places (0 + i)) n found r e h)

  pub lanes_added : (d d' : List ℕ) (to n : ℕ) → Put d to n (added_to d to lanes places 0) d' → Put d to n (λ i. get_or d (to + i) 0 ⊕ lane_sum lanes set i) d'
  unfolding added_to
  lanes_added d d' to n put =
      put_same d d' to n (added_to d to lanes places 0) (λ i. get_or d (to + i) 0 ⊕ lane_sum lanes set i) put
      (λ i l. ap (λ (x : ℕ). get_or d (to + i) 0 ⊕ x) (lane_sum_lem i))

-- the lanes of no equation
pub no_lanes : (lanes : List ℕ) (set i : ℕ) → set ≡ 0 → lane_sum lanes set i ≡ 0
unfolding lane_sum
no_lanes lanes set i e =
    xors_same 64 (λ r. cond (bit r set) (get_or lanes (r * 512 + i) 0) 0) (λ r. 0) (λ r l. ap (λ (b : Bool). cond b (get_or lanes (r * 512 + i) 0) 0) (ap (bit r) e ∙ bit_zero r)) ∙ xors_zero 64 (λ r. 0) (λ r l. refl)

-- zeros at the end of a sum
xors_cut : (n m : ℕ) (f : ℕ → ℕ) → m ≤ n → ((k : ℕ) → m ≤ k → k < n → f k ≡ 0) → xors n f ≡ xors m f
unfolding xors
xors_cut zero m f l z = ap (λ (k : ℕ). xors k f) (let e : 0 ≡ m = omega arith in e)
xors_cut (suc n) m f l z =
    by_equal m (suc n) (λ e. ap (λ (k : ℕ). xors k f) (sym e))
    (λ e. ap (λ (x : ℕ). xors n f ⊕ x) (z n (omega arith) (omega arith)) ∙ ⊕_zero (xors n f) ∙ xors_cut n m f (omega arith) (λ k lo hi. z k lo (omega arith)))

module _ (s : Shape) (w : WellFormed s) (stripe : List ℕ) (set at n : ℕ) (lanes : List ℕ) (h : Totals s stripe set at n lanes) where
  -- a set of equations whose totals are in their lanes
  totals_sum : (m : ℕ) → ((r : ℕ) → bit r m ≡ true → bit r set ≡ true) → ((r : ℕ) → bit r m ≡ true → r < equations s) → (i : ℕ) → i < n
      → lane_sum lanes m i ≡ summed s m (bytes_at s stripe (at + i))
  unfolding lane_sum summed
  totals_sum m within below i l =
      xors_same 64 (λ r. cond (bit r m) (get_or lanes (r * 512 + i) 0) 0) (λ r. cond (bit r m) (total s r (bytes_at s stripe (at + i))) 0)
      (λ r lr. by_test (bit r m) (λ p. ap (λ (x : ℕ). cond (bit r m) x 0) (h.holds r (within r p) i l)) (λ p. rw p refl))
      ∙ xors_cut 64 (equations s) (λ r. cond (bit r m) (total s r (bytes_at s stripe (at + i))) 0) (omega (arith, small_equations s w))
      (λ r lo hi. ap (λ (b : Bool). cond b (total s r (bytes_at s stripe (at + i))) 0) (not_passed (λ p. let low = below r p in absurd (omega arith))))

  module _ (failing : ℕ) (exact : Failing s stripe set at n failing) where
    -- of a set in it those that don't fail may be left out
    failing_sum : (m : ℕ) → ((r : ℕ) → bit r m ≡ true → bit r set ≡ true) → (i : ℕ) → i < n → lane_sum lanes (bit_and m failing) i ≡ lane_sum lanes m i
    unfolding lane_sum
    failing_sum m within i l =
        xors_same 64 (λ r. cond (bit r (bit_and m failing)) (get_or lanes (r * 512 + i) 0) 0) (λ r. cond (bit r m) (get_or lanes (r * 512 + i) 0) 0)
        (λ r lr. ap (λ (b : Bool). cond b (get_or lanes (r * 512 + i) 0) 0) (bit_and_lem r m failing) ∙ by_test (bit r m) (λ p. there r p) (λ p. rw p refl))
      where
        there : (r : ℕ) → bit r m ≡ true → cond (bit r m && bit r failing) (get_or lanes (r * 512 + i) 0) 0 ≡ cond (bit r m) (get_or lanes (r * 512 + i) 0) 0
        there r p =
            by_test (fails_in s stripe r at n) (λ fail. ap (λ (b : Bool). cond (bit r m && b) (get_or lanes (r * 512 + i) 0) 0) (exact r ∙ and_both (within r p) fail) ∙ rw p refl)
            (λ hold. let none : get_or lanes (r * 512 + i) 0 ≡ 0 = h.holds r (within r p) i l ∙ not_failing s stripe r at n hold i l in
            nothing (bit r m && bit r failing) (get_or lanes (r * 512 + i) 0) none ∙ sym (nothing (bit r m) (get_or lanes (r * 512 + i) 0) none))

    -- the lanes of sets tell whether the stripe passes the checks
    pub checks_say : (checks : List ℕ) (r : Bool) → Sets s (length checks) checks → Union checks set
        → Says ((j : ℕ) → j < length checks → (i : ℕ) → i < n → lane_sum lanes (bit_and (get_or checks j 0) failing) i ≡ 0) r → Says ((i : ℕ) → i < n → Passes s stripe (length checks) checks (at + i)) r
    checks_say checks r sets union =
        says_same ((j : ℕ) → j < length checks → (i : ℕ) → i < n → lane_sum lanes (bit_and (get_or checks j 0) failing) i ≡ 0) ((i : ℕ) → i < n → Passes s stripe (length checks) checks (at + i)) r
        (λ z i l. record { zero = λ j lj. sym (check j lj i l) ∙ z j lj i l }) (λ z j lj i l. check j lj i l ∙ (z i l).zero j lj)
      where
        check : (j : ℕ) → j < length checks → (i : ℕ) → i < n → lane_sum lanes (bit_and (get_or checks j 0) failing) i ≡ summed s (get_or checks j 0) (bytes_at s stripe (at + i))
        check j lj i l = failing_sum (get_or checks j 0) (union.within j lj) i l ∙ totals_sum (get_or checks j 0) (union.within j lj) ((sets.within j lj).below) i l

  pub totals_of : (sets : List ℕ) → Sets s (length sets) sets → Union sets set → LanesOf s stripe (length sets) sets at n lanes
  totals_of sets h' union = record { sum = λ k l i li. totals_sum (get_or sets k 0) (union.within k l) ((h'.within k l).below) i li }

-- the sets of lost cells
pub sets_long : (s : Shape) (lost : List Lost) → Sets s (length lost) (sets_of lost) → Sets s (length (sets_of lost)) (sets_of lost)
sets_long s lost h = subst (λ (n : ℕ). Sets s n (sets_of lost)) (sym (length-map lost (λ x. x.set))) h

pub lanes_long : (s : Shape) (stripe : List ℕ) (lost : List Lost) (at n : ℕ) (lanes : List ℕ) → LanesOf s stripe (length (sets_of lost)) (sets_of lost) at n lanes
    → LanesOf s stripe (length lost) (sets_of lost) at n lanes
lanes_long s stripe lost at n lanes h = subst (λ (u : ℕ). LanesOf s stripe u (sets_of lost) at n lanes) (length-map lost (λ x. x.set)) h

-- a lost cell exists
module _ (s : Shape) (lost : List Lost) (h : CellsIn s (length lost) (cells_of lost)) (k : ℕ) (l : k < length lost) where
  pub cell_inside : (get_or lost k (record { cell = 0; set = 0 })).cell < cells s
  cell_inside = subst (λ (c : ℕ). c < cells s) (cell_at lost k) (h.inside k l)

  pub cell_exists : cell_there s (get_or lost k (record { cell = 0; set = 0 })).cell ≡ true
  cell_exists = subst (λ (c : ℕ). cell_there s c ≡ true) (cell_at lost k) (h.there k l)

-- the union of sets of equations
pub within_union : (s : Shape) (sets : List ℕ) (set : ℕ) → Sets s (length sets) sets → Union sets set → Within (equations s) set
within_union s sets set h union = record { below = λ r p. let found = union.made r p in (h.within found.0 found.1).below r found.2 }

-- ---- what holds of all numbers below v, one after the other

module _ (P : ℕ → Type 0) where
  pub all_more : (j : ℕ) → ((k : ℕ) → k < j → P k) → P j → (k : ℕ) → k < j + 1 → P k
  all_more j before here k l = by_equal k j (λ e. subst P (sym e) here) (λ e. before k (omega arith))

  pub says_not : (v j : ℕ) (r : Bool) → j < v → Says (P j) r → r ≡ false → Says ((k : ℕ) → k < v → P k) false
  says_not v j r l h e = record { yes = λ z. clash z refl; no = λ z all. h.no e (all j l) }

  pub says_all : (v j : ℕ) → v ≤ j → ((k : ℕ) → k < j → P k) → Says ((k : ℕ) → k < v → P k) true
  says_all v j l h = record { yes = λ z k lk. h k (omega arith); no = λ z all. clash refl z }

-- ---- the checks, lane by lane

module _ (s : Shape) (stripe : List ℕ) (v : ℕ) (checks : List ℕ) (at : ℕ) where
  -- of n bytes from `at` on the first `done` pass
  abbrev pub PassesTo : ℕ → ℕ → Type 0
  PassesTo n done = (i : ℕ) → i < done → i < n → Passes s stripe v checks (at + i)

  pub passes_more : (n done next m : ℕ) → next ≤ done + m → PassesTo n done → ((i : ℕ) → i < m → Passes s stripe v checks (at + done + i)) → PassesTo n next
  passes_more n done next m far before here i l ln =
      by_less i done (λ lo. before i lo ln)
      (λ lo. let e : at + done + (i - done) ≡ at + i = omega arith in subst (λ (k : ℕ). Passes s stripe v checks k) e (here (i - done) (omega arith)))

  pub passes_not : (n done m : ℕ) (r : Bool) → done + m ≤ n → Says ((i : ℕ) → i < m → Passes s stripe v checks (at + done + i)) r → r ≡ false → Says ((i : ℕ) → i < n → Passes s stripe v checks (at + i)) false
  passes_not n done m r end h e = record {
    yes = λ z. clash z refl;
    no = λ z all. h.no e (λ i l. subst (λ (k : ℕ). Passes s stripe v checks k) (sym (add_assoc at done i)) (all (done + i) (omega arith)));
  }

  pub passes_all : (n done : ℕ) → n ≤ done → PassesTo n done → Says ((i : ℕ) → i < n → Passes s stripe v checks (at + i)) true
  passes_all n done l h = record { yes = λ z i lt. h i (omega arith) lt; no = λ z all. clash refl z }

  -- without checks there is nothing that fails
  pub passes_none : (n : ℕ) → v ≡ 0 → Says ((i : ℕ) → i < n → Passes s stripe v checks (at + i)) true
  passes_none n none = record { yes = λ z i l. record { zero = λ j lj. absurd (omega arith) }; no = λ z all. clash refl z }

-- a window that is the whole of the cells
pub passes_whole : (w : Window) (s : Shape) (stripe : List ℕ) → IsWhole w s stripe → (v : ℕ) (checks : List ℕ) (r : Bool)
    → Says ((i : ℕ) → i < w.n → Passes w.shape w.stripe.now v checks (w.at + i)) r → Says ((t : ℕ) → t < s.cell → Passes s stripe v checks t) r
passes_whole w s stripe h v checks r says =
    says_same ((i : ℕ) → i < s.cell → Passes s stripe v checks (0 + i)) ((t : ℕ) → t < s.cell → Passes s stripe v checks t) r
    (λ z t l. subst (λ (k : ℕ). Passes s stripe v checks k) (zero-add t) (z t l)) (λ z i l. subst (λ (k : ℕ). Passes s stripe v checks k) (sym (zero-add i)) (z i l))
    (of_whole w s stripe h (λ z b a n. Says ((i : ℕ) → i < n → Passes z b v checks (a + i)) r) says)

-- ---- the lost cells mended

module _ (s : Shape) (w : WellFormed s) (list sets : List ℕ) where
  -- equal values are mended alike
  summed_same : (m : ℕ) (f g : ℕ → ℕ) → ((c : ℕ) → c < cells s → f c ≡ g c) → summed s m f ≡ summed s m g
  unfolding summed
  summed_same m f g e =
      xors_same (equations s) (λ r. cond (bit r m) (total s r f) 0) (λ r. cond (bit r m) (total s r g) 0)
      (λ r l. ap (λ (x : ℕ). cond (bit r m) x 0) (total_same s r w l f g e))

  mended_same : (k : ℕ) (f g : ℕ → ℕ) → ((c : ℕ) → c < cells s → f c ≡ g c) → (c : ℕ) → c < cells s → mended s list sets k f c ≡ mended s list sets k g c
  unfolding mended
  mended_same k f g e c l =
      ap₂ ◌⊕◌ (e c l)
      (xors_same k (λ j. cond (eqb (get_or list j 0) c) (summed s (get_or sets j 0) f) 0) (λ j. cond (eqb (get_or list j 0) c) (summed s (get_or sets j 0) g) 0)
      (λ j lj. ap (λ (x : ℕ). cond (eqb (get_or list j 0) c) x 0) (summed_same (get_or sets j 0) f g e)))

  mended_none : (f : ℕ → ℕ) (c : ℕ) → mended s list sets 0 f c ≡ f c
  unfolding mended
  mended_none f c = ap (λ (x : ℕ). f c ⊕ x) (xors_none (λ j. cond (eqb (get_or list j 0) c) (summed s (get_or sets j 0) f) 0)) ∙ ⊕_zero (f c)

  mended_more : (k : ℕ) (f : ℕ → ℕ) (c : ℕ) → mended s list sets (k + 1) f c ≡ mended s list sets k f c ⊕ cond (eqb (get_or list k 0) c) (summed s (get_or sets k 0) f) 0
  unfolding mended
  mended_more k f c =
      ap (λ (x : ℕ). f c ⊕ x) (xors_more k (λ j. cond (eqb (get_or list j 0) c) (summed s (get_or sets j 0) f) 0))
      ∙ sym (⊕_assoc (f c) (xors k (λ j. cond (eqb (get_or list j 0) c) (summed s (get_or sets j 0) f) 0)) (cond (eqb (get_or list k 0) c) (summed s (get_or sets k 0) f) 0))

  -- byte t is one of those from `from` to `to`, or not
  in_range : (from to t : ℕ) → from ≤ t → t < to → (leb from t && ltb t to) ≡ true
  in_range from to t lo hi = ap₂ ◌&&◌ (le-leb from t lo) (lt-ltb t to hi)

  before_range : (from to t : ℕ) → t < from → (leb from t && ltb t to) ≡ false
  before_range from to t l = ap (λ (b : Bool). b && ltb t to) (lt-leb from t l)

  after_range : (from to t : ℕ) → to ≤ t → (leb from t && ltb t to) ≡ false
  after_range from to t l = ap (◌&&◌ (leb from t)) (le-ltb t to l) ∙ and-false (leb from t)

  -- no lost cell is mended yet
  pub filled_none : (from to : ℕ) (old : List ℕ) → Filled s list sets 0 from to old old
  filled_none from to old = record {
    long = refl;
    byte = λ c l t lt. by_test (leb from t && ltb t to) (λ p. sym (rw p (mended_none (bytes_at s old t) c))) (λ p. sym (rw p refl));
  }

  -- one lost cell more, in the bytes of one lane
  module _ (k at n : ℕ) (old mid new lanes : List ℕ) (h : Filled s list sets k at (at + n) old mid) (ends : at + n ≤ s.cell)
      (sum : (i : ℕ) → i < n → lane_sum lanes (get_or sets k 0) i ≡ summed s (get_or sets k 0) (bytes_at s old (at + i)))
      (exists : cell_there s (get_or list k 0) ≡ true) (put : Put mid (place s (get_or list k 0) + at) n (λ i. get_or mid (place s (get_or list k 0) + at + i) 0 ⊕ lane_sum lanes (get_or sets k 0) i) new) where
    abbrev own : ℕ
    own = get_or list k 0

    -- bytes that are not in the run
    unput : (c : ℕ) → c < cells s → (t : ℕ) → t < s.cell → (c ≡ own → at ≤ t → t < at + n → ⊥) → byte_at s new c t ≡ byte_at s mid c t
    unput c lc t lt off =
        byte_same s w new mid c t (λ here. put.outer (place s c + t)
        (by_equal c own
        (λ e. let same : place s c ≡ place s own = ap (place s) e in
        by_less t at (λ lo. inl (omega (arith, same))) (λ lo. by_less t (at + n) (λ hi. absurd (off e lo hi)) (λ hi. inr (omega (arith, same)))))
        (λ e. ⊎_elim (λ z. inl (omega arith)) (λ z. inr (omega arith)) (place_apart s w c own here exists e))))

    -- a byte of the lost cell
    put_at : (t : ℕ) → at ≤ t → t < at + n → byte_at s new own t ≡ byte_at s mid own t ⊕ summed s (get_or sets k 0) (bytes_at s old t)
    put_at t lo hi =
        let there : place s own + at + (t - at) ≡ place s own + t = omega arith in
        let whole : at + (t - at) ≡ t = omega arith in
        byte_there s w new own t exists ∙ ap (λ (i : ℕ). get_or new i 0) (sym there) ∙ put.inner (t - at) (omega arith)
        ∙ ap₂ ◌⊕◌ (ap (λ (i : ℕ). get_or mid i 0) there ∙ sym (byte_there s w mid own t exists)) (sum (t - at) (omega arith) ∙ ap (λ (i : ℕ). summed s (get_or sets k 0) (bytes_at s old i)) whole)

    out_of : (c : ℕ) → c < cells s → (t : ℕ) → t < s.cell → (leb at t && ltb t (at + n)) ≡ false → (at ≤ t → t < at + n → ⊥)
        → byte_at s new c t ≡ cond (leb at t && ltb t (at + n)) (mended s list sets (k + 1) (bytes_at s old t) c) (byte_at s old c t)
    out_of c l t lt p off = unput c l t lt (λ e. off) ∙ h.byte c l t lt ∙ rw p refl

    filled_more : Filled s list sets (k + 1) at (at + n) old new
    filled_more = record {
      long = put.long ∙ h.long;
      byte = λ c l t lt.
          by_less t at (λ lo. out_of c l t lt (before_range at (at + n) t lo) (λ z. absurd (omega arith)))
          (λ lo. by_less t (at + n)
          (λ hi. let mid-is : byte_at s mid c t ≡ mended s list sets k (bytes_at s old t) c = h.byte c l t lt ∙ ap (λ (b : Bool). cond b (mended s list sets k (bytes_at s old t) c) (byte_at s old c t)) (in_range at (at + n) t lo hi) in
          let now-is : byte_at s new c t ≡ mended s list sets (k + 1) (bytes_at s old t) c =
          by_equal own c
          (λ e. ap (λ (d : ℕ). byte_at s new d t) (sym e) ∙ put_at t lo hi ∙ ap (λ (d : ℕ). byte_at s mid d t ⊕ summed s (get_or sets k 0) (bytes_at s old t)) e
          ∙ ap₂ ◌⊕◌ mid-is (sym (ap (λ (b : Bool). cond b (summed s (get_or sets k 0) (bytes_at s old t)) 0) (eq-eqb own c e))) ∙ sym (mended_more k (bytes_at s old t) c))
          (λ e. unput c l t lt (λ z. absurd (e (sym z))) ∙ mid-is ∙ sym (⊕_zero (mended s list sets k (bytes_at s old t) c))
          ∙ ap (λ (x : ℕ). mended s list sets k (bytes_at s old t) c ⊕ x) (sym (ap (λ (b : Bool). cond b (summed s (get_or sets k 0) (bytes_at s old t)) 0) (ne_eqb own c e)))
          ∙ sym (mended_more k (bytes_at s old t) c)) in
          now-is ∙ sym (ap (λ (b : Bool). cond b (mended s list sets (k + 1) (bytes_at s old t) c) (byte_at s old c t)) (in_range at (at + n) t lo hi)))
          (λ hi. out_of c l t lt (after_range at (at + n) t hi) (λ z y. absurd (omega arith))));
    }

  -- the same with the place as the code has it
  pub filled_at : (k at n : ℕ) (old mid new lanes : List ℕ) → Filled s list sets k at (at + n) old mid → at + n ≤ s.cell
      → ((i : ℕ) → i < n → lane_sum lanes (get_or sets k 0) i ≡ summed s (get_or sets k 0) (bytes_at s old (at + i))) → cell_there s (get_or list k 0) ≡ true → (to : ℕ) → to ≡ place s (get_or list k 0)
      → Put mid (to + at) n (λ i. get_or mid (to + at + i) 0 ⊕ lane_sum lanes (get_or sets k 0) i) new → Filled s list sets (k + 1) at (at + n) old new
  filled_at k at n old mid new lanes h ends sum exists to is put =
      filled_more k at n old mid new lanes h ends sum exists (subst (λ (x : ℕ). Put mid (x + at) n (λ i. get_or mid (x + at + i) 0 ⊕ lane_sum lanes (get_or sets k 0) i) new) is put)

  pub filled_end : (k u from to : ℕ) (old new : List ℕ) → k ≡ u → Filled s list sets k from to old new → Filled s list sets u from to old new
  filled_end k u from to old new e h = subst (λ (n : ℕ). Filled s list sets n from to old new) e h

  -- one lane more
  pub filled_lane : (u at n : ℕ) (old mid new : List ℕ) → Filled s list sets u 0 at old mid → Filled s list sets u at (at + n) mid new → Filled s list sets u 0 (at + n) old new
  filled_lane u at n old mid new h b = record {
    long = b.long ∙ h.long;
    byte = λ c l t lt.
        by_less t at
        (λ lo. b.byte c l t lt ∙ ap (λ (z : Bool). cond z (mended s list sets u (bytes_at s mid t) c) (byte_at s mid c t)) (before_range at (at + n) t lo) ∙ h.byte c l t lt
        ∙ ap (λ (z : Bool). cond z (mended s list sets u (bytes_at s old t) c) (byte_at s old c t)) (in_range 0 at t (omega arith) lo)
        ∙ sym (ap (λ (z : Bool). cond z (mended s list sets u (bytes_at s old t) c) (byte_at s old c t)) (in_range 0 (at + n) t (omega arith) (omega arith))))
        (λ lo. let kept : (d : ℕ) → d < cells s → byte_at s mid d t ≡ byte_at s old d t =
        λ d ld. h.byte d ld t lt ∙ ap (λ (z : Bool). cond z (mended s list sets u (bytes_at s old t) d) (byte_at s old d t)) (after_range 0 at t lo) in
        by_less t (at + n)
        (λ hi. b.byte c l t lt ∙ ap (λ (z : Bool). cond z (mended s list sets u (bytes_at s mid t) c) (byte_at s mid c t)) (in_range at (at + n) t lo hi)
        ∙ mended_same u (bytes_at s mid t) (bytes_at s old t) kept c l
        ∙ sym (ap (λ (z : Bool). cond z (mended s list sets u (bytes_at s old t) c) (byte_at s old c t)) (in_range 0 (at + n) t (omega arith) hi)))
        (λ hi. b.byte c l t lt ∙ ap (λ (z : Bool). cond z (mended s list sets u (bytes_at s mid t) c) (byte_at s mid c t)) (after_range at (at + n) t hi) ∙ kept c l
        ∙ sym (ap (λ (z : Bool). cond z (mended s list sets u (bytes_at s old t) c) (byte_at s old c t)) (after_range 0 (at + n) t hi))));
  }

  -- nothing is mended below byte 0
  pub filled_nowhere : (u : ℕ) (old : List ℕ) → Filled s list sets u 0 0 old old
  filled_nowhere u old = record {
    long = refl;
    byte = λ c l t lt. sym (ap (λ (z : Bool). cond z (mended s list sets u (bytes_at s old t) c) (byte_at s old c t)) (after_range 0 0 t (omega arith)));
  }

  pub filled_to : (u from to next : ℕ) (old new : List ℕ) → to ≡ next → Filled s list sets u from to old new → Filled s list sets u from next old new
  filled_to u from to next old new e h = subst (λ (n : ℕ). Filled s list sets u from n old new) e h

  -- no byte of a cell lies past its end
  pub filled_whole : (u to : ℕ) (old new : List ℕ) → s.cell ≤ to → Filled s list sets u 0 to old new → Filled s list sets u 0 s.cell old new
  filled_whole u to old new past h = record {
    long = h.long;
    byte = λ c l t lt. h.byte c l t lt
        ∙ ap (λ (b : Bool). cond (leb 0 t && b) (mended s list sets u (bytes_at s old t) c) (byte_at s old c t)) (lt-ltb t to (omega arith) ∙ sym (lt-ltb t s.cell lt));
  }

-- ---- what is mended

pub mends_done : (s : Shape) (list sets : List ℕ) (u : ℕ) (checks : List ℕ) (v : ℕ) (old new : List ℕ) (r : Bool) → Says ((t : ℕ) → t < s.cell → Passes s old v checks t) r
    → r ≡ true → Filled s list sets u 0 s.cell old new → Mends s list sets u checks v old r new
mends_done s list sets u checks v old new r says is filled = record { kept = λ no. clash is no; done = λ yes. (says.yes yes, filled) }

pub mends_kept : (s : Shape) (list sets : List ℕ) (u : ℕ) (checks : List ℕ) (v : ℕ) (old : List ℕ) (r : Bool) → Says ((t : ℕ) → t < s.cell → Passes s old v checks t) r
    → r ≡ false → Mends s list sets u checks v old r old
mends_kept s list sets u checks v old r says is = record { kept = λ e. (says.no e, refl); done = λ e. clash e is }
