-- Laws of parts, blocks and runs of bytes: one turn of each loop that adds, stores or gathers them.
use mathlib.Core.Path.{◌≡◌, refl, sym, ap, ap₂, ◌∙◌, subst}
use mathlib.Core.Logic.{◌≢◌, ◌⊎◌, inl, inr, ⊎_elim}
use mathlib.Core.List.{List, [], ◌∷◌}
use mathlib.Core.Bool.{Bool, true, false, cond, not, ◌&&◌}
use Prim.Native.Nat.{ℕ, zero, suc, ◌+◌, ◌-◌, ◌≤◌, ◌<◌}
use native.Mathlib.Nat.{add_assoc, zero-add}
use native.Mathlib.Omega.{arith}
use lib.ListN.{length, get_or, set, take, drop, length-set, length-drop, replicate, get_or-replicate}
use lib.Seq.{get_or-set_same, get_or-set_other, length-take-le, get_or-take, get_or-drop}
use lib.Bits.{bit_xor, bit_or}
use lib.Dec.{eqb}
use Rattle.std.specs.Prelude.{Option, None, Some, is_some, position, ◌==◌}
use Rattle.std.specs.List.{position_or_len}
use Rattle.std.proofs.lemmas.Option.{none-some}
use Rattle.std.proofs.lemmas.List.Quantifiers.{position-Some}
use Rattle.std.proofs.lemmas.List.Sums.{fails_before_first}
use borrow.Author.Tests.{eqb-true, eqb-false, eq-eqb, lt-ltb}
use Rattle.xor.specs.Xor.{◌⊕◌, xors}
use Rattle.xor.specs.Runs.{sum_at, changed_by, added_to, Inside, Apart, Beside, Added, Put, Says, Summed, NonzeroAt}
use Rattle.xor.proofs.Cases.{by_test, by_equal, by_less, clash, and_left, and_right, and_both}
use Rattle.xor.proofs.Algebra.{⊕_is, zero_⊕, ⊕_zero, ⊕_comm, ⊕_assoc, or_none_left, or_none_right}
use Rattle.xor.proofs.Sums.{xors_more, xors_none, xors_same}

-- ---- a part of some bytes: n of them, from byte `at` on

pub part_long : (bytes : List ℕ) (at n : ℕ) → at + n ≤ length bytes → length (take n (drop at bytes)) ≡ n
part_long bytes at n l = length-take-le n (drop at bytes) (omega (arith, length-drop at bytes))

pub part_byte : (bytes : List ℕ) (at n t : ℕ) → t < n → get_or (take n (drop at bytes)) t 0 ≡ get_or bytes (at + t) 0
part_byte bytes at n t l = get_or-take n (drop at bytes) t 0 l ∙ get_or-drop at bytes t 0

-- ---- bytes XORed into a block

pub added_none : (sum : List ℕ) (f : ℕ → ℕ) → Added sum 0 f sum
added_none sum f = record { long = refl; inner = λ i l. absurd (omega arith); outer = λ i l. refl }

pub added_more : (sum r : List ℕ) (n x : ℕ) (f : ℕ → ℕ) → n < length r → Added sum n f r → x ≡ f n
    → Added sum (n + 1) f (set r n (bit_xor (get_or r n 0) x))
added_more sum r n x f l h e = record {
  long = length-set r n (bit_xor (get_or r n 0) x) ∙ h.long;
  inner = λ i li. by_equal i n
      (λ q. ap (λ (k : ℕ). get_or (set r n (bit_xor (get_or r n 0) x)) k 0) q ∙ get_or-set_same r n (bit_xor (get_or r n 0) x) 0 l
      ∙ sym (⊕_is (get_or r n 0) x) ∙ ap (λ (y : ℕ). y ⊕ x) (h.outer n (omega arith)) ∙ ap (λ (y : ℕ). get_or sum n 0 ⊕ y) e
      ∙ ap (λ (k : ℕ). get_or sum k 0 ⊕ f k) (sym q))
      (λ q. get_or-set_other r n i (bit_xor (get_or r n 0) x) 0 q ∙ h.inner i (omega arith));
  outer = λ i li. get_or-set_other r n i (bit_xor (get_or r n 0) x) 0 (λ q. omega arith) ∙ h.outer i (omega arith);
}

-- nothing to add, and two additions in one
added_zero : (sum : List ℕ) (n : ℕ) (f : ℕ → ℕ) → ((i : ℕ) → i < n → f i ≡ 0) → Added sum n f sum
added_zero sum n f z = record { long = refl; inner = λ i l. sym (⊕_zero (get_or sum i 0)) ∙ ap (λ (y : ℕ). get_or sum i 0 ⊕ y) (sym (z i l)); outer = λ i l. refl }

added_twice : (sum r r' : List ℕ) (n : ℕ) (f g h : ℕ → ℕ) → Added sum n f r → Added r n g r' → ((i : ℕ) → i < n → f i ⊕ g i ≡ h i) → Added sum n h r'
added_twice sum r r' n f g h a b e = record {
  long = b.long ∙ a.long;
  inner = λ i l. b.inner i l ∙ ap (λ (y : ℕ). y ⊕ g i) (a.inner i l) ∙ ⊕_assoc (get_or sum i 0) (f i) (g i) ∙ ap (λ (y : ℕ). get_or sum i 0 ⊕ y) (e i l);
  outer = λ i l. b.outer i l ∙ a.outer i l;
}

-- ---- runs XORed into a block, one after the other

-- the XOR of the bytes t past the first k places
abbrev pub sum_to : List ℕ → List ℕ → ℕ → ℕ → ℕ
sum_to s places k t = xors k (λ j. get_or s (get_or places j 0 + t) 0)

pub runs_none : (s places sum : List ℕ) (n at : ℕ) → Added sum n (λ i. sum_to s places 0 (at + i)) sum
runs_none s places sum n at = added_zero sum n (λ i. sum_to s places 0 (at + i)) (λ i l. xors_none (λ j. get_or s (get_or places j 0 + (at + i)) 0))

pub runs_more : (s places sum r r' : List ℕ) (n at k : ℕ) → Added sum n (λ i. sum_to s places k (at + i)) r
    → Added r n (λ i. get_or s (get_or places k 0 + at + i) 0) r' → Added sum n (λ i. sum_to s places (k + 1) (at + i)) r'
runs_more s places sum r r' n at k h b =
    added_twice sum r r' n (λ i. sum_to s places k (at + i)) (λ i. get_or s (get_or places k 0 + at + i) 0) (λ i. sum_to s places (k + 1) (at + i)) h b
    (λ i l. ap (λ (x : ℕ). sum_to s places k (at + i) ⊕ get_or s x 0) (add_assoc (get_or places k 0) at i) ∙ sym (xors_more k (λ j. get_or s (get_or places j 0 + (at + i)) 0)))

pub runs_all : (s places sum r : List ℕ) (n at k : ℕ) → k ≡ length places → Added sum n (λ i. sum_to s places k (at + i)) r → Added sum n (λ i. sum_at s places (at + i)) r
unfolding sum_at
runs_all s places sum r n at k e h = subst (λ (m : ℕ). Added sum n (λ i. sum_to s places m (at + i)) r) e h

-- the first n of an array of places, lent on
module _ (places : List ℕ) (n : ℕ) (few : n ≤ length places) where
  pub first_long : length (take n places) ≡ n
  first_long = length-take-le n places few

  pub first_at : (k : ℕ) → k < length (take n places) → get_or (take n places) k 0 ≡ get_or places k 0
  first_at k l = get_or-take n places k 0 (omega (arith, first_long))

  pub first_inside : (long m : ℕ) → ((k : ℕ) → k < n → get_or places k 0 + m ≤ long) → Inside long (take n places) m
  first_inside long m h = record { ends = λ k l. omega (arith, first_at k l, h k (omega (arith, first_long))) }

  pub first_sum : (s : List ℕ) (t : ℕ) → sum_at s (take n places) t ≡ sum_to s places n t
  unfolding sum_at
  first_sum s t =
      xors_same (length (take n places)) (λ k. get_or s (get_or (take n places) k 0 + t) 0) (λ k. get_or s (get_or places k 0 + t) 0) (λ k l. ap (λ (x : ℕ). get_or s (x + t) 0) (first_at k l))
      ∙ ap (λ (m : ℕ). sum_to s places m t) first_long

-- the run at the last place, and then those at the others
pub runs_last : (s places sum r r' : List ℕ) (n at k : ℕ) → k + 1 ≡ length places → Added sum n (λ i. get_or s (get_or places k 0 + at + i) 0) r
    → Added r n (λ i. sum_at s (take k places) (at + i)) r' → Added sum n (λ i. sum_at s places (at + i)) r'
unfolding sum_at
runs_last s places sum r r' n at k e h b =
    added_twice sum r r' n (λ i. get_or s (get_or places k 0 + at + i) 0) (λ i. sum_at s (take k places) (at + i)) (λ i. sum_at s places (at + i)) h b
    (λ i l. ⊕_comm (get_or s (get_or places k 0 + at + i) 0) (sum_at s (take k places) (at + i))
    ∙ ap₂ ◌⊕◌ (first_sum places k (omega arith) s (at + i)) (ap (λ (x : ℕ). get_or s x 0) (add_assoc (get_or places k 0) at i))
    ∙ sym (xors_more k (λ j. get_or s (get_or places j 0 + (at + i)) 0)) ∙ ap (λ (m : ℕ). sum_to s places m (at + i)) e)

-- the run at one place alone
module _ (bytes : List ℕ) (place : ℕ) where
  pub one_inside : (n : ℕ) → place + n ≤ length bytes → Inside (length bytes) (place ∷ []) n
  one_inside n l = record { ends = λ k lk. at_first k lk }
    where
      at_first : (k : ℕ) → k < 1 → get_or (place ∷ []) k 0 + n ≤ length bytes
      at_first zero lk = l
      at_first (suc k) lk = absurd (omega arith)

  pub one_sum : (t : ℕ) → sum_at bytes (place ∷ []) t ≡ get_or bytes (place + t) 0
  unfolding sum_at xors
  one_sum t = zero_⊕ (get_or bytes (place + t) 0)

pub one_first : (bytes : List ℕ) (t : ℕ) → sum_at bytes (0 ∷ []) t ≡ get_or bytes t 0
one_first bytes t = one_sum bytes 0 t ∙ ap (λ (i : ℕ). get_or bytes i 0) (zero-add t)

-- one byte alone of the XOR of the runs

pub byte_more : (s places : List ℕ) (k t sum : ℕ) → sum ≡ sum_to s places k t → bit_xor sum (get_or s (get_or places k 0 + t) 0) ≡ sum_to s places (k + 1) t
byte_more s places k t sum e =
    sym (⊕_is sum (get_or s (get_or places k 0 + t) 0)) ∙ ap (λ (x : ℕ). x ⊕ get_or s (get_or places k 0 + t) 0) e ∙ sym (xors_more k (λ j. get_or s (get_or places j 0 + t) 0))

pub byte_all : (s places : List ℕ) (k t sum : ℕ) → k ≡ length places → sum ≡ sum_to s places k t → sum ≡ sum_at s places t
unfolding sum_at
byte_all s places k t sum e h = h ∙ ap (λ (m : ℕ). sum_to s places m t) e

-- ---- bits gathered from bytes

-- r has a bit set exactly where one of the first n numbers has
pub record Gathered (n : ℕ) (f : ℕ → ℕ) (r : ℕ) : Type 0 where
  pub all : r ≡ 0 → (i : ℕ) → i < n → f i ≡ 0
  pub none : ((i : ℕ) → i < n → f i ≡ 0) → r ≡ 0

pub gathered_none : (f : ℕ → ℕ) → Gathered 0 f 0
gathered_none f = record { all = λ z i l. absurd (omega arith); none = λ all. refl }

pub gathered_more : (r n x : ℕ) (f : ℕ → ℕ) → Gathered n f r → x ≡ f n → Gathered (n + 1) f (bit_or r x)
gathered_more r n x f h e = record {
  all = λ z i l. by_equal i n (λ q. ap f q ∙ sym e ∙ or_none_right r x z) (λ q. h.all (or_none_left r x z) i (omega arith));
  none = λ all. ap₂ bit_or (h.none (λ i l. all i (omega arith))) (e ∙ all n (omega arith));
}

pub gathered_says : (m n r : ℕ) (f : ℕ → ℕ) → Gathered m f r → m ≡ n → Says ((i : ℕ) → i < n → f i ≡ 0) (eqb r 0)
gathered_says m n r f h same = record {
  yes = λ e i l. h.all (eqb-true r 0 e) i (omega arith);
  no = λ e all. eqb-false r 0 e (h.none (λ i l. all i (omega arith)));
}

-- ---- answers about runs

-- the same fact in other words
pub says_same : (A B : Type 0) (r : Bool) → (A → B) → (B → A) → Says A r → Says B r
says_same A B r there back h = record { yes = λ e. there (h.yes e); no = λ e b. h.no e (back b) }

-- equal numbers are zero together
pub says_zero : (n : ℕ) (f g : ℕ → ℕ) (r : Bool) → ((t : ℕ) → t < n → f t ≡ g t) → Says ((t : ℕ) → t < n → f t ≡ 0) r → Says ((t : ℕ) → t < n → g t ≡ 0) r
says_zero n f g r e =
    says_same ((t : ℕ) → t < n → f t ≡ 0) ((t : ℕ) → t < n → g t ≡ 0) r (λ z t l. sym (e t l) ∙ z t l) (λ z t l. e t l ∙ z t l)

-- a block `next` bytes on from byte `at`
pub zero_on : (f : ℕ → ℕ) (at next n : ℕ) (r : Bool) → Says ((t : ℕ) → t < n → f (at + next + t) ≡ 0) r → Says ((t : ℕ) → t < n → f (at + (next + t)) ≡ 0) r
zero_on f at next n r = says_zero n (λ t. f (at + next + t)) (λ t. f (at + (next + t))) r (λ t l. ap f (add_assoc at next t))

module _ (f : ℕ → ℕ) where
  -- f is zero below n, or for n numbers from `at` on
  abbrev pub Zero : ℕ → Type 0
  Zero n = (t : ℕ) → t < n → f t ≡ 0

  abbrev ZeroFrom : ℕ → ℕ → Type 0
  ZeroFrom at n = (t : ℕ) → t < n → f (at + t) ≡ 0

  -- a block from `at` on up to `end`, where f is zero up to `done`
  pub zero_more : (at m done end : ℕ) → at ≤ done → at + m ≡ end → Zero done → ZeroFrom at m → Zero end
  zero_more at m done end lo e before here t l =
      by_less t at (λ w. before t (omega arith)) (λ w. let same : at + (t - at) ≡ t = omega arith in ap f (sym same) ∙ here (t - at) (omega arith))

  -- a block that is not zero, or no such block
  pub zero_not : (n at m : ℕ) (r : Bool) → at + m ≤ n → Says (ZeroFrom at m) r → r ≡ false → Says (Zero n) false
  zero_not n at m r end h e = record { yes = λ z. clash z refl; no = λ z all. h.no e (λ t l. all (at + t) (omega arith)) }

  pub zero_all : (n : ℕ) → Zero n → Says (Zero n) true
  zero_all n h = record { yes = λ z. h; no = λ z all. clash refl z }

  -- what is said up to `done` and what is said of a block, together
  says_more : (at m done : ℕ) (was now : Bool) → at ≤ done → done ≤ at + m → Says (Zero done) was → Says (ZeroFrom at m) now → Says (Zero (at + m)) (was && now)
  says_more at m done was now lo hi before here = record {
    yes = λ e. zero_more at m done (at + m) lo refl (before.yes (and_left was now e)) (here.yes (and_right was now e));
    no = λ e all. clash (and_both (said was (λ p. before.no p (λ t l. all t (omega arith)))) (said now (λ p. here.no p (λ t l. all (at + t) (omega arith))))) e;
  }
    where
      said : (b : Bool) → (b ≡ false → ⊥) → b ≡ true
      said b h = by_test b (λ p. p) (λ p. absurd (h p))

  pub zero_next : (n : ℕ) → Zero n → f n ≡ 0 → Zero (n + 1)
  zero_next n before here t l = by_equal t n (λ e. ap f e ∙ here) (λ e. before t (omega arith))

  -- ---- a number that is not zero

  -- none that is not zero, or one
  pub nonzero_says : (n : ℕ) (found : Option ℕ) (r : Bool) → is_some found ≡ not r → NonzeroAt f n found → Says (Zero n) r
  nonzero_says n None true e h = zero_all n h
  nonzero_says n None false e h = clash e refl
  nonzero_says n (Some i) true e h = clash refl e
  nonzero_says n (Some i) false e h = record { yes = λ z. clash z refl; no = λ z all. h.1 (all i h.0) }

  -- the first that is not zero of some bytes, which are those of f
  nonzero_first : (bytes : List ℕ) → ((t : ℕ) → t < length bytes → get_or bytes t 0 ≡ f t) → NonzeroAt f (length bytes) (position (λ byte. not (byte == 0)) bytes)
  nonzero_first bytes same = by_option (position other bytes) refl
    where
      other : ℕ → Bool
      other byte = not (byte == 0)

      zero : (t : ℕ) → other (get_or bytes t 0) ≡ false → get_or bytes t 0 ≡ 0
      zero t h = by_test (get_or bytes t 0 == 0) (λ p. eqb-true (get_or bytes t 0) 0 p) (λ p. clash (ap not p) h)

      all : position other bytes ≡ None → length bytes ≤ position_or_len other bytes
      all e = by_less (position_or_len other bytes) (length bytes)
          (λ l. absurd (none-some _ (sym e ∙ ap (λ (b : Bool). cond b (Some (position_or_len other bytes)) None) (lt-ltb (position_or_len other bytes) (length bytes) l)))) (λ l. l)

      by_option : (r : Option ℕ) → position other bytes ≡ r → NonzeroAt f (length bytes) r
      by_option None e = λ t l. sym (same t l) ∙ zero t (fails_before_first other bytes t 0 (omega (arith, all e)))
      by_option (Some i) e =
          let found = position-Some other bytes i 0 e in
          (found.0, λ z. clash (found.1) (ap not (eq-eqb (get_or bytes i 0) 0 (same i (found.0) ∙ z))))

  -- the same of n bytes of a block
  pub nonzero_found : (block : List ℕ) (n : ℕ) → n ≤ length block → ((t : ℕ) → t < n → get_or block t 0 ≡ f t) → NonzeroAt f n (position (λ byte. not (byte == 0)) (take n block))
  nonzero_found block n few same =
      subst (λ (k : ℕ). NonzeroAt f k (position (λ byte. not (byte == 0)) (take n block))) (first_long block n few)
      (nonzero_first (take n block) (λ t l. first_at block n few t l ∙ same t (omega (arith, first_long block n few))))

-- equal numbers are zero in the same places
pub nonzero_same : (n : ℕ) (r : Option ℕ) (f g : ℕ → ℕ) → ((t : ℕ) → t < n → f t ≡ g t) → NonzeroAt f n r → NonzeroAt g n r
nonzero_same n None f g e h = λ t l. sym (e t l) ∙ h t l
nonzero_same n (Some i) f g e h = (h.0, λ z. h.1 (e i h.0 ∙ z))

pub nonzero_on : (f : ℕ → ℕ) (at next n : ℕ) (r : Option ℕ) → NonzeroAt (λ t. f (at + next + t)) n r → NonzeroAt (λ t. f (at + (next + t))) n r
nonzero_on f at next n r = nonzero_same n r (λ t. f (at + next + t)) (λ t. f (at + (next + t))) (λ t l. ap f (add_assoc at next t))

-- ---- bytes stored in a run

pub put_more : (s s' : List ℕ) (to n x : ℕ) (f : ℕ → ℕ) → to + n < length s' → Put s to n f s' → x ≡ f n → Put s to (n + 1) f (set s' (to + n) x)
put_more s s' to n x f l h e = record {
  long = length-set s' (to + n) x ∙ h.long;
  inner = λ t lt. by_equal t n
      (λ q. ap (λ (k : ℕ). get_or (set s' (to + n) x) (to + k) 0) q ∙ get_or-set_same s' (to + n) x 0 l ∙ e ∙ ap f (sym q))
      (λ q. get_or-set_other s' (to + n) (to + t) x 0 (λ z. q (omega arith)) ∙ h.inner t (omega arith));
  outer = λ i side. get_or-set_other s' (to + n) i x 0 (off i side) ∙ h.outer i (less i side);
}
  where
    off : (i : ℕ) → (i < to) ⊎ (to + (n + 1) ≤ i) → i ≢ to + n
    off i side z = ⊎_elim (λ w. omega arith) (λ w. omega arith) side

    less : (i : ℕ) → (i < to) ⊎ (to + (n + 1) ≤ i) → (i < to) ⊎ (to + n ≤ i)
    less i side = ⊎_elim (λ w. inl w) (λ w. inr (omega arith)) side

-- runs apart from the run at `to` have their old bytes when some of it are stored, from `at` on
sum_apart : (s s' places : List ℕ) (to at d n t : ℕ) (f : ℕ → ℕ) → Put s (to + at) d f s' → Apart places to (at + n) → d ≤ n → t < n
    → sum_at s' places (at + t) ≡ sum_at s places (at + t)
unfolding sum_at
sum_apart s s' places to at d n t f h a ld lt =
    xors_same (length places) (λ k. get_or s' (get_or places k 0 + (at + t)) 0) (λ k. get_or s (get_or places k 0 + (at + t)) 0)
    (λ k l. h.outer (get_or places k 0 + (at + t)) (⊎_elim (λ w. inl (omega arith)) (λ w. inr (omega arith)) (a.side k l)))

-- bytes stored from `at` on, where the run was stored up to `done`
pub put_over : (s₀ s s' : List ℕ) (to at m done : ℕ) (f g : ℕ → ℕ) → Put s₀ to done f s → Put s (to + at) m g s' → ((t : ℕ) → t < m → g t ≡ f (at + t))
    → at ≤ done → done ≤ at + m → Put s₀ to (at + m) f s'
put_over s₀ s s' to at m done f g h b same lo hi = record {
  long = b.long ∙ h.long;
  inner = λ t l. by_less t at (λ w. b.outer (to + t) (inl (omega arith)) ∙ h.inner t (omega arith)) (λ w. stored t w l);
  outer = λ i side. b.outer i (⊎_elim (λ w. inl (omega arith)) (λ w. inr (omega arith)) side) ∙ h.outer i (⊎_elim (λ w. inl w) (λ w. inr (omega arith)) side);
}
  where
    stored : (t : ℕ) → at ≤ t → t < at + m → get_or s' (to + t) 0 ≡ f t
    stored t lo' hi' =
        let place : to + at + (t - at) ≡ to + t = omega arith in
        let whole : at + (t - at) ≡ t = omega arith in
        ap (λ (i : ℕ). get_or s' i 0) (sym place) ∙ b.inner (t - at) (omega arith) ∙ same (t - at) (omega arith) ∙ ap f whole

-- a block whose bytes are those of another
pub put_same : (s s' : List ℕ) (to n : ℕ) (f g : ℕ → ℕ) → Put s to n f s' → ((t : ℕ) → t < n → f t ≡ g t) → Put s to n g s'
put_same s s' to n f g h e = record { long = h.long; inner = λ t l. h.inner t l ∙ e t l; outer = h.outer }

-- ---- a run summed block by block, and whether it is zero so far

-- what is said of the bytes that were stored
pub summed_says : (s s' : List ℕ) (to n : ℕ) (f : ℕ → ℕ) (r : Bool) → Summed s to n f s' r → Says ((t : ℕ) → t < n → f t ≡ 0) r
summed_says s s' to n f r h = says_zero n (λ t. get_or s' (to + t) 0) f r (λ t l. h.put.inner t l) h.zero

pub summed_as : (s s' : List ℕ) (to n : ℕ) (f : ℕ → ℕ) (r : Bool) → Put s to n f s' → Says ((t : ℕ) → t < n → f t ≡ 0) r → Summed s to n f s' r
summed_as s s' to n f r put says = record { put = put; zero = says_zero n f (λ t. get_or s' (to + t) 0) r (λ t l. sym (put.inner t l)) says }

-- a run whose bytes are those of another
pub summed_same : (s s' : List ℕ) (to n : ℕ) (f g : ℕ → ℕ) (r : Bool) → Summed s to n f s' r → ((t : ℕ) → t < n → f t ≡ g t) → Summed s to n g s' r
summed_same s s' to n f g r h e = record { put = put_same s s' to n f g h.put e; zero = h.zero }

-- a block from `at` on up to `end`, where the run was summed up to `done`
summed_over : (s₀ s s' : List ℕ) (to at m done end : ℕ) (f g : ℕ → ℕ) (was now : Bool) → Summed s₀ to done f s was → Summed s (to + at) m g s' now → ((t : ℕ) → t < m → g t ≡ f (at + t))
    → at ≤ done → done ≤ end → at + m ≡ end → Summed s₀ to end f s' (was && now)
summed_over s₀ s s' to at m done end f g was now h b same lo hi e =
    subst (λ (k : ℕ). Summed s₀ to k f s' (was && now)) e
    (summed_as s₀ s' to (at + m) f (was && now) (put_over s₀ s s' to at m done f g h.put b.put same lo (omega arith))
    (says_more f at m done was now lo (omega arith) (summed_says s₀ s to done f was h) (says_zero m g (λ t. f (at + t)) now same (summed_says s s' (to + at) m g now b))))

-- a block of a sum: the runs are as they were
pub summed_apart : (s₀ s s' places : List ℕ) (to at n next m done end : ℕ) (was now : Bool)
    → Summed s₀ (to + at) done (λ t. sum_at s₀ places (at + t)) s was → Summed s (to + (at + next)) m (λ t. sum_at s places (at + next + t)) s' now
    → Apart places to (at + n) → next ≤ done → done ≤ end → next + m ≡ end → end ≤ n → Summed s₀ (to + at) end (λ t. sum_at s₀ places (at + t)) s' (was && now)
summed_apart s₀ s s' places to at n next m done end was now h b a lo hi e inside =
    summed_over s₀ s s' (to + at) next m done end (λ t. sum_at s₀ places (at + t)) (λ t. sum_at s places (at + next + t)) was now h
    (subst (λ (k : ℕ). Summed s k m (λ t. sum_at s places (at + next + t)) s' now) (sym (add_assoc to at next)) b)
    (λ t l. ap (sum_at s places) (add_assoc at next t) ∙ sum_apart s₀ s places to at done n (next + t) (λ i. sum_at s₀ places (at + i)) h.put a (omega arith) (omega arith)) lo hi e

-- a block of a sum of another list's runs
pub summed_from : (d₀ d d' s places : List ℕ) (to at next m done end : ℕ) (was now : Bool)
    → Summed d₀ to done (λ t. sum_at s places (at + t)) d was → Summed d (to + next) m (λ t. sum_at s places (at + next + t)) d' now
    → next ≤ done → done ≤ end → next + m ≡ end → Summed d₀ to end (λ t. sum_at s places (at + t)) d' (was && now)
summed_from d₀ d d' s places to at next m done end was now h b =
    summed_over d₀ d d' to next m done end (λ t. sum_at s places (at + t)) (λ t. sum_at s places (at + next + t)) was now h b (λ t l. ap (sum_at s places) (add_assoc at next t))

-- one block more, where x t is XORed into each byte t: bytes not reached yet are as they were
summed_next : (s₀ s s' : List ℕ) (to done m end : ℕ) (x g : ℕ → ℕ) (was now : Bool) → Summed s₀ to done (λ t. get_or s₀ (to + t) 0 ⊕ x t) s was → Summed s (to + done) m g s' now
    → ((t : ℕ) → t < m → g t ≡ get_or s (to + (done + t)) 0 ⊕ x (done + t)) → done + m ≡ end → Summed s₀ to end (λ t. get_or s₀ (to + t) 0 ⊕ x t) s' (was && now)
summed_next s₀ s s' to done m end x g was now h b same e =
    summed_over s₀ s s' to done m done end (λ t. get_or s₀ (to + t) 0 ⊕ x t) g was now h b
    (λ t l. same t l ∙ ap (λ (y : ℕ). y ⊕ x (done + t)) (h.put.outer (to + (done + t)) (inr (omega arith)))) (omega arith) (omega arith) e

-- no runs to XOR in: it is as it was
pub summed_no_runs : (d s places : List ℕ) (to at n : ℕ) (found : Option ℕ) (r : Bool) → length places ≡ 0 → is_some found ≡ not r → NonzeroAt (λ t. sum_at d (to ∷ []) (0 + t)) n found → Summed d to n (added_to d to s places at) d r
unfolding added_to sum_at
summed_no_runs d s places to at n found r none e h = record {
  put = record {
    long = refl;
    inner = λ t l. sym (⊕_zero (get_or d (to + t) 0)) ∙ ap (λ (y : ℕ). get_or d (to + t) 0 ⊕ y) (sym (nothing (λ k. get_or s (get_or places k 0 + (at + t)) 0)));
    outer = λ i side. refl;
  };
  zero = says_zero n (λ t. sum_at d (to ∷ []) (0 + t)) (λ t. get_or d (to + t) 0) r (λ t l. one_sum d to (0 + t) ∙ ap (λ (i : ℕ). get_or d (to + i) 0) (zero-add t))
      (nonzero_says (λ t. sum_at d (to ∷ []) (0 + t)) n found r e h);
}
  where
    nothing : (f : ℕ → ℕ) → xors (length places) f ≡ 0
    nothing f = ap (λ (k : ℕ). xors k f) none ∙ xors_none f

-- a block of a sum XORed into another list
pub summed_added : (d₀ d d' s places : List ℕ) (to at done m end : ℕ) (was now : Bool)
    → Summed d₀ to done (added_to d₀ to s places at) d was → Summed d (to + done) m (added_to d (to + done) s places (at + done)) d' now
    → done + m ≡ end → Summed d₀ to end (added_to d₀ to s places at) d' (was && now)
unfolding added_to
summed_added d₀ d d' s places to at done m end was now h b =
    summed_next d₀ d d' to done m end (λ t. sum_at s places (at + t)) (added_to d (to + done) s places (at + done)) was now h b
    (λ t l. ap₂ (λ (i k : ℕ). get_or d i 0 ⊕ sum_at s places k) (add_assoc to done t) (add_assoc at done t))

-- a block of a difference: the bytes that it is made of are as they were
pub summed_difference : (s₀ s s' new : List ℕ) (to from n at m end : ℕ) (was now : Bool)
    → Summed s₀ to at (changed_by s₀ to from new) s was → Summed s (to + at) m (λ t. changed_by s to from new (at + t)) s' now
    → Beside to from n → at + m ≡ end → end ≤ n → Summed s₀ to end (changed_by s₀ to from new) s' (was && now)
unfolding changed_by
summed_difference s₀ s s' new to from n at m end was now h b side e inside =
    summed_next s₀ s s' to at m end (λ t. get_or s₀ (from + t) 0 ⊕ get_or new t 0) (λ t. changed_by s to from new (at + t)) was now h b
    (λ t l. ap (λ (y : ℕ). get_or s (to + (at + t)) 0 ⊕ (y ⊕ get_or new (at + t) 0))
    (h.put.outer (from + (at + t)) (⊎_elim (λ w. inl (omega arith)) (λ w. inr (omega arith)) side))) e

-- a block that is all zeros before anything is XORed in
pub from_zero : (r : List ℕ) (n : ℕ) (f : ℕ → ℕ) → n ≤ 128 → Added (replicate 128 0) n f r → (t : ℕ) → t < n → get_or r t 0 ≡ f t
from_zero r n f ln h t l = h.inner t l ∙ ap (λ (x : ℕ). x ⊕ f t) (get_or-replicate 128 t 0 0 (omega arith)) ∙ zero_⊕ (f t)

-- two additions from zero
pub added_both : (r₁ r₂ : List ℕ) (n : ℕ) (f g : ℕ → ℕ) → n ≤ 128 → Added (replicate 128 0) n f r₁ → Added r₁ n g r₂ → (t : ℕ) → t < n → get_or r₂ t 0 ≡ f t ⊕ g t
added_both r₁ r₂ n f g ln h₁ h₂ t l = h₂.inner t l ∙ ap (λ (x : ℕ). x ⊕ g t) (from_zero r₁ n f ln h₁ t l)

-- three additions from zero make a byte of a difference
pub difference_block : (s new r₁ r₂ r₃ : List ℕ) (to from at n : ℕ) → n ≤ 128 → Added (replicate 128 0) n (λ i. get_or s (to + at + i) 0) r₁
    → Added r₁ n (λ i. get_or s (from + at + i) 0) r₂ → Added r₂ n (λ i. get_or new (at + i) 0) r₃ → (t : ℕ) → t < n → get_or r₃ t 0 ≡ changed_by s to from new (at + t)
unfolding changed_by
difference_block s new r₁ r₂ r₃ to from at n ln h₁ h₂ h₃ t l =
    h₃.inner t l
    ∙ ap (λ (x : ℕ). x ⊕ get_or new (at + t) 0) (added_both r₁ r₂ n (λ i. get_or s (to + at + i) 0) (λ i. get_or s (from + at + i) 0) ln h₁ h₂ t l)
    ∙ ⊕_assoc (get_or s (to + at + t) 0) (get_or s (from + at + t) 0) (get_or new (at + t) 0)
    ∙ ap₂ (λ (i k : ℕ). get_or s i 0 ⊕ (get_or s k 0 ⊕ get_or new (at + t) 0)) (add_assoc to at t) (add_assoc from at t)

-- shorter runs are inside too
pub shorter : (long long' n m : ℕ) (places : List ℕ) → Inside long places n → long' ≡ long → m ≤ n → Inside long' places m
shorter long long' n m places h e l = record { ends = λ k lk. let ends = h.ends k lk in omega arith }

-- the last byte of the run is stored
pub put_end : (s s' : List ℕ) (to n m : ℕ) (f : ℕ → ℕ) → Put s to m f s' → m ≡ n → Put s to n f s'
put_end s s' to n m f h e = subst (λ (k : ℕ). Put s to k f s') e h

pub summed_end : (s s' : List ℕ) (to n m : ℕ) (f : ℕ → ℕ) (r : Bool) → Summed s to m f s' r → m ≡ n → Summed s to n f s' r
summed_end s s' to n m f r h e = subst (λ (k : ℕ). Summed s to k f s' r) e h
