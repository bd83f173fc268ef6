-- A 1 put alone into a data cell, and the 1s that it makes of parity cells: the unit of a set of equations, in every cell, summed, scaled and counted.
use mathlib.Core.Path.{◌≡◌, refl, sym, ap, ap₂, ◌∙◌}
use mathlib.Core.Logic.{◌≢◌}
use mathlib.Core.Bool.{Bool, true, false, cond, not, ◌&&◌, ◌||◌, xor}
use Prim.Native.Nat.{ℕ, zero, suc, ◌+◌, ◌-◌, ◌^◌, ◌<◌}
use native.Mathlib.Omega.{arith}
use lib.Count.{ones}
use lib.Dec.{eqb}
use borrow.Author.Tests.{eq-eqb, ne_eqb, eqb-true}
use Rattle.xor.specs.Xor.{◌⊕◌, xors}
use Rattle.xor.specs.Sets.{any, count}
use Rattle.xor.proofs.Cases.{by_test, clash, and_left, and_right, and_both, or_left, or_right, either, not_passed, same_test}
use Rattle.xor.proofs.Algebra.{zero_⊕, ⊕_zero, ⊕_self}
use Rattle.xor.proofs.Sums.{xors_same, xors_zero, xors_one, xors_plus, nothing}
use Rattle.xor.proofs.Sets.{any_at, any_some, none_any, count_same, count_insert, count_parts, count_never}
use Rattle.bits.specs.Bit.{bit}
use Rattle.bits.proofs.Bits.{ones_bits}
use Rattle.codes.specs.declared.Shape.{Shape}
use Rattle.codes.specs.Shape.{equations, cells, WellFormed}
use Rattle.codes.specs.Encoded.{parity_cell, sums_cell, sum_over, is_parity, Solves}
use Rattle.codes.specs.Depends.{unit_of, DependOn}
use Rattle.codes.proofs.Shapes.{small_equations}
use Rattle.codes.proofs.Ordered.{ordered}

-- two sets that have no member in common, summed
parted : (a b d : Bool) → (b ≡ true → d ≡ true → ⊥) → cond a (cond (b || d) 1 0) 0 ≡ cond a (cond b 1 0) 0 ⊕ cond a (cond d 1 0) 0
parted false b d apart = sym (zero_⊕ 0)
parted true true true apart = absurd (apart refl refl)
parted true true false apart = sym (⊕_zero 1)
parted true false d apart = sym (zero_⊕ (cond d 1 0))

-- ---- numbers that are named, each once

-- whether k is one of the first n numbers f r whose r passes the test
abbrev among : ℕ → (ℕ → ℕ) → (ℕ → Bool) → ℕ → Bool
among n f t k = any n (λ r. t r && eqb (f r) k)

-- the first n of them are different, and below the size
record Once (size : ℕ) (f : ℕ → ℕ) (n : ℕ) : Type 0 where
  inside : (r : ℕ) → r < n → f r < size
  once : (q r : ℕ) → q < n → r < n → f q ≡ f r → q ≡ r

module _ (size : ℕ) (f : ℕ → ℕ) (t : ℕ → Bool) where
  fewer : (n : ℕ) → Once size f (suc n) → Once size f n
  fewer n h = record { inside = λ r l. h.inside r (omega arith); once = λ q r lq lr. h.once q r (omega arith) (omega arith) }

  -- the last is none of those before it
  new : (n : ℕ) → Once size f (suc n) → among n f t (f n) ≡ false
  new n h = none_any n (λ r. t r && eqb (f r) (f n)) (λ r l. not_passed (λ p. absurd (let same = h.once r n (omega arith) (omega arith) (eqb-true (f r) (f n) (and_right (t r) (eqb (f r) (f n)) p)) in omega arith)))

  xors_among : (n : ℕ) → Once size f n → (e : ℕ → Bool) → xors size (λ k. cond (e k) (cond (among n f t k) 1 0) 0) ≡ xors n (λ r. cond (t r && e (f r)) 1 0)
  unfolding xors any
  xors_among zero h e = xors_zero size (λ k. cond (e k) 0 0) (λ k l. nothing (e k) 0 refl)
  xors_among (suc n) all e =
      xors_same size (λ k. cond (e k) (cond (among n f t k || (t n && eqb (f n) k)) 1 0) 0) (λ k. cond (e k) (cond (among n f t k) 1 0) 0 ⊕ last k) (λ k l. split k)
      ∙ xors_plus size (λ k. cond (e k) (cond (among n f t k) 1 0) 0) last
      ∙ ap₂ ◌⊕◌ (xors_among n (fewer n all) e) (xors_one size last (f n) (all.inside n (omega arith)) (λ k l ne. off k ne) ∙ at)
    where
      last : ℕ → ℕ
      last k = cond (e k) (cond (t n && eqb (f n) k) 1 0) 0

      off : (k : ℕ) → k ≢ f n → last k ≡ 0
      off k ne = nothing (e k) (cond (t n && eqb (f n) k) 1 0) (ap (λ (b : Bool). cond b 1 0) (not_passed (λ p. ne (sym (eqb-true (f n) k (and_right (t n) (eqb (f n) k) p))))))

      at : last (f n) ≡ cond (t n && e (f n)) 1 0
      at = rw (eq-eqb (f n) (f n) refl) (by_test (t n) (λ p. rw p (by_test (e (f n)) (λ q. rw q refl) (λ q. rw q refl))) (λ p. rw p (nothing (e (f n)) 0 refl)))

      split : (k : ℕ) → cond (e k) (cond (among n f t k || (t n && eqb (f n) k)) 1 0) 0 ≡ cond (e k) (cond (among n f t k) 1 0) 0 ⊕ last k
      split k =
          parted (e k) (among n f t k) (t n && eqb (f n) k)
          (λ h g. clash (ap (among n f t) (eqb-true (f n) k (and_right (t n) (eqb (f n) k) g)) ∙ h) (new n all))

  count_among : (n : ℕ) → Once size f n → count size (among n f t) ≡ count n t
  unfolding count any
  count_among zero h = count_never size (among 0 f t) (λ k l. refl)
  count_among (suc n) h =
      by_test (t n)
      (λ p. count_same size (among (suc n) f t) (λ k. eqb k (f n) || among n f t k) (λ k l. turn k p)
      ∙ count_insert size (among n f t) (f n) (h.inside n (omega arith)) (new n h)
      ∙ rw p (omega (arith, count_among n (fewer n h))))
      (λ p. count_same size (among (suc n) f t) (among n f t) (λ k l. rw p (same_test (λ q. either (among n f t k) false q (λ z. z) (λ z. clash z refl)) (or_left false)))
      ∙ rw p (omega (arith, count_among n (fewer n h))))
    where
      turn : (k : ℕ) → t n ≡ true → (among n f t k || (t n && eqb (f n) k)) ≡ (eqb k (f n) || among n f t k)
      turn k p =
          same_test
          (λ q. either (among n f t k) (t n && eqb (f n) k) q (or_right (eqb k (f n))) (λ z. or_left (among n f t k) (eq-eqb k (f n) (sym (eqb-true (f n) k (and_right (t n) (eqb (f n) k) z))))))
          (λ q. either (eqb k (f n)) (among n f t k) q (λ z. or_right (among n f t k) (and_both p (eq-eqb (f n) k (sym (eqb-true k (f n) z))))) (or_left (t n && eqb (f n) k)))

-- ---- sums of 1s, scaled: the same members sum to 1 or 0, and to x or 0

record Scaled (n : ℕ) (b : ℕ → Bool) (x : ℕ) : Type 0 where
  odd : Bool
  as_one : xors n (λ k. cond (b k) 1 0) ≡ cond odd 1 0
  as_x : xors n (λ k. cond (b k) x 0) ≡ cond odd x 0

scaled : (n : ℕ) (b : ℕ → Bool) (x : ℕ) → Scaled n b x
unfolding xors xor
scaled zero b x = record { odd = false; as_one = refl; as_x = refl }
scaled (suc n) b x =
    let h = scaled n b x in
    record { odd = xor h.odd (b n); as_one = ap (λ (y : ℕ). y ⊕ cond (b n) 1 0) h.as_one ∙ add h.odd (b n) 1; as_x = ap (λ (y : ℕ). y ⊕ cond (b n) x 0) h.as_x ∙ add h.odd (b n) x }
  where
    add : (p q : Bool) (y : ℕ) → cond p y 0 ⊕ cond q y 0 ≡ cond (xor p q) y 0
    add true true y = ⊕_self y
    add true false y = ⊕_zero y
    add false true y = zero_⊕ y
    add false false y = zero_⊕ 0

-- ---- the unit of a set m of equations, at a data cell c

-- a data cell is no parity cell
pub not_parity : (s : Shape) (c q : ℕ) → is_parity s c ≡ false → q < equations s → c ≢ parity_cell s q
unfolding is_parity
not_parity s c q plain l e = clash (any_at (equations s) (λ r. eqb (parity_cell s r) c) q l (eq-eqb (parity_cell s q) c (sym e))) plain

module _ (s : Shape) (w : WellFormed s) (c m : ℕ) (plain : is_parity s c ≡ false) where
  -- whether k is the parity cell of an equation in m
  member : ℕ → Bool
  member k = among (equations s) (parity_cell s) (λ q. bit q m) k

  parities : Once (cells s) (parity_cell s) (equations s)
  parities = record { inside = (ordered s w).inside; once = (ordered s w).once }

  member_is : (q : ℕ) → q < equations s → member (parity_cell s q) ≡ bit q m
  unfolding member
  member_is q l =
      same_test
      (λ h. let found = any_some (equations s) (λ r. bit r m && eqb (parity_cell s r) (parity_cell s q)) h in
      ap (λ (r : ℕ). bit r m) (sym ((ordered s w).once found.0 q found.1 l (eqb-true (parity_cell s found.0) (parity_cell s q) (and_right (bit found.0 m) (eqb (parity_cell s found.0) (parity_cell s q)) found.2))))
      ∙ and_left (bit found.0 m) (eqb (parity_cell s found.0) (parity_cell s q)) found.2)
      (λ h. any_at (equations s) (λ r. bit r m && eqb (parity_cell s r) (parity_cell s q)) q l (and_both h (eq-eqb (parity_cell s q) (parity_cell s q) refl)))

  member_parity : (k : ℕ) → member k ≡ true → is_parity s k ≡ true
  unfolding member is_parity
  member_parity k h =
      let found = any_some (equations s) (λ r. bit r m && eqb (parity_cell s r) k) h in
      any_at (equations s) (λ r. eqb (parity_cell s r) k) found.0 found.1 (and_right (bit found.0 m) (eqb (parity_cell s found.0) k) found.2)

  -- what it has in each cell
  pub unit_own : unit_of s c m c ≡ 1
  unfolding unit_of
  unit_own = rw (eq-eqb c c refl) refl

  pub unit_parity : (q : ℕ) → q < equations s → unit_of s c m (parity_cell s q) ≡ cond (bit q m) 1 0
  unfolding unit_of member
  unit_parity q l = ap₂ (λ (a b : Bool). cond (a || b) 1 0) (ne_eqb (parity_cell s q) c (λ e. not_parity s c q plain l (sym e))) (member_is q l)

  pub unit_data : (k : ℕ) → is_parity s k ≡ false → k ≢ c → unit_of s c m k ≡ 0
  unfolding unit_of member
  unit_data k p n = ap₂ (λ (a b : Bool). cond (a || b) 1 0) (ne_eqb k c n) (not_passed (λ h. clash (member_parity k h) p))

  -- the sum over an equation's cells: 1 for the cell itself, and 1 for each parity cell
  pub unit_sum : c < cells s → (q : ℕ) → sum_over s q (unit_of s c m) ≡ cond (sums_cell s q c) 1 0 ⊕ xors (equations s) (λ r. cond (bit r m && sums_cell s q (parity_cell s r)) 1 0)
  unfolding unit_of sum_over member
  unit_sum inside q =
      xors_same (cells s) (λ k. cond (sums_cell s q k) (cond (eqb k c || member k) 1 0) 0) (λ k. own k ⊕ cond (sums_cell s q k) (cond (member k) 1 0) 0) (λ k l. split k)
      ∙ xors_plus (cells s) own (λ k. cond (sums_cell s q k) (cond (member k) 1 0) 0)
      ∙ ap₂ ◌⊕◌
      (xors_one (cells s) own c inside (λ k l n. nothing (sums_cell s q k) (cond (eqb k c) 1 0) (rw (ne_eqb k c n) refl)) ∙ rw (eq-eqb c c refl) refl)
      (xors_among (cells s) (parity_cell s) (λ r. bit r m) (equations s) parities (sums_cell s q))
    where
      own : ℕ → ℕ
      own k = cond (sums_cell s q k) (cond (eqb k c) 1 0) 0

      split : (k : ℕ) → cond (sums_cell s q k) (cond (eqb k c || member k) 1 0) 0 ≡ own k ⊕ cond (sums_cell s q k) (cond (member k) 1 0) 0
      split k = parted (sums_cell s q k) (eqb k c) (member k) (λ e h. clash (member_parity k h) (ap (is_parity s) (eqb-true k c e) ∙ plain))

  -- the parity cells that are not 0 are as many as the members of m
  pub unit_count : count (cells s) (λ k. is_parity s k && not (eqb (unit_of s c m k) 0)) ≡ count (equations s) (λ q. bit q m)
  unfolding unit_of member
  unit_count =
      count_same (cells s) (λ k. is_parity s k && not (eqb (unit_of s c m k) 0)) member (λ k l. by_test (is_parity s k) (here k) (gone k))
      ∙ count_among (cells s) (parity_cell s) (λ q. bit q m) (equations s) parities
    where
      here : (k : ℕ) → is_parity s k ≡ true → (is_parity s k && not (eqb (cond (eqb k c || member k) 1 0) 0)) ≡ member k
      here k p = rw (p, ne_eqb k c (λ e. clash p (ap (is_parity s) e ∙ plain))) (by_test (member k) (λ h. rw h refl) (λ h. rw h refl))

      gone : (k : ℕ) → is_parity s k ≡ false → (is_parity s k && not (eqb (cond (eqb k c || member k) 1 0) 0)) ≡ member k
      gone k p = rw p (sym (not_passed (λ h. clash (member_parity k h) p)))

  -- m is the set of the equations whose parity cells depend on c, if each is in it exactly where it sums an odd number of those 1s
  pub depend : c < cells s → ((q : ℕ) → bit q m ≡ true → q < equations s)
      → ((q : ℕ) → q < equations s → cond (bit q m) 1 0 ≡ cond (sums_cell s q c) 1 0 ⊕ xors (equations s) (λ r. cond (bit r m && sums_cell s q (parity_cell s r)) 1 0))
      → DependOn s c m
  depend inside below h = record { below = below; solves = λ q l. unit_parity q l ∙ h q l ∙ sym (unit_sum inside q) }

  -- how many these are, as the code counts them
  pub depend_count : m < 2 ^ 64 → DependOn s c m → count (cells s) (λ k. is_parity s k && not (eqb (unit_of s c m k) 0)) ≡ ones m
  depend_count small h = unit_count ∙ sym (ones_bits 64 m small ∙ ap (λ (n : ℕ). count n (λ q. bit q m)) whole ∙ count_parts (equations s) (64 - equations s) (λ q. bit q m) ∙ end)
    where
      whole : 64 ≡ equations s + (64 - equations s)
      whole = omega (arith, small_equations s w)

      end : count (equations s) (λ q. bit q m) + count (64 - equations s) (λ i. bit (equations s + i) m) ≡ count (equations s) (λ q. bit q m)
      end = omega (arith, count_never (64 - equations s) (λ i. bit (equations s + i) m) (λ i l. not_passed (λ p. absurd (let k = h.below (equations s + i) p in omega arith))))

-- x in place of 1
pub unit_scaled : (s : Shape) (c m x : ℕ) → Solves s (unit_of s c m) → Solves s (λ k. cond (eqb (unit_of s c m k) 1) x 0)
unfolding unit_of sum_over
unit_scaled s c m x h q l =
    as_many (set (parity_cell s q)) parts.odd (h q l ∙ sames 1 ∙ parts.as_one) ∙ sym (sum_x ∙ parts.as_x)
  where
    set : ℕ → Bool
    set k = eqb k c || any (equations s) (λ r. bit r m && eqb (parity_cell s r) k)

    parts : Scaled (cells s) (λ k. sums_cell s q k && set k) x
    parts = scaled (cells s) (λ k. sums_cell s q k && set k) x

    both : (a b : Bool) (y : ℕ) → cond a (cond b y 0) 0 ≡ cond (a && b) y 0
    both true b y = refl
    both false b y = refl

    sames : (y : ℕ) → xors (cells s) (λ k. cond (sums_cell s q k) (cond (set k) y 0) 0) ≡ xors (cells s) (λ k. cond (sums_cell s q k && set k) y 0)
    sames y = xors_same (cells s) (λ k. cond (sums_cell s q k) (cond (set k) y 0) 0) (λ k. cond (sums_cell s q k && set k) y 0) (λ k lk. both (sums_cell s q k) (set k) y)

    one_or_none : (b : Bool) → eqb (cond b 1 0) 1 ≡ b
    one_or_none true = refl
    one_or_none false = refl

    sum_x : xors (cells s) (λ k. cond (sums_cell s q k) (cond (eqb (cond (set k) 1 0) 1) x 0) 0) ≡ xors (cells s) (λ k. cond (sums_cell s q k && set k) x 0)
    sum_x =
        xors_same (cells s) (λ k. cond (sums_cell s q k) (cond (eqb (cond (set k) 1 0) 1) x 0) 0) (λ k. cond (sums_cell s q k) (cond (set k) x 0) 0)
        (λ k lk. ap (λ (b : Bool). cond (sums_cell s q k) (cond b x 0) 0) (one_or_none (set k)))
        ∙ sames x

    as_many : (a b : Bool) → ◌≡◌ {A = ℕ} (cond a 1 0) (cond b 1 0) → cond (eqb (cond a 1 0) 1) x 0 ≡ cond b x 0
    as_many true true e = refl
    as_many true false e = absurd (omega arith)
    as_many false true e = absurd (omega arith)
    as_many false false e = refl
