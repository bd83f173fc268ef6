-- The plans that are accepted for a column of RDP: as the code works it out, and what an accepted plan has.
use mathlib.Core.Path.{◌≡◌, refl, sym, ap, ◌∙◌}
use mathlib.Core.Logic.{◌≢◌}
use mathlib.Core.Bool.{Bool, true, false, not, ◌&&◌, ◌||◌, and-true}
use Prim.Native.Nat.{ℕ, ◌-◌, ◌^◌, ◌≤◌, ◌<◌}
use native.Mathlib.Omega.{arith}
use lib.Bits.{bit_and}
use lib.Dec.{eqb, leb, ltb}
use borrow.Author.Tests.{eq-eqb, ne_eqb, eqb-true, le-leb, lt-leb, lt-ltb, le-ltb, ltb-true, not-true}
use Rattle.xor.proofs.Cases.{by_equal, clash, and_left, and_right, and_both, either}
use Rattle.bits.specs.Bit.{bit}
use Rattle.bits.proofs.Bits.{bit_above, bit_ones}
use Rattle.bits.proofs.Masks.{and_power}
use Rattle.codes.specs.declared.Shape.{Shape}
use Rattle.codes.specs.Shape.{rows}
use Rattle.codes.proofs.Shapes.{low}
use Rattle.plan.specs.Plan.{is_accepted}
use Rattle.plan.specs.Right.{RdpColumn}
use Rattle.plan.proofs.Column.{last_row, last_column}

-- ---- the code's tests

module _ (s : Shape) (k plan : ℕ) (of : RdpColumn s k) where
  module _ (bound : ℕ) (power : bound ≡ 2 ^ (s.p - 1)) where
    bound_is : bound ≡ 2 ^ rows s
    bound_is = power ∙ ap (λ (n : ℕ). 2 ^ n) (last_row s k of)

    pub too_high : bound ≤ plan → false ≡ is_accepted s k plan
    unfolding is_accepted
    too_high l = rw (sym bound_is, le-ltb plan bound l) refl

    module _ (l : plan < bound) where
      pub every_diagonal : k ≡ s.p → eqb plan (bound - 1) ≡ is_accepted s k plan
      unfolding is_accepted
      every_diagonal e = rw (sym bound_is, lt-ltb plan bound l, eq-eqb k s.p e, lt-leb k (s.p - 1) (omega (arith, low s of.formed))) (rest (leb 1 k))
        where
          rest : (b : Bool) → eqb plan (bound - 1) ≡ ((not (b && false) || not (bit (s.p - 1 - k) plan)) && eqb plan (bound - 1))
          rest true = refl
          rest false = refl

      pub first_column : k ≡ 0 → true ≡ is_accepted s k plan
      unfolding is_accepted
      first_column e = rw (sym bound_is, lt-ltb plan bound l, lt-leb 1 k (omega arith), ne_eqb k s.p (λ f. omega (arith, low s of.formed))) refl

      pub one_row : (one : ℕ) → one ≡ 2 ^ (s.p - 1 - k) → k ≢ s.p → k ≢ 0 → eqb (bit_and plan one) 0 ≡ is_accepted s k plan
      unfolding is_accepted
      one_row one e last none =
          ap (λ (m : ℕ). eqb (bit_and plan m) 0) e ∙ and_power (s.p - 1 - k) plan
          ∙ rw (sym bound_is, lt-ltb plan bound l, le-leb 1 k (omega arith), le-leb k (s.p - 1) (omega (arith, last_column s k of)), ne_eqb k s.p last)
          (sym (and-true (not (bit (s.p - 1 - k) plan))))

-- ---- what acceptance depends on

-- stripes of one prime that have as many rows accept the same plans
pub accepted_alike : (s t : Shape) (k plan : ℕ) → s.p ≡ t.p → rows s ≡ rows t → is_accepted s k plan ≡ is_accepted t k plan
unfolding is_accepted
accepted_alike s t k plan same tall i =
    ltb plan (2 ^ tall i)
    && ((not (leb 1 k && leb k (same i - 1)) || not (bit (same i - 1 - k) plan))
    && (not (eqb k (same i)) || eqb plan (2 ^ tall i - 1)))

-- ---- what an accepted plan has

-- three tests that all pass
three : (a b c : Bool) → (a && (b && c)) ≡ true → (a ≡ true) × (b ≡ true) × (c ≡ true)
three a b c h = (and_left a (b && c) h, and_left b c (and_right a (b && c) h), and_right b c (and_right a (b && c) h))

module _ (s : Shape) (k plan : ℕ) (of : RdpColumn s k) (accepted : is_accepted s k plan ≡ true) where
  -- the three tests of acceptance
  parts : (ltb plan (2 ^ rows s) ≡ true) × ((not (leb 1 k && leb k (s.p - 1)) || not (bit (s.p - 1 - k) plan)) ≡ true)
      × ((not (eqb k s.p) || eqb plan (2 ^ rows s - 1)) ≡ true)
  unfolding is_accepted
  parts = three _ _ _ accepted

  -- no bit from row p-1 on
  pub plan_low : plan < 2 ^ rows s
  plan_low = ltb-true plan (2 ^ rows s) parts.0

  -- the row of column k on the missing diagonal is not taken by diagonal
  pub missing_left : k < s.p → bit (s.p - 1 - k) plan ≡ false
  missing_left l =
      by_equal k 0
      (λ e. ap (λ (x : ℕ). bit x plan) (first e) ∙ bit_above (rows s) plan plan_low)
      (λ n. not-true (bit (s.p - 1 - k) plan)
      (either (not (leb 1 k && leb k (s.p - 1))) (not (bit (s.p - 1 - k) plan)) parts.1
      (λ h. clash (and_both (le-leb 1 k (omega arith)) (le-leb k (s.p - 1) (omega arith))) (not-true (leb 1 k && leb k (s.p - 1)) h)) (λ h. h)))
    where
      first : k ≡ 0 → s.p - 1 - k ≡ rows s
      first e = omega (arith, last_row s k of)

  -- for column p all rows are taken by diagonal
  pub all_taken : k ≡ s.p → plan ≡ 2 ^ rows s - 1
  all_taken e =
      eqb-true plan (2 ^ rows s - 1)
      (either (not (eqb k s.p)) (eqb plan (2 ^ rows s - 1)) parts.2 (λ h. clash (eq-eqb k s.p e) (not-true (eqb k s.p) h)) (λ h. h))

  -- so that each is
  pub every_row : k ≡ s.p → (i : ℕ) → i < rows s → bit i plan ≡ true
  every_row e i l = ap (bit i) (all_taken e) ∙ bit_ones i (rows s) ∙ lt-ltb i (rows s) l
