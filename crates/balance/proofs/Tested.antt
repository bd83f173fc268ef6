-- The rule of the table, proved of all its plans by one test that is computed.
use mathlib.Core.Path.{◌≡◌, refl, ap}
use mathlib.Core.Logic.{◌≢◌}
use mathlib.Core.Bool.{Bool, true, false, not, ◌&&◌, xor}
use Prim.Native.Nat.{ℕ, ◌+◌, ◌-◌, ◌*◌, ◌/◌, ◌<◌}
use native.Mathlib.Omega.{arith}
use lib.Dec.{eqb}
use borrow.Author.Tests.{eqb-true, ne_eqb, not-true, not-false}
use Rattle.std.specs.declared.option.Option.TheVariants.{None}
use Rattle.xor.specs.Sets.{any, count}
use Rattle.xor.proofs.Cases.{and_left, and_right, not_xor}
use Rattle.xor.proofs.Sets.{any_none}
use Rattle.bits.specs.Bit.{bit, lowest}
use Rattle.codes.specs.declared.Shape.{Shape}
use Rattle.codes.specs.Shape.{rows}
use Rattle.plan.specs.Plan.{is_accepted}
use Rattle.plan.proofs.ByColumns.{pairs}
use Rattle.balance.specs.Balance.{offered, shifted, fits, shift}
use Rattle.balance.specs.Table.{plans, plans_before, plan_at}
use Rattle.balance.proofs.Offered.{offered_bounds}

-- of two tests that don't both pass the second fails where the first passes
and_second : (a b : Bool) → a ≡ true → (a && b) ≡ false → b ≡ false
and_second a b on h = rw on at h

-- five tests that all pass
five : (a b c d e : Bool) → (a && (b && (c && (d && e)))) ≡ true → (a ≡ true) × (b ≡ true) × (c ≡ true) × (d ≡ true) × (e ≡ true)
five a b c d e h =
    let h1 = and_right a (b && (c && (d && e))) h in
    let h2 = and_right b (c && (d && e)) h1 in
    let h3 = and_right c (d && e) h2 in
    (and_left a (b && (c && (d && e))) h, and_left b (c && (d && e)) h1, and_left c (d && e) h2, and_left d e h3, and_right d e h3)

-- RDP at a prime, of which the test is computed
abbrev pub rdp_at : ℕ → Shape
rdp_at p = record { code = 1; p = p; cell = 1; width = None }

-- some row is not as the rule says, where the squares are shifted by s
off_rule : ℕ → ℕ → ℕ → Bool
off_rule p plan s = any (p - 1) (λ i. xor (bit i plan) (shifted p s i))

-- some surviving column below p is not read (3p-5)/4 times
uneven : ℕ → ℕ → ℕ → Bool
uneven p k plan = any p (λ j. not (eqb j k) && not (eqb ((p - 1) / 2 + pairs (p - 1) p k plan j) ((3 * p - 5) / 4)))

-- the test of one plan
passes : ℕ → ℕ → ℕ → Bool
passes p k plan =
    eqb (count (p - 1) (λ i. bit i plan)) ((p - 1) / 2) && (is_accepted (rdp_at p) k plan && (not (uneven p k plan) && (fits p k (shift p k) && not (off_rule p plan (shift p k)))))

-- whether some plan of a prime doesn't pass
wrong : ℕ → Bool
wrong p = any p (λ k. not (passes p k (plan_at p k)))

-- the whole table: no plan of any prime fails the test
table_passes : any 32 (λ p. offered p && wrong p) ≡ false
unfolding wrong passes uneven off_rule any count bit lowest offered shifted fits shift plans plans_before is_accepted rows xor
table_passes = refl

-- what the test says of a plan
pub record Sound (p k plan : ℕ) : Type 0 where
  pub half : count (p - 1) (λ i. bit i plan) ≡ (p - 1) / 2
  pub accepted : is_accepted (rdp_at p) k plan ≡ true
  pub even : (j : ℕ) → j < p → j ≢ k → (p - 1) / 2 + pairs (p - 1) p k plan j ≡ (3 * p - 5) / 4
  pub fitting : fits p k (shift p k) ≡ true
  pub ruled : (i : ℕ) → i < p - 1 → bit i plan ≡ shifted p (shift p k) i

sound : (p k plan : ℕ) → passes p k plan ≡ true → Sound p k plan
unfolding passes uneven off_rule
sound p k plan h =
    let parts = five (eqb (count (p - 1) (λ i. bit i plan)) ((p - 1) / 2)) (is_accepted (rdp_at p) k plan) (not (uneven p k plan)) (fits p k (shift p k)) (not (off_rule p plan (shift p k))) h in
    record {
      half = eqb-true (count (p - 1) (λ i. bit i plan)) ((p - 1) / 2) parts.0;
      accepted = parts.1;
      even = λ j l n.
          eqb-true ((p - 1) / 2 + pairs (p - 1) p k plan j) ((3 * p - 5) / 4)
          (not-false (eqb ((p - 1) / 2 + pairs (p - 1) p k plan j) ((3 * p - 5) / 4)) (and_second (not (eqb j k)) (odd j) (ap not (ne_eqb j k n)) (any_none p (λ j. not (eqb j k) && odd j) (not-true (uneven p k plan) parts.2) j l)));
      fitting = parts.3;
      ruled = λ i l.
          not_xor (bit i plan) (shifted p (shift p k) i)
          (any_none (p - 1) (λ i. xor (bit i plan) (shifted p (shift p k) i)) (not-true (off_rule p plan (shift p k)) parts.4) i l);
    }
  where
    odd : ℕ → Bool
    odd j = not (eqb ((p - 1) / 2 + pairs (p - 1) p k plan j) ((3 * p - 5) / 4))

-- so each plan of the table is sound
pub plan_sound : (p k : ℕ) → offered p ≡ true → k < p → Sound p k (plan_at p k)
unfolding wrong
plan_sound p k of l =
    sound p k (plan_at p k)
    (not-false (passes p k (plan_at p k))
    (any_none p (λ k. not (passes p k (plan_at p k))) (and_second (offered p) (wrong p) of (any_none 32 (λ p. offered p && wrong p) table_passes p (omega (arith, offered_bounds p of)))) k l))
