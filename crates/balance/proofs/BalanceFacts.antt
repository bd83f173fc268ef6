-- The balanced plan for column k: it is the one of the table, it is accepted, takes half of the rows by diagonal, reads each surviving column below p as often as
-- the others, and of all columns together no more than any accepted plan. Each fact is of every plan by the rule.
use mathlib.Core.Path.{◌≡◌, refl, sym, ap, ◌∙◌, subst}
use mathlib.Core.Logic.{◌≢◌}
use mathlib.Core.Bool.{true}
use Prim.Native.Nat.{ℕ, ◌+◌, ◌-◌, ◌*◌, ◌/◌, ◌^◌, ◌≤◌, ◌<◌}
use native.Mathlib.Nat.{mul_assoc, mul-le-mul, mul-le-mul_left, lt_of_le_of_lt}
use native.Mathlib.Omega.{arith}
use lib.Count.{ones}
use Rattle.xor.specs.Sets.{count}
use Rattle.bits.specs.Bit.{bit}
use Rattle.bits.proofs.Bits.{ones_bits}
use Rattle.codes.specs.declared.Shape.{Shape}
use Rattle.codes.specs.Shape.{rows}
use Rattle.refusals.specs.Refusals.{refusal}
use Rattle.codes.proofs.Geometry.{there_all, column_all}
use Rattle.codes.proofs.Lines.{rdp_columns}
use Rattle.std.specs.Prelude.{Result, Ok}
use Rattle.refusals.specs.declared.reason.Refusal.{Refusal}
use Rattle.plan.specs.Plan.{column_reads, cells_read, TakesRows, is_accepted}
use Rattle.plan.specs.Right.{RdpColumn}
use Rattle.plan.proofs.Column.{last_row}
use Rattle.plan.proofs.Accepted.{accepted_alike, plan_low}
use Rattle.plan.proofs.ByColumns.{pairs, surviving_reads}
use Rattle.plan.proofs.PlanReads.{last_surviving}
use Rattle.plan.proofs.PlanFacts.{even_rows, half_reads, reads_least}
use Rattle.plan.specs.declared.ReadPlan.{ReadPlan}
use Rattle.plan.proofs.Planning.{same_rows, plan_given, plans_one}
use Rattle.balance.specs.Balance.{fits, shift, by_balance}
use Rattle.balance.specs.Right.{Balanceable}
use Rattle.balance.specs.Table.{plan_at}
use Rattle.balance.specs.Refusals.{balance_faults}
use Rattle.balance.specs.Balances.{Balances}
use Rattle.balance.proofs.Tested.{rdp_at, Sound, plan_sound}

module _ (s : Shape) (k : ℕ) (b : Balanceable s k) where
  -- it is a column of RDP
  pub column_of_lem : RdpColumn s k
  column_of_lem = record { formed = b.formed; rdp = b.rdp; column = omega (arith, b.below, rdp_columns s b.formed b.rdp); there = there_all s b.full k }

  sound : Sound s.p k (plan_at s.p k)
  sound = plan_sound s.p k b.prime b.below

  tall : s.p - 1 ≡ rows s
  tall = last_row s k column_of_lem

  rows_at : rows s ≡ rows (rdp_at s.p)
  rows_at = unfold rows in sym tall

  -- there is a shift by which the squares hold neither p-1 nor p-1-k
  pub shift_fits : fits s.p k (shift s.p k) ≡ true
  shift_fits = sound.fitting

  -- the plan of the table is accepted
  table_accepted : is_accepted s k (plan_at s.p k) ≡ true
  table_accepted = accepted_alike s (rdp_at s.p) k (plan_at s.p k) refl rows_at ∙ sound.accepted

  -- and goes by the rule
  pub table_takes : TakesRows s (by_balance s k) (plan_at s.p k)
  unfolding by_balance
  table_takes = record {
    low = plan_low s k (plan_at s.p k) column_of_lem table_accepted;
    rule = λ i l. sound.ruled i (omega (arith, tall));
  }

  module _ (plan : ℕ) (rule : TakesRows s (by_balance s k) plan) where
    of_table : plan_at s.p k ≡ plan
    of_table = same_rows s (by_balance s k) (plan_at s.p k) plan table_takes rule

    -- it is accepted by the run
    pub balanced_accepted : is_accepted s k plan ≡ true
    balanced_accepted = subst (λ (x : ℕ). is_accepted s k x ≡ true) of_table table_accepted

    -- it takes (p-1)/2 rows by diagonal
    pub balanced_ones : ones plan ≡ (s.p - 1) / 2
    balanced_ones =
        ones_bits (rows s) plan rule.low ∙ ap (λ (n : ℕ). count n (λ i. bit i plan)) (sym tall)
        ∙ subst (λ (x : ℕ). count (s.p - 1) (λ i. bit i x) ≡ (s.p - 1) / 2) of_table sound.half

    -- of each surviving column below p it reads (3p-5)/4 cells
    pub balanced_surviving : (j : ℕ) → j < s.p → j ≢ k → column_reads s k plan j ≡ (3 * s.p - 5) / 4
    balanced_surviving j l other =
        surviving_reads s k plan column_of_lem balanced_accepted j (omega (arith, l, rdp_columns s b.formed b.rdp)) (there_all s b.full j) other l
        ∙ ap (λ (n : ℕ). s.p - 1 - ones plan + pairs n s.p k plan j) (sym tall)
        ∙ ap (λ (n : ℕ). n + pairs (s.p - 1) s.p k plan j) (let other_half : s.p - 1 - ones plan ≡ (s.p - 1) / 2 = omega (arith, balanced_ones, even_rows s b.formed) in other_half)
        ∙ subst (λ (x : ℕ). (s.p - 1) / 2 + pairs (s.p - 1) s.p k x j ≡ (3 * s.p - 5) / 4) of_table (sound.even j l other)

    -- of column p it reads (p-1)/2 cells
    pub balanced_last : column_reads s k plan s.p ≡ (s.p - 1) / 2
    balanced_last = last_surviving s k plan column_of_lem balanced_accepted b.full b.below ∙ balanced_ones

    -- in all three quarters of (p-1)²
    pub balanced_reads : cells_read s k plan ≡ 3 * ((s.p - 1) * (s.p - 1)) / 4
    balanced_reads = half_reads s k plan b.full column_of_lem balanced_accepted balanced_ones

    -- which no accepted plan goes below
    pub balanced_least : (other : ℕ) → is_accepted s k other ≡ true → cells_read s k plan ≤ cells_read s k other
    balanced_least other accepted = omega (arith, balanced_reads, reads_least s k other b.full column_of_lem accepted)

-- ---- the answer

-- the product fits its type
pub few : {p : ℕ} → p ≤ 31 → 3 * (p - 1) * (p - 1) < 2 ^ 64
few {p} l = let most : p - 1 ≤ 30 = omega arith in lt_of_le_of_lt (mul-le-mul (mul-le-mul_left 3 most) most) (omega arith)

-- the plan of the table with three quarters of (p-1)² reads
pub balance_given : (s : Shape) (k : ℕ) → Balanceable s k → (taken : ℕ) → refusal (balance_faults s k) ≡ 0 → taken ≡ plan_at s.p k
    → Balances s k (Ok (record { rows = taken; reads = 3 * (s.p - 1) * (s.p - 1) / 4 }))
balance_given s k b taken none e =
    plan_given s k (by_balance s) (balance_faults s k) k taken (3 * (s.p - 1) * (s.p - 1) / 4) none (sym (column_all s b.full k)) ruled
    (ap (λ (n : ℕ). n / 4) (mul_assoc 3 (s.p - 1) (s.p - 1)) ∙ sym (balanced_reads s k b taken ruled))
  where
    ruled : TakesRows s (by_balance s k) taken
    ruled = subst (TakesRows s (by_balance s k)) (sym e) (table_takes s k b)

-- any two answers that the balanced plan may give are equal
pub balance_one : (s : Shape) (k : ℕ) (x y : Result ReadPlan Refusal) → Balances s k x → Balances s k y → x ≡ y
balance_one s k = plans_one s k (by_balance s) (balance_faults s k)
