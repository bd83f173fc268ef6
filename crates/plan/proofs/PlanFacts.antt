-- The plan by the rule for column k, as the equations number it: it is accepted, how many rows it takes by diagonal, how many cells it reads, that no accepted
-- plan reads fewer, and that none reads the lost column.
use mathlib.Core.Path.{◌≡◌, refl, sym, ap, ◌∙◌, subst}
use mathlib.Core.Bool.{Bool, true, false, not, ◌&&◌}
use Prim.Native.Nat.{ℕ, ◌+◌, ◌-◌, ◌*◌, ◌/◌, ◌%◌, ◌^◌, ◌≤◌, ◌<◌}
use native.Mathlib.Nat.{mul_comm, add_comm, mod-lt}
use native.Mathlib.Omega.{arith}
use lib.Count.{ones, ones-le}
use lib.Dec.{eqb, ltb, leb}
use lib.Pow.{pow_pos}
use borrow.Author.Tests.{lt-ltb, le-ltb, eq-eqb, ne_eqb, leb-true}
use Rattle.xor.specs.Sets.{count}
use Rattle.xor.proofs.Cases.{by_test, by_equal, by_less, and_left, and_right, and_both, or_left, or_right}
use Rattle.xor.proofs.Sets.{count_same, count_lowest}
use Rattle.bits.specs.Bit.{bit}
use Rattle.bits.proofs.Bits.{bit_ones, same_bits, ones_bits}
use Rattle.codes.specs.declared.Shape.{Shape}
use Rattle.codes.specs.Shape.{rows, cells, cell_number, missing, WellFormed}
use Rattle.codes.specs.Geometry.{gap}
use Rattle.codes.proofs.Shapes.{each_prime, low, rows_low}
use Rattle.codes.proofs.Positions.{cell_is}
use Rattle.plan.specs.Plan.{reads_cell, cells_read, by_rule, ByRule, is_accepted}
use Rattle.plan.specs.Right.{RdpColumn}
use Rattle.plan.proofs.Column.{last_row, last_column}
use Rattle.plan.proofs.Accepted.{plan_low}
use Rattle.plan.proofs.Rule.{others_below}
use Rattle.plan.proofs.Cells.{reads_is}
use Rattle.plan.proofs.PlanReads.{all_rows, last_column_reads, last_column_full, plan_reads}

-- the count of ones of a plan is the number of rows that it takes by diagonal
pub ones_are_rows : (s : Shape) (plan : ℕ) → plan < 2 ^ rows s → ones plan ≡ count (rows s) (λ i. bit i plan)
ones_are_rows s plan = ones_bits (rows s) plan

-- four times a product is at most the square of the sum
four : (a b : ℕ) → 4 * (a * b) ≤ (a + b) * (a + b)
four a b = by_less a b (λ l. near a b (omega arith)) (λ l. rw (mul_comm a b, add_comm a b) (near b a l))
  where
    near : (a b : ℕ) → a ≤ b → 4 * (a * b) ≤ (a + b) * (a + b)
    near a b l = let more : b ≡ a + (b - a) = omega arith in rw more (omega arith)

-- the square of twice h less the square of h
quarter : (h : ℕ) → 2 * h * (2 * h) - h * (2 * h - h) ≡ 3 * (2 * h * (2 * h)) / 4
quarter h = let half : 2 * h - h ≡ h = omega arith in rw half (omega arith)

-- p is odd
pub even_rows : (s : Shape) → WellFormed s → s.p - 1 ≡ 2 * ((s.p - 1) / 2)
even_rows s w = each_prime (λ p. p - 1 ≡ 2 * ((p - 1) / 2)) refl refl refl refl refl refl refl refl refl refl s.p w.prime

-- where every column exists, no accepted plan reads fewer than three quarters of (p-1)²
pub reads_least : (s : Shape) (k plan : ℕ) → missing s ≡ 0 → RdpColumn s k → is_accepted s k plan ≡ true → 3 * ((s.p - 1) * (s.p - 1)) / 4 ≤ cells_read s k plan
reads_least s k plan full c accepted =
    let n = s.p - 1 in
    let x = ones plan in
    let most : x ≤ n = omega (arith, last_row s k c, ones-le (rows s) plan (plan_low s k plan c accepted)) in
    let whole : x + (n - x) ≡ n = omega arith in
    let product : 4 * (x * (n - x)) ≤ n * n = rw whole at (four x (n - x)) in
    omega (arith, plan_reads s k plan c accepted full)

-- where every column exists, an accepted plan that takes half of the rows by diagonal reads three quarters of (p-1)²
pub half_reads : (s : Shape) (k plan : ℕ) → missing s ≡ 0 → RdpColumn s k → is_accepted s k plan ≡ true → ones plan ≡ (s.p - 1) / 2
    → cells_read s k plan ≡ 3 * ((s.p - 1) * (s.p - 1)) / 4
half_reads s k plan full c accepted half =
    plan_reads s k plan c accepted full
    ∙ ap (λ (x : ℕ). (s.p - 1) * (s.p - 1) - x * (s.p - 1 - x)) half
    ∙ subst (λ (n : ℕ). n * n - (s.p - 1) / 2 * (n - (s.p - 1) / 2) ≡ 3 * (n * n) / 4) (sym (even_rows s c.formed)) (quarter ((s.p - 1) / 2))

module _ (s : Shape) (k plan : ℕ) (c : RdpColumn s k) (rule : ByRule s k plan) where
  -- a plan by the rule is accepted
  pub rule_accepted : is_accepted s k plan ≡ true
  unfolding is_accepted by_rule
  rule_accepted =
      and_both (lt-ltb plan (2 ^ rows s) rule.low)
      (and_both
      (by_test (leb 1 k && leb k (s.p - 1))
      (λ t. or_right (not (leb 1 k && leb k (s.p - 1))) (ap not (left (leb-true 1 k (and_left (leb 1 k) _ t)) (leb-true k (s.p - 1) (and_right (leb 1 k) _ t)))))
      (λ t. or_left _ (ap not t)))
      (by_equal k s.p (λ e. or_right (not (eqb k s.p)) (eq-eqb plan (2 ^ rows s - 1) (every e))) (λ n. or_left _ (ap not (ne_eqb k s.p n)))))
    where
      left : 1 ≤ k → k ≤ s.p - 1 → bit (s.p - 1 - k) plan ≡ false
      left lo hi =
          let back : s.p - 1 - k + k ≡ s.p - 1 = omega arith in
          rule.rule (s.p - 1 - k) (omega (arith, last_row s k c))
          ∙ rw (ne_eqb k s.p (λ e. omega arith), eq-eqb (s.p - 1 - k + k) (s.p - 1) back) refl

      every : k ≡ s.p → plan ≡ 2 ^ rows s - 1
      every e =
          same_bits (rows s) plan (2 ^ rows s - 1) rule.low (omega (arith, pow_pos (rows s)))
          (λ i li. rule.rule i li ∙ rw (eq-eqb k s.p e) (sym (bit_ones i (rows s) ∙ lt-ltb i (rows s) li)))

  module _ (below : k < s.p) where
    -- it takes (p-1)/2 rows by diagonal
    pub rule_ones : ones plan ≡ (s.p - 1) / 2
    unfolding by_rule
    rule_ones =
        ones_are_rows s plan rule.low
        ∙ count_same (rows s) (λ i. bit i plan) (λ i. other i && ltb (count i other) ((s.p - 1) / 2))
        (λ i li. rule.rule i li ∙ rw (ne_eqb k s.p (λ e. omega arith)) refl)
        ∙ count_lowest (rows s) ((s.p - 1) / 2) other
        ∙ omega (arith, low s c.formed, last_row s k c, enough)
      where
        other : ℕ → Bool
        other i = not (eqb (i + k) (s.p - 1))

        enough : rows s ≤ count (rows s) other + 1
        enough =
            let f = s.p - 1 - k in
            let all_but = others_below k (s.p - 1) f (rows s) (omega arith) in
            by_less f (rows s) (λ l. omega (arith, rw (lt-ltb f (rows s) l) at all_but)) (λ l. omega (arith, rw (le-ltb f (rows s) l) at all_but))

    -- where every column exists it reads three quarters of (p-1)²
    pub rule_reads : missing s ≡ 0 → cells_read s k plan ≡ 3 * ((s.p - 1) * (s.p - 1)) / 4
    rule_reads full = half_reads s k plan full c rule_accepted rule_ones

  module _ (last : k ≡ s.p) where
    -- it takes every row by diagonal
    pub rule_ones_last : ones plan ≡ s.p - 1
    rule_ones_last = all_rows s k plan c rule_accepted last

    -- of m data columns and the row parity column it reads (m+1)(p-1) - m cells: all but those on the missing diagonal
    pub rule_reads_few : cells_read s k plan ≡ (gap s + 1) * (s.p - 1) - gap s
    rule_reads_few = last_column_reads s k plan c rule_accepted last

    -- that is (p-1)² where every column exists
    pub rule_reads_last : missing s ≡ 0 → cells_read s k plan ≡ (s.p - 1) * (s.p - 1)
    rule_reads_last = last_column_full s k plan c rule_accepted last

  -- where every column exists no accepted plan reads fewer
  pub rule_least : missing s ≡ 0 → (other : ℕ) → is_accepted s k other ≡ true → cells_read s k plan ≤ cells_read s k other
  rule_least full other accepted =
      by_equal k s.p
      (λ e. omega (arith, rule_reads_last e full, last_column_full s k other c accepted e full))
      (λ n. omega (arith, rule_reads (omega (arith, last_column s k c)) full, reads_least s k other full c accepted))

-- an accepted plan reads no cell of the lost column
pub lost_not_read : (s : Shape) (k plan : ℕ) → RdpColumn s k → is_accepted s k plan ≡ true → (c : ℕ) → c < cells s → c / rows s ≡ k → reads_cell s k plan c ≡ false
lost_not_read s k plan of accepted c lc e =
    ap (reads_cell s k plan) (sym (cell_is s of.formed c) ∙ ap (cell_number s (c % rows s)) e)
    ∙ reads_is s k plan of accepted (c % rows s) k (mod-lt c (omega (arith, rows_low s of.formed))) of.column
    ∙ rw (of.there, eq-eqb k k refl) refl
