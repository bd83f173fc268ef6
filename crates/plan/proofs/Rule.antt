-- The masks that the code makes are the plan by the rule.
use mathlib.Core.Path.{◌≡◌, refl, sym, ap, ap₂, ◌∙◌, subst}
use mathlib.Core.Bool.{Bool, false, cond, not, ◌&&◌, ◌||◌, xor}
use Prim.Native.Nat.{ℕ, zero, suc, ◌+◌, ◌-◌, ◌/◌, ◌^◌, ◌≤◌, ◌<◌}
use native.Mathlib.Omega.{arith}
use lib.Bits.{bit_xor}
use lib.Dec.{eqb, ltb}
use lib.Pow.{pow_pos, pow_mono, pow-lt}
use borrow.Author.Tests.{eq-eqb, ne_eqb, lt-ltb, le-ltb}
use Rattle.xor.specs.Sets.{count}
use Rattle.xor.proofs.Cases.{by_equal, by_less}
use Rattle.xor.proofs.Algebra.{⊕_is, ⊕_bits}
use Rattle.bits.specs.Bit.{bit}
use Rattle.bits.proofs.Bits.{bit_ones, bit_power, bit_xor_lem}
use Rattle.codes.specs.declared.Shape.{Shape}
use Rattle.codes.specs.Shape.{rows}
use Rattle.codes.proofs.Shapes.{low}
use Rattle.plan.specs.Plan.{by_rule, ByRule}
use Rattle.plan.specs.Right.{RdpColumn}
use Rattle.plan.proofs.Column.{last_row, last_column}

-- a power of two is not 0
pub some_power : (m n : ℕ) → m ≡ 2 ^ n → 1 ≤ m
some_power m n e = omega (arith, e, pow_pos n)

-- how many rows below i are other than row f = n - k
pub others_below : (k n f i : ℕ) → f + k ≡ n → count i (λ j. not (eqb (j + k) n)) ≡ cond (ltb f i) (i - 1) i
unfolding count
others_below k n f zero e = ap (λ (b : Bool). cond b (zero - 1) zero) (sym (le-ltb f 0 (omega arith)))
others_below k n f (suc i) e =
    by_equal f i
    (λ same. rw (others_below k n f i e, le-ltb f i (omega arith), eq-eqb (i + k) n (omega arith), lt-ltb f (suc i) (omega arith)) (omega arith))
    (λ other. by_less f i
    (λ l. rw (others_below k n f i e, lt-ltb f i l, ne_eqb (i + k) n (λ z. omega arith), lt-ltb f (suc i) (omega arith)) (omega arith))
    (λ g. rw (others_below k n f i e, le-ltb f i g, ne_eqb (i + k) n (λ z. omega arith), le-ltb f (suc i) (omega arith)) (omega arith)))

module _ (s : Shape) (k : ℕ) (of : RdpColumn s k) where
  fits : (n m : ℕ) → n ≤ s.p - 1 → m ≡ 2 ^ n → m - 1 < 2 ^ rows s
  fits n m l e =
      let some = pow_pos n in
      let more : 2 ^ n ≤ 2 ^ rows s = pow_mono (omega (arith, last_row s k of)) in
      omega arith

  -- every row is taken
  pub rule_all : (m : ℕ) → s.p - 1 < k → m ≡ 2 ^ (s.p - 1) → ByRule s k (m - 1)
  unfolding by_rule
  rule_all m past e = record {
    low = fits (s.p - 1) m (omega arith) e;
    rule = λ i l.
        ap (λ (x : ℕ). bit i (x - 1)) e ∙ bit_ones i (s.p - 1) ∙ lt-ltb i (s.p - 1) (omega (arith, last_row s k of))
        ∙ ap (λ (b : Bool). b || (not (eqb (i + k) (s.p - 1)) && ltb (count i (λ j. not (eqb (j + k) (s.p - 1)))) ((s.p - 1) / 2))) (sym (eq-eqb k s.p (omega (arith, last_column s k of))));
  }

  module _ (inside : k ≤ s.p - 1) (f : ℕ) (at : f + k ≡ s.p - 1) where
    -- the rule below p: not row f, and fewer than half of the others lie below
    ruled : (i : ℕ) → by_rule s k i ≡ (not (eqb (i + k) (s.p - 1)) && ltb (cond (ltb f i) (i - 1) i) ((s.p - 1) / 2))
    unfolding by_rule
    ruled i = rw (ne_eqb k s.p (λ e. let three = low s of.formed in omega arith), others_below k (s.p - 1) f i at) refl

    -- row f is not among the lowest
    pub rule_low : (m : ℕ) → (s.p - 1) / 2 ≤ f → m ≡ 2 ^ ((s.p - 1) / 2) → ByRule s k (m - 1)
    rule_low m out e = record {
      low = fits ((s.p - 1) / 2) m (omega arith) e;
      rule = λ i l. ap (λ (x : ℕ). bit i (x - 1)) e ∙ bit_ones i ((s.p - 1) / 2) ∙ sym (ruled i ∙ cases i);
    }
      where
        cases : (i : ℕ) → (not (eqb (i + k) (s.p - 1)) && ltb (cond (ltb f i) (i - 1) i) ((s.p - 1) / 2)) ≡ ltb i ((s.p - 1) / 2)
        cases i =
            by_equal i f
            (λ same. rw (eq-eqb (i + k) (s.p - 1) (omega arith)) (sym (le-ltb i ((s.p - 1) / 2) (omega arith))))
            (λ other. by_less f i
            (λ l. rw (ne_eqb (i + k) (s.p - 1) (λ z. omega arith), lt-ltb f i l) (le-ltb (i - 1) ((s.p - 1) / 2) (omega arith) ∙ sym (le-ltb i ((s.p - 1) / 2) (omega arith))))
            (λ g. rw (ne_eqb (i + k) (s.p - 1) (λ z. omega arith), le-ltb f i g) refl))

    -- row f is among the lowest and is taken out
    pub rule_out : (m one : ℕ) → f < (s.p - 1) / 2 → m ≡ 2 ^ ((s.p - 1) / 2 + 1) → one ≡ 2 ^ f → ByRule s k (bit_xor (m - 1) one)
    unfolding xor
    rule_out m one within e e' = record {
      low = subst (λ (x : ℕ). x < 2 ^ rows s) (⊕_is (m - 1) one)
          (⊕_bits (rows s) (m - 1) one (fits ((s.p - 1) / 2 + 1) m (omega (arith, low s of.formed)) e)
          (subst (λ (x : ℕ). x < 2 ^ rows s) (sym e') (pow-lt (omega (arith, last_row s k of)))));
      rule = λ i l. bit_xor_lem i (m - 1) one ∙ ap₂ xor (ap (λ (x : ℕ). bit i (x - 1)) e ∙ bit_ones i ((s.p - 1) / 2 + 1)) (ap (bit i) e' ∙ bit_power i f) ∙ sym (ruled i ∙ cases i);
    }
      where
        cases : (i : ℕ) → (not (eqb (i + k) (s.p - 1)) && ltb (cond (ltb f i) (i - 1) i) ((s.p - 1) / 2)) ≡ xor (ltb i ((s.p - 1) / 2 + 1)) (eqb i f)
        cases i =
            by_equal i f
            (λ same. rw (eq-eqb (i + k) (s.p - 1) (omega arith), eq-eqb i f same, lt-ltb i ((s.p - 1) / 2 + 1) (omega arith)) refl)
            (λ other. by_less f i
            (λ l. rw (ne_eqb (i + k) (s.p - 1) (λ z. omega arith), lt-ltb f i l, ne_eqb i f other) (shifted i (omega arith)))
            (λ g. rw (ne_eqb (i + k) (s.p - 1) (λ z. omega arith), le-ltb f i g, ne_eqb i f other, lt-ltb i ((s.p - 1) / 2) (omega arith), lt-ltb i ((s.p - 1) / 2 + 1) (omega arith)) refl))
          where
            shifted : (j : ℕ) → 0 < j → ltb (j - 1) ((s.p - 1) / 2) ≡ xor (ltb j ((s.p - 1) / 2 + 1)) false
            shifted j some =
                by_less (j - 1) ((s.p - 1) / 2)
                (λ l. rw (lt-ltb (j - 1) ((s.p - 1) / 2) l, lt-ltb j ((s.p - 1) / 2 + 1) (omega arith)) refl)
                (λ g. rw (le-ltb (j - 1) ((s.p - 1) / 2) g, le-ltb j ((s.p - 1) / 2 + 1) (omega arith)) refl)
