-- Encoding: setting the parity cells in the order of the equations gives the one encoded stripe with the same data.
use mathlib.Core.Path.{◌≡◌, refl, sym, ap, ◌∙◌, subst}
use mathlib.Core.Logic.{◌≢◌}
use mathlib.Core.List.{List}
use mathlib.Core.Bool.{true, false, cond}
use Prim.Native.Nat.{ℕ, zero, suc, ◌+◌, ◌≤◌, ◌<◌}
use native.Mathlib.Nat.{le_refl, zero-add}
use native.Mathlib.Numerals.{add-one}
use native.Mathlib.Omega.{arith}
use lib.Dec.{eqb}
use lib.ListN.{length}
use borrow.Author.Tests.{eq-eqb, ne_eqb, eqb-true}
use Rattle.xor.proofs.Cases.{by_test, by_equal, by_less, clash}
use Rattle.xor.proofs.Sets.{any_at, any_some}
use Rattle.codes.specs.declared.Shape.{Shape}
use Rattle.codes.specs.Shape.{cells, equations, stripe_length, WellFormed}
use Rattle.codes.specs.Encoded.{parity_cell, sums_cell, sum_over, parity_byte, Solves, byte_at, is_parity, Encoded}
use Rattle.codes.specs.Agree.{Agree}
use Rattle.codes.proofs.Ordered.{ordered}
use Rattle.codes.proofs.Parity.{sum_same, same_bytes}
use Rattle.equation.specs.Window.{Shares, ParitySet}
use Rattle.equation.proofs.Windows.{shared_stays}
use Rattle.stripe.specs.Encode.{EncodingOf}

-- f after the parity cells of the first q equations are set, one after the other
unfoldable pub settled : Shape → ℕ → (ℕ → ℕ) → ℕ → ℕ
settled s zero f c = f c
settled s (suc q) f c = cond (eqb c (parity_cell s q)) (sum_over s q (settled s q f)) (settled s q f c)

module _ (s : Shape) (w : WellFormed s) (f : ℕ → ℕ) where
  own_cell_lem : (q : ℕ) → settled s (suc q) f (parity_cell s q) ≡ sum_over s q (settled s q f)
  unfolding settled
  own_cell_lem q = rw (eq-eqb (parity_cell s q) (parity_cell s q) refl) refl

  other_cell : (q c : ℕ) → c ≢ parity_cell s q → settled s (suc q) f c ≡ settled s q f c
  unfolding settled
  other_cell q c n = rw (ne_eqb c (parity_cell s q) n) refl

  -- no equation up to q sums the parity cell that is set
  sum_stays : (r q : ℕ) → r ≤ q → q < equations s → sum_over s r (settled s (suc q) f) ≡ sum_over s r (settled s q f)
  sum_stays r q l lq =
      sum_same s r (settled s (suc q) f) (settled s q f)
      (λ c lc p. other_cell q c (λ e. clash (ap (sums_cell s r) (sym e) ∙ p) ((ordered s w).unsummed r q l lq)))

  -- the equations that have been passed hold
  pub holds : (q : ℕ) → q ≤ equations s → (r : ℕ) → r < q → settled s q f (parity_cell s r) ≡ sum_over s r (settled s q f)
  holds zero lq r l = absurd (omega arith)
  holds (suc q) lq r l =
      by_equal r q
      (λ e. ap (λ (k : ℕ). settled s (suc q) f (parity_cell s k)) e ∙ own_cell_lem q ∙ sym (sum_stays q q (le_refl q) lq) ∙ ap (λ (k : ℕ). sum_over s k (settled s (suc q) f)) (sym e))
      (λ n. other_cell q (parity_cell s r) (λ e. n ((ordered s w).once r q (omega arith) lq e)) ∙ holds q (omega arith) r (omega arith) ∙ sym (sum_stays r q (omega arith) lq))

  -- data cells stay
  pub stays : (c : ℕ) → is_parity s c ≡ false → (q : ℕ) → q ≤ equations s → settled s q f c ≡ f c
  unfolding settled is_parity
  stays c data' zero lq = refl
  stays c data' (suc q) lq =
      other_cell q c (λ e. clash (any_at (equations s) (λ r. eqb (parity_cell s r) c) q lq (eq-eqb (parity_cell s q) c (sym e))) data') ∙ stays c data' q (omega arith)

-- ---- the same of a stripe's bytes

-- new is old after the parity cells of the first q equations are set
pub record Settled (s : Shape) (q : ℕ) (old new : List ℕ) : Type 0 where
  pub long : length new ≡ length old
  pub same : (c : ℕ) → c < cells s → (t : ℕ) → t < s.cell → byte_at s new c t ≡ settled s q (λ d. byte_at s old d t) c

pub settled_none : (s : Shape) (old : List ℕ) → Settled s 0 old old
unfolding settled
settled_none s old = record { long = refl; same = λ c lc t l. refl }

pub settled_more : (s : Shape) (w : WellFormed s) (q : ℕ) (old mid new : List ℕ) → q < equations s → Settled s q old mid → ParitySet s q 0 s.cell mid new → Settled s (q + 1) old new
settled_more s w q old mid new lq h p = subst (λ (k : ℕ). Settled s k old new) (sym (add-one q)) (record {
  long = p.long ∙ h.long;
  same = λ c lc t l. by_equal c (parity_cell s q)
      (λ e. ap (λ (k : ℕ). byte_at s new k t) e ∙ own t l ∙ sum_same s q (λ d. byte_at s mid d t) (settled s q (λ d. byte_at s old d t)) (λ d ld b. h.same d ld t l)
      ∙ sym (own_cell_lem s w (λ d. byte_at s old d t) q) ∙ ap (settled s (suc q) (λ d. byte_at s old d t)) (sym e))
      (λ n. p.others c lc t l (λ e. absurd (n e)) ∙ h.same c lc t l ∙ sym (other_cell s w (λ d. byte_at s old d t) q c n));
})
  where
    own : (t : ℕ) → t < s.cell → byte_at s new (parity_cell s q) t ≡ parity_byte s mid q t
    own t l = subst (λ (k : ℕ). byte_at s new (parity_cell s q) k ≡ parity_byte s mid q k) (zero-add t) (p.own t l)

-- what is shared stays as it was
pub settled_shares : (s : Shape) (w : WellFormed s) (q : ℕ) (old new : List ℕ) → q ≤ equations s → Settled s q old new → (shared : List ℕ) → Shares s old 0 s.cell shared → Shares s new 0 s.cell shared
settled_shares s w q old new lq h shared =
    shared_stays s old 0 s.cell w new shared (λ c lc plain i l. sym (h.same c lc (0 + i) (omega arith) ∙ stays s w (λ d. byte_at s old d (0 + i)) c plain q lq))

pub settled_all : (s : Shape) (w : WellFormed s) (q : ℕ) (old new : List ℕ) → Settled s q old new → q ≡ equations s → EncodingOf s old new
settled_all s w q old new h e = record {
  long = h.long;
  kept = record { same = λ c lc d t l. h.same c lc t l ∙ stays s w (λ k. byte_at s old k t) c d q (omega arith) };
  encoded = record {
    holds = λ r lr t l.
        h.same (parity_cell s r) ((ordered s w).inside r lr) t l ∙ holds s w (λ k. byte_at s old k t) q (omega arith) r (omega arith)
        ∙ sym (sum_same s r (λ c. byte_at s new c t) (settled s q (λ k. byte_at s old k t)) (λ c lc p. h.same c lc t l));
  };
}

-- ---- there is only one

module _ (s : Shape) (w : WellFormed s) (f g : ℕ → ℕ) (hf : Solves s f) (hg : Solves s g) (data' : (c : ℕ) → c < cells s → is_parity s c ≡ false → f c ≡ g c) where
  -- a cell that equation q sums is data, or the parity cell of an earlier equation
  parity_agrees : (q : ℕ) → q ≤ equations s → (r : ℕ) → r < q → f (parity_cell s r) ≡ g (parity_cell s r)
  unfolding is_parity
  parity_agrees zero lq r l = absurd (omega arith)
  parity_agrees (suc q) lq r l =
      by_equal r q
      (λ e. ap (λ (k : ℕ). f (parity_cell s k)) e ∙ hf q lq ∙ sum_same s q f g (summed (parity_agrees q (omega arith))) ∙ sym (hg q lq) ∙ ap (λ (k : ℕ). g (parity_cell s k)) (sym e))
      (λ n. parity_agrees q (omega arith) r (omega arith))
    where
      summed : ((k : ℕ) → k < q → f (parity_cell s k) ≡ g (parity_cell s k)) → (c : ℕ) → c < cells s → sums_cell s q c ≡ true → f c ≡ g c
      summed earlier c lc p =
          by_test (is_parity s c)
          (λ par.
          let found = any_some (equations s) (λ k. eqb (parity_cell s k) c) par in
          let at : parity_cell s found.0 ≡ c = eqb-true (parity_cell s found.0) c found.2 in
          by_less found.0 q (λ lk. ap f (sym at) ∙ earlier found.0 lk ∙ ap g at) (λ lk. clash p (ap (sums_cell s q) (sym at) ∙ (ordered s w).unsummed q found.0 lk found.1)))
          (data' c lc)

  -- solutions with the same data are equal
  pub one_solution : (c : ℕ) → c < cells s → f c ≡ g c
  unfolding is_parity
  one_solution c lc =
      by_test (is_parity s c)
      (λ par.
      let found = any_some (equations s) (λ k. eqb (parity_cell s k) c) par in
      let at : parity_cell s found.0 ≡ c = eqb-true (parity_cell s found.0) c found.2 in
      ap f (sym at) ∙ parity_agrees (equations s) (le_refl (equations s)) found.0 found.1 ∙ ap g at)
      (data' c lc)

-- so encoded stripes with the same data are
pub same_data : (s : Shape) (w : WellFormed s) (a b : List ℕ) → Encoded s a → Encoded s b → Agree s (is_parity s) a b → length a ≡ stripe_length s → length b ≡ stripe_length s → a ≡ b
same_data s w a b ha hb agree la lb =
    same_bytes s w a b la lb
    (λ c lc t lt. one_solution s w (λ k. byte_at s a k t) (λ k. byte_at s b k t) (λ q l. ha.holds q l t lt) (λ q l. hb.holds q l t lt) (λ k lk p. agree.same k lk p t lt) c lc)

pub one_encoding : (s : Shape) (w : WellFormed s) (old a b : List ℕ) → length old ≡ stripe_length s → EncodingOf s old a → EncodingOf s old b → a ≡ b
one_encoding s w old a b long ha hb =
    same_data s w a b ha.encoded hb.encoded (record { same = λ c lc d t lt. ha.kept.same c lc d t lt ∙ sym (hb.kept.same c lc d t lt) }) (ha.long ∙ long) (hb.long ∙ long)
