-- The places of the cells of a line, filled in one after the other, and of the parity cell, which is apart from them.
use mathlib.Core.Path.{◌≡◌, refl, sym, ap, ap₂, ◌∙◌, subst}
use mathlib.Core.Logic.{◌≢◌, ◌⊎◌}
use mathlib.Core.List.{List}
use mathlib.Core.Bool.{Bool, cond}
use Prim.Native.Nat.{ℕ, zero, suc, ◌+◌, ◌*◌, ◌≤◌, ◌<◌}
use native.Mathlib.Nat.{mul-le-mul, add-mul}
use native.Mathlib.Omega.{arith}
use lib.Dec.{eqb}
use lib.ListN.{length, get_or, set, length-set}
use lib.Seq.{get_or-set_same, get_or-set_other}
use borrow.Author.Tests.{eq-eqb, ne_eqb}
use Rattle.std.specs.Option.{unwrap_or}
use Rattle.std.specs.declared.option.Option.{Option}
use Rattle.std.specs.declared.option.Option.TheVariants.{None, Some}
use Rattle.xor.specs.Xor.{◌⊕◌, xors}
use Rattle.xor.proofs.Cases.{by_equal, clash, and_left}
use Rattle.xor.proofs.Algebra.{⊕_comm}
use Rattle.xor.proofs.Sums.{xors_same, xors_more}
use Rattle.codes.specs.declared.Shape.{Shape}
use Rattle.codes.specs.declared.Line.{Line}
use Rattle.codes.specs.declared.Walk.{Walk}
use Rattle.codes.specs.declared.Sources.{Sources}
use Rattle.codes.specs.Shape.{equations, stripe_length, WellFormed}
use Rattle.codes.specs.Geometry.{callers_cell, place}
use Rattle.codes.specs.Encoded.{parity_cell, sums_cell, byte_at}
use Rattle.codes.specs.Lines.{own_cell, sum_where, walked, Short, Covers, Walks, Placed, PlacedAll, Listing, Found, Holding}
use Rattle.codes.proofs.Shapes.{most_bytes}
use Rattle.codes.proofs.Ordered.{ordered}
use Rattle.codes.proofs.Geometry.{place_inside, place_small, place_apart, parity_there, byte_there, byte_missing}
use Rattle.codes.proofs.Stepping.{walked_next, count_plain, count_extra, cell_walked, cell_extra}

-- ---- one cell after the other

-- a line by its numbers alone
abbrev pub line : ℕ → ℕ → ℕ → ℕ → Line
line first step turn second = record { count = 0; first = first; step = step; turn = turn; second = second; extra = None }

-- the code has filled in the places of the first k cells, and stands at cell k
pub record Filled (l : Line) (count : ℕ) (places : List ℕ) (at k : ℕ) : Type 0 where
  pub long : length places ≡ 32
  pub here : at ≡ walked l k
  pub done : (j : ℕ) → j < k → get_or places j 0 ≡ walked l j

module _ (l : Line) (count : ℕ) where
  pub filled_none : (places : List ℕ) → length places ≡ 32 → Filled l count places l.first 0
  unfolding walked
  filled_none places long = record { long = long; here = refl; done = λ j lj. absurd (omega arith) }

  pub filled_more : (places : List ℕ) (at k next : ℕ) → k < 32 → Filled l count places at k → next ≡ cond (eqb (k + 1) l.turn) l.second (at + l.step)
      → Filled l count (set places k at) next (k + 1)
  filled_more places at k next lk h e = record {
    long = length-set places k at ∙ h.long;
    here = e ∙ ap (λ (x : ℕ). cond (eqb (k + 1) l.turn) l.second (x + l.step)) h.here ∙ sym (walked_next l k);
    done = λ j lj. by_equal j k
        (λ q. ap (λ (i : ℕ). get_or (set places k at) i 0) q ∙ get_or-set_same places k at 0 (omega (arith, h.long)) ∙ h.here ∙ ap (walked l) (sym q))
        (λ q. get_or-set_other places k j at 0 q ∙ h.done j (omega arith));
  }

-- ---- cells in bytes

module _ (s : Shape) (w : WellFormed s) (l : Line) where
  -- the line with its numbers in bytes
  abbrev pub in_bytes : Line
  in_bytes = line (l.first * s.cell) (l.step * s.cell) l.turn (l.second * s.cell)

  pub bytes_walked : (k : ℕ) → walked in_bytes k ≡ walked l k * s.cell
  unfolding walked
  bytes_walked zero = refl
  bytes_walked (suc k) =
      by_equal (suc k) l.turn
      (λ e. rw (eq-eqb (suc k) l.turn e) refl)
      (λ e. rw (ne_eqb (suc k) l.turn e)
      (ap (λ (x : ℕ). x + l.step * s.cell) (bytes_walked k) ∙ sym (add-mul (walked l k) l.step s.cell)))

  module _ (h : Short l) where
    pub bytes_small : (n : ℕ) → n ≤ 1024 → n * s.cell ≤ 4194304
    bytes_small n l = mul-le-mul l w.cell_high

    pub walked_small : (k at : ℕ) → k < l.count → at ≡ walked in_bytes k → at ≤ 4194304
    walked_small k at lk e = omega (arith, bytes_walked k, bytes_small (walked l k) (h.at k lk))

  pub all_placed : (places : List ℕ) (at k : ℕ) → Filled in_bytes l.count places at k → l.count ≤ k → Placed s l places
  all_placed places at k f lk = record { long = f.long; at = λ j lj. f.done j (omega arith) ∙ bytes_walked j }

-- ---- all cells of a line: those that it walks, and the extra one

module _ (s : Shape) (l : Line) (places : List ℕ) (at : Placed s l places) where
  pub all_plain : l.extra ≡ None → PlacedAll s l l.count places
  all_plain e = record {
    all = sym (count_plain l e);
    long = at.long;
    at = λ k lk. at.at k lk ∙ ap (λ (c : ℕ). c * s.cell) (sym (cell_walked l k lk));
  }

  pub all_extra : (x : ℕ) → l.count ≤ 31 → l.extra ≡ Some x → PlacedAll s l (l.count + 1) (set places l.count (x * s.cell))
  all_extra x few e = record {
    all = sym (count_extra l x e);
    long = length-set places l.count (x * s.cell) ∙ at.long;
    at = λ k lk. by_equal k l.count
        (λ z. ap (λ (j : ℕ). get_or (set places l.count (x * s.cell)) j 0) z ∙ get_or-set_same places l.count (x * s.cell) 0 (omega (arith, at.long)) ∙ ap (λ (c : ℕ). c * s.cell) (sym (cell_extra l k (omega arith) ∙ ap (λ (o : Option ℕ). unwrap_or o 0) e)))
        (λ z. let lk' : k < l.count = omega arith in get_or-set_other places l.count k (x * s.cell) 0 z ∙ at.at k lk' ∙ ap (λ (c : ℕ). c * s.cell) (sym (cell_walked l k lk')));
  }

-- ---- the cells that a line covers, listed

module _ (s : Shape) (w : WellFormed s) (test : ℕ → Bool) (l : Line) (h : Covers s test l) (n : ℕ) (places : List ℕ) (p : PlacedAll s l n places) where
  at_place : (k : ℕ) → k < n → get_or places k 0 ≡ place s (h.cell k)
  unfolding place
  at_place k lk = p.at k lk ∙ ap (λ (c : ℕ). c * s.cell) (h.at k (omega (arith, p.all)))

  byte_of : (stripe : List ℕ) (t k : ℕ) → k < n → get_or stripe (get_or places k 0 + t) 0 ≡ byte_at s stripe (h.cell k) t
  byte_of stripe t k lk = ap (λ (x : ℕ). get_or stripe (x + t) 0) (at_place k lk) ∙ sym (byte_there s w stripe (h.cell k) t (h.there k (omega (arith, p.all))))

  pub listing : Listing s (sum_where s test) n places
  listing = record {
    few = omega (arith, p.all, h.short.few);
    long = p.long;
    inside = λ k lk. subst (λ (x : ℕ). x + s.cell ≤ stripe_length s) (sym (at_place k lk)) (place_inside s w (h.cell k) (h.inside k (omega (arith, p.all))) (h.there k (omega (arith, p.all))));
    is = λ stripe t.
        xors_same n (λ k. get_or stripe (get_or places k 0 + t) 0) (λ k. byte_at s stripe (h.cell k) t) (byte_of stripe t)
        ∙ ap (λ (m : ℕ). xors m (λ k. byte_at s stripe (h.cell k) t)) p.all ∙ sym (h.sum (λ c. byte_at s stripe c t) (λ c none. byte_missing s w stripe c t none));
  }

-- ---- the parity cell, and those that its equation sums

module _ (s : Shape) (w : WellFormed s) (q : ℕ) (lq : q < equations s) where
  pub parity_at : (x : ℕ) → x ≡ callers_cell s (parity_cell s q) → x * s.cell ≡ place s (parity_cell s q)
  unfolding place
  parity_at x e = ap (λ (c : ℕ). c * s.cell) e

  pub parity_small : place s (parity_cell s q) ≤ most_bytes
  parity_small = place_small s w (parity_cell s q) ((ordered s w).inside q lq) (parity_there s w q lq)

  module _ (l : Walk) (h : Walks s q l) (n : ℕ) (places : List ℕ) (p : PlacedAll s l.own n places) where
    -- the parity cell is none of those that its equation sums
    parity_apart : (k : ℕ) → k < n → h.own.cell k ≢ parity_cell s q
    unfolding own_cell
    parity_apart k lk e = clash (and_left (sums_cell s q (h.own.cell k)) _ (h.own.passes k (omega (arith, p.all)))) (ap (sums_cell s q) e ∙ (ordered s w).unsummed q q (omega arith) lq)

    to : ℕ
    to = l.to * s.cell

    to_is : to ≡ place s (parity_cell s q)
    unfolding to
    to_is = parity_at l.to h.to

    pub found : Found s q (record { to = l.to * s.cell; count = n }) places
    unfolding to
    found = record {
      to = to_is;
      few = omega (arith, p.all, h.own.short.few);
      ends = subst (λ (x : ℕ). x + s.cell ≤ stripe_length s) (sym to_is) (place_inside s w (parity_cell s q) ((ordered s w).inside q lq) (parity_there s w q lq));
      apart = λ k lk. subst (λ (x : ℕ). (x + s.cell ≤ to) ⊎ (to + s.cell ≤ x)) (sym (at_place s w (own_cell s q) l.own h.own n places p k lk))
          (subst (λ (y : ℕ). (place s (h.own.cell k) + s.cell ≤ y) ⊎ (y + s.cell ≤ place s (h.own.cell k))) (sym to_is) (place_apart s w (h.own.cell k) (parity_cell s q) (h.own.there k (omega (arith, p.all))) (parity_there s w q lq) (parity_apart k lk)));
      listed = listing s w (own_cell s q) l.own h.own n places p;
    }

-- the place of the parity cell behind the others
module _ (s : Shape) (w : WellFormed s) (q : ℕ) (lq : q < equations s) (r : Sources) (places : List ℕ) (h : Found s q r places) where
  last : get_or (set places r.count r.to) r.count 0 ≡ r.to
  last = get_or-set_same places r.count r.to 0 (omega (arith, h.few, h.listed.long))

  before : (k : ℕ) → k < r.count → get_or (set places r.count r.to) k 0 ≡ get_or places k 0
  before k l = get_or-set_other places r.count k r.to 0 (λ e. omega arith)

  pub holding : Holding s q (r.count + 1) (set places r.count r.to)
  holding = record {
    few = omega (arith, h.few);
    long = length-set places r.count r.to ∙ h.listed.long;
    inside = λ k l. by_equal k r.count
        (λ e. subst (λ (x : ℕ). x + s.cell ≤ stripe_length s) (sym (ap (λ (j : ℕ). get_or (set places r.count r.to) j 0) e ∙ last)) h.ends)
        (λ n. let lk : k < r.count = omega arith in subst (λ (x : ℕ). x + s.cell ≤ stripe_length s) (sym (before k lk)) (h.listed.inside k lk));
    is = λ stripe t.
        xors_more r.count (λ k. get_or stripe (get_or (set places r.count r.to) k 0 + t) 0)
        ∙ ap₂ ◌⊕◌
        (xors_same r.count (λ k. get_or stripe (get_or (set places r.count r.to) k 0 + t) 0) (λ k. get_or stripe (get_or places k 0 + t) 0) (λ k l. ap (λ (x : ℕ). get_or stripe (x + t) 0) (before k l))
        ∙ h.listed.is stripe t)
        (ap (λ (x : ℕ). get_or stripe (x + t) 0) (last ∙ h.to) ∙ sym (byte_there s w stripe (parity_cell s q) t (parity_there s w q lq)))
        ∙ ⊕_comm (sum_where s (own_cell s q) (λ c. byte_at s stripe c t)) (byte_at s stripe (parity_cell s q) t);
  }
