-- The loop over the lost cells: what the masks are at each, and one turn, on every problem with the first masks.
use mathlib.Core.Path.{◌≡◌, sym, ap, ◌∙◌, subst}
use mathlib.Core.Bool.{Bool, true, false, not, ◌&&◌}
use mathlib.Core.List.{List}
use Prim.Native.Nat.{ℕ, suc, ◌+◌, ◌-◌, ◌^◌, ◌≤◌, ◌<◌}
use native.Mathlib.Omega.{arith}
use lib.Bits.{bit_xor}
use lib.Dec.{eqb, ltb}
use lib.ListN.{length, get_or, set, length-set}
use lib.Seq.{get_or-set_same, get_or-set_other}
use borrow.Author.Tests.{ne_eqb, lt-ltb, ltb-true, not-true}
use Rattle.xor.proofs.Cases.{by_equal, by_less, and_left, and_right, not_passed, clash}
use Rattle.bits.specs.Bit.{bit, IsLowest, Within}
use Rattle.elimination.specs.Method.{State, start, free, choose, passed, stopped, run}
use Rattle.std.specs.Prelude.{Some, None}
use Rattle.solve.specs.Masked.{Sources, first_cell, starts_at, Holding, Added, Own, Lists, Problem, outcome, Masked, Eliminates}
use Rattle.elimination.proofs.Invariant.{chosen_here, chosen_before}
use Rattle.bits.proofs.Limits.{within_ones, within_power, within_xor}
use Rattle.solve.proofs.Turns.{holding_all, added_mask}
use Rattle.elimination.proofs.Run.{Passed as PassedTo, Reached, run_reached}
use Rattle.elimination.proofs.Steps.{run_starts, run_chooses, run_stops, run_skips, run_stays}
use Rattle.solve.proofs.StateMasks.{sources_start, unused_start, free_lowest, free_none, bit_after, sources_next, unused_next}

-- ---- the cells between two lost ones
module _ (n : ℕ) (lost : ℕ → Bool) (u : ℕ) (cell : ℕ → ℕ) (h : Lists n lost u cell) where
  -- a cell after those numbered below k, and before number k, is not lost
  not_lost : (k d : ℕ) → d < n → ((j : ℕ) → j < k → cell j < d) → (k < u → d < cell k) → lost d ≡ false
  not_lost k d l after before = not_passed (λ t. let found = h.all d l t in apart found.0 found.1 found.2)
    where
      apart : (i : ℕ) → i < u → cell i ≡ d → ⊥
      apart i li e =
          by_less i k (λ low. omega (arith, after i low))
          (λ high. by_equal k i (λ same. omega (arith, ap cell same, before (omega arith))) (λ other. omega (arith, h.rising k i (omega arith) li, before (omega arith))))

  -- the run comes to lost cell number k, or past the last one, from any cell after those numbered below k
  module _ (E : ℕ) (equation : ℕ → ℕ → Bool) (s : State) (k c : ℕ) (after : (j : ℕ) → j < k → cell j < c) (at : run E equation lost c ≡ passed s) where
    comes_to : k < u → c ≤ cell k → run E equation lost (cell k) ≡ passed s
    comes_to l le =
        run_skips E equation lost c (cell k) s le
        (λ d lo hi. not_lost k d (let inside = h.inside k l in omega arith) (λ j lj. let low = after j lj in omega arith) (λ _. hi)) at

    comes_past : u ≤ k → c ≤ n → run E equation lost n ≡ passed s
    comes_past l le = run_skips E equation lost c n s le (λ d lo hi. not_lost k d hi (λ j lj. let low = after j lj in omega arith) (λ lk. absurd (omega arith))) at

-- ---- the run at cell c: an unused equation holds no lost cell before it
unused_clear : (E n : ℕ) (equation : ℕ → ℕ → Bool) (lost : ℕ → Bool) (c : ℕ) (s : State) → c ≤ n → run E equation lost c ≡ passed s
    → (d : ℕ) → d < c → lost d ≡ true → (q : ℕ) → q < E → s.used q ≡ false → s.row q d ≡ false
unused_clear E n equation lost c s l at d ld is_lost q lq unused =
    let reached : PassedTo E n equation lost c s = subst (Reached E n equation lost c) at (run_reached E n equation lost c l) in
    let solved = reached.all d ld is_lost in
    reached.keeps.column d solved q lq ∙ ne_eqb q (s.chosen d) (λ same. clash (ap s.used same ∙ reached.keeps.taken d solved) unused)

-- ---- the masks at lost cell number k of a problem

pub record Stands (E u : ℕ) (first : List ℕ) (p : Problem E u first) (rows sources chosen : List ℕ) (unused k : ℕ) : Type 0 where
  pub s : State
  pub here : k < u → run E p.equation p.lost (p.cell k) ≡ passed s
  pub end : u ≤ k → outcome E u first p ≡ passed s
  pub row : (q : ℕ) → q < E → (j : ℕ) → j < u → bit j (get_or rows q 0) ≡ s.row q (p.cell j)
  pub masked : Masked E k p.cell s sources chosen unused

module _ (E u : ℕ) (first : List ℕ) (p : Problem E u first) where
  stands_first : (sources chosen : List ℕ) → Own E sources → Stands E u first p first sources chosen (2 ^ E - 1) 0
  stands_first sources chosen own = record {
    s = s;
    here = λ l. comes_to p.n p.lost u p.cell p.lists E p.equation s 0 0 (λ j lj. absurd (omega arith)) at l (omega arith);
    end = λ l. comes_past p.n p.lost u p.cell p.lists E p.equation s 0 0 (λ j lj. absurd (omega arith)) at l (omega arith);
    row = p.rows;
    masked = record {
      choice = λ j lj. absurd (omega arith);
      source = λ q l. subst (Sources E s q) (sym (own.mask q l)) (sources_start E p.equation q l);
      free = unused_start E p.equation;
    };
  }
    where
      s : State
      s = start p.equation

      at : run E p.equation p.lost 0 ≡ passed s
      at = run_starts E p.equation p.lost

  -- at lost cell number k: the unused equations hold no lost cell numbered below k
  module _ (rows sources chosen : List ℕ) (unused k : ℕ) (few : E < 64) (lu : u ≤ 64) (lk : k < u) (h : Stands E u first p rows sources chosen unused k) where
    abbrev s : State
    s = h.s

    abbrev c : ℕ
    c = p.cell k

    clear : (r : ℕ) → r < E → s.used r ≡ false → (j : ℕ) → j < k → bit j (get_or rows r 0) ≡ false
    clear r lr free j lj =
        h.row r lr j (omega arith)
        ∙ unused_clear E p.n p.equation p.lost c s (let inside = p.lists.inside k lk in omega arith) (h.here lk) (p.cell j) (p.lists.rising j k lj lk) (p.lists.is_lost j (omega arith)) r lr free

    -- there is no equation for it
    stands_stops : IsLowest 64 (starts_at rows unused k) 64 → (c : ℕ) × (s : State) × (outcome E u first p ≡ stopped c s)
    stands_stops none = (
      c,
      s,
      run_stays E p.equation p.lost (suc c) p.n c s (let inside = p.lists.inside k lk in omega arith)
          (run_stops E p.equation p.lost c s (p.lists.is_lost k lk)
          (free_none E s c k rows unused (omega arith) (omega arith) h.masked.free (λ r lr. h.row r lr k lk) clear none) (h.here lk)),
    )

    -- equation q is the lowest one
    stands_more : (rows' sources' : List ℕ) (q m : ℕ) → length rows ≡ E → length sources ≡ E → length chosen ≡ u → q < 64 → IsLowest 64 (starts_at rows unused k) q → Holding E rows k m
        → Added rows (bit_xor m (2 ^ q)) (get_or rows q 0) rows' → Added sources (bit_xor m (2 ^ q)) (get_or sources q 0) sources'
        → Stands E u first p rows' sources' (set chosen k q) (bit_xor unused (2 ^ q)) (k + 1)
    stands_more rows' sources' q m longRows longSources longChosen lq lowest holding addedRows addedSources = record {
      s = s';
      here = λ l. comes_to p.n p.lost u p.cell p.lists E p.equation s' (k + 1) (suc c) after at l (let next = p.lists.rising k (k + 1) (omega arith) l in omega arith);
      end = λ l. comes_past p.n p.lost u p.cell p.lists E p.equation s' (k + 1) (suc c) after at l (let inside = p.lists.inside k lk in omega arith);
      row = λ r lr j lj. ap (bit j) (added_mask rows (bit_xor m (2 ^ q)) (get_or rows q 0) rows' addedRows r (omega arith))
          ∙ bit_after E s c q m below held holds r lr j (get_or rows r 0) (get_or rows q 0) (s.row r (p.cell j)) (s.row q (p.cell j)) (h.row r lr j lj) (h.row q below j lj);
      masked = record {
        choice = λ j lj. by_equal j k
            (λ same. ap (λ (i : ℕ). get_or (set chosen k q) i 0) same ∙ get_or-set_same chosen k q 0 (omega arith) ∙ sym (chosen_here E s c q (p.cell j) (ap p.cell same)))
            (λ other. get_or-set_other chosen k j q 0 other ∙ h.masked.choice j (omega arith)
            ∙ sym (chosen_before E s c q (p.cell j) (λ same. let low = p.lists.rising j k (omega arith) lk in omega arith)));
        source = λ r lr. subst (Sources E s' r) (sym (added_mask sources (bit_xor m (2 ^ q)) (get_or sources q 0) sources' addedSources r (omega arith)))
            (sources_next E s c q m below held holds r lr (get_or sources r 0) (get_or sources q 0) (h.masked.source r lr) (h.masked.source q below));
        free = unused_next E s c q m below held holds unused h.masked.free (not-true (s.used q) (and_left (not (s.used q)) (s.row q c) is_free));
      };
    }
      where
        held : (r : ℕ) → r < E → bit r m ≡ s.row r c
        held r lr = holding.bits r ∙ ap (λ (b : Bool). b && bit k (get_or rows r 0)) (lt-ltb r E lr) ∙ h.row r lr k lk

        found : (q < E) × IsLowest E (free s c) q
        found = free_lowest E s c k rows unused (omega arith) (omega arith) h.masked.free (λ r lr. h.row r lr k lk) clear q lq lowest

        below : q < E
        below = found.0

        is_free : free s c q ≡ true
        is_free = found.1.passes below

        holds : s.row q c ≡ true
        holds = and_right (not (s.used q)) (s.row q c) is_free

        s' : State
        s' = choose E s c q

        at : run E p.equation p.lost (suc c) ≡ passed s'
        at = run_chooses E p.equation p.lost c q s (p.lists.is_lost k lk) below found.1 (h.here lk)

        after : (j : ℕ) → j < k + 1 → p.cell j < suc c
        after j lj = by_equal j k (λ same. omega (arith, ap p.cell same)) (λ other. let low = p.lists.rising j k (omega arith) lk in omega arith)

-- ---- the equation that is found is one of them, and so are those that hold a cell

pub found_below : (E : ℕ) (rows : List ℕ) (unused k q : ℕ) → Within E unused → q < 64 → IsLowest 64 (starts_at rows unused k) q → q < E
found_below E rows unused k q within lq lowest = within.below q (and_left (bit q unused) (eqb (first_cell (get_or rows q 0)) k) (lowest.passes lq))

pub within_holding : (E : ℕ) (rows : List ℕ) (k m : ℕ) → Holding E rows k m → Within E m
within_holding E rows k m h = record { below = λ r p. ltb-true r E (and_left (ltb r E) (bit k (get_or rows r 0)) (sym (h.bits r) ∙ p)) }

-- ---- on every problem with the first masks

pub record Sofar (E u : ℕ) (first rows sources chosen : List ℕ) (unused k : ℕ) : Type 0 where
  pub long_rows : length rows ≡ E
  pub long_sources : length sources ≡ E
  pub long_chosen : length chosen ≡ u
  pub within : Within E unused
  pub stands : (p : Problem E u first) → Stands E u first p rows sources chosen unused k

module _ (E u : ℕ) (first : List ℕ) where
  pub sofar_first : (sources chosen : List ℕ) (one : ℕ) → length first ≡ E → length sources ≡ E → length chosen ≡ u → Own E sources → one ≡ 2 ^ E
      → Sofar E u first first sources chosen (one - 1) 0
  sofar_first sources chosen one long_rows long_sources long_chosen own e = record {
    long_rows = long_rows;
    long_sources = long_sources;
    long_chosen = long_chosen;
    within = within_ones E one e;
    stands = λ p. subst (λ (x : ℕ). Stands E u first p first sources chosen (x - 1) 0) (sym e) (stands_first E u first p sources chosen own);
  }

  pub sofar_more : (rows sources chosen rows' sources' : List ℕ) (unused unused' k q one m : ℕ) → E < 64 → u ≤ 64 → k < u → q < 64
      → IsLowest 64 (starts_at rows unused k) q → one ≡ 2 ^ q → Holding (length rows) rows k m
      → Added rows (bit_xor m one) (get_or rows q 0) rows' → Added sources (bit_xor m one) (get_or sources q 0) sources' → unused' ≡ bit_xor unused one
      → Sofar E u first rows sources chosen unused k → Sofar E u first rows' sources' (set chosen k q) unused' (k + 1)
  sofar_more rows sources chosen rows' sources' unused unused' k q one m few lu lk lq lowest e holding addedRows addedSources left h = record {
    long_rows = addedRows.long ∙ h.long_rows;
    long_sources = addedSources.long ∙ h.long_sources;
    long_chosen = length-set chosen k q ∙ h.long_chosen;
    within = subst (Within E) (sym left) (within_xor E unused one h.within (within_power E q one e (found_below E rows unused k q h.within lq lowest)));
    stands = λ p. subst (λ (x : ℕ). Stands E u first p rows' sources' (set chosen k q) x (k + 1)) (ap (bit_xor unused) (sym e) ∙ sym left)
        (stands_more E u first p rows sources chosen unused k few lu lk (h.stands p) rows' sources' q m h.long_rows h.long_sources h.long_chosen lq lowest (holding_all rows k m (length rows) E h.long_rows holding)
        (subst (λ (x : ℕ). Added rows (bit_xor m x) (get_or rows q 0) rows') e addedRows)
        (subst (λ (x : ℕ). Added sources (bit_xor m x) (get_or sources q 0) sources') e addedSources));
  }

  -- whatever is left in what is lent
  pub sofar_stops : (rows sources chosen left : List ℕ) (unused k : ℕ) → E < 64 → u ≤ 64 → k < u → IsLowest 64 (starts_at rows unused k) 64
      → Sofar E u first rows sources chosen unused k → Eliminates E u first sources left None
  sofar_stops rows sources chosen left unused k few lu lk none h = record { answers = λ p. stands_stops E u first p rows sources chosen unused k few lu lk (h.stands p) none }

  pub sofar_all : (rows sources chosen : List ℕ) (unused k : ℕ) → k ≡ u
      → Sofar E u first rows sources chosen unused k → Eliminates E u first sources chosen (Some unused)
  sofar_all rows sources chosen unused k e h = record {
    answers = λ p. let at = h.stands p in (at.s, at.end (omega arith), subst (λ (n : ℕ). Masked E n p.cell at.s sources chosen unused) e at.masked);
  }
