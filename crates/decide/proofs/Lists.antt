-- The loops that list and gather, one turn of each as a law on plain lists.
use mathlib.Core.Path.{◌≡◌, refl, sym, ap, ap₂, ◌∙◌, subst}
use mathlib.Core.Logic.{◌≢◌}
use mathlib.Core.List.{List}
use mathlib.Core.Bool.{Bool, true, false, ◌&&◌, xor}
use Prim.Native.Nat.{ℕ, zero, suc, ◌+◌, ◌*◌, ◌/◌, ◌%◌, ◌^◌, ◌≤◌, ◌<◌}
use native.Mathlib.Nat.{mod-lt, div-lt_iff_lt-mul, div-add-mod'}
use native.Mathlib.Omega.{arith}
use lib.Dec.{eqb, ltb}
use lib.ListN.{length, get_or, get_or-map, set, take, length-set, length-take, replicate, get_or-replicate, length-replicate, get_or-eq_default}
use lib.Seq.{get_or-set_same, get_or-set_other, get_or-take, map-set_same}
use Rattle.std.specs.Prelude.{Some}
use Rattle.std.proofs.lemmas.List.{map-set, length-map, take-map}
use borrow.Author.Tests.{eq-eqb, ne_eqb, ltb-true}
use Rattle.xor.specs.Sets.{count}
use Rattle.xor.proofs.Cases.{by_equal, by_less, clash, and_left}
use Rattle.xor.proofs.Sets.{count_none, count_in, count_out}
use Rattle.bits.specs.Bit.{bit, Within, TakesLowest}
use Rattle.bits.proofs.Bits.{bit_zero, bit_power}
use Rattle.bits.proofs.Finding.{taken_is, left_within, left_without, left_others}
use Rattle.bits.proofs.Tests.{add_nothing}
use Rattle.solve.specs.Masked.{Added}
use Rattle.solve.proofs.StateMasks.{bit_added}
use Rattle.solve.proofs.Turns.{added_mask}
use Rattle.codes.specs.declared.Shape.{Shape}
use Rattle.codes.specs.Shape.{rows, columns, cells, equations, cell_number, WellFormed}
use Rattle.codes.specs.Holders.{holds, HeldBy}
use Rattle.codes.proofs.Shapes.{rows_low, small_equations}
use Rattle.codes.proofs.Held.{held_is}
use Rattle.decide.specs.declared.Lost.{Lost}
use Rattle.decide.specs.Solver.{lost_in, cells_of, sets_of, Listed, Gathered, Checks, Rows}

-- ---- what a list names

pub gathered_none : (list sources sets : List ℕ) → Gathered list sources 0 sets
gathered_none list sources sets = record { set = λ k l. absurd (omega arith) }

pub gathered_more : (list sources : List ℕ) (k x : ℕ) (sets : List ℕ) → k < length sets → x ≡ get_or sources (get_or list k 0) 0 → Gathered list sources k sets → Gathered list sources (k + 1) (set sets k x)
gathered_more list sources k x sets l is h = record {
  set = λ j lj. by_equal j k
      (λ e. ap (λ (i : ℕ). get_or (set sets k x) i 0) e ∙ get_or-set_same sets k x 0 l ∙ is ∙ ap (λ (i : ℕ). get_or sources (get_or list i 0) 0) (sym e))
      (λ e. get_or-set_other sets k j x 0 e ∙ h.set j (omega arith));
}

pub gathered_all : (list sources : List ℕ) (k n : ℕ) (sets : List ℕ) → n ≤ k → Gathered list sources k sets → Gathered list sources n sets
gathered_all list sources k n sets l h = record { set = λ j lj. h.set j (omega arith) }

-- ---- a lost cell is given its set

pub record GivenTo (old : List Lost) (chosen sources : List ℕ) (k : ℕ) (new : List Lost) : Type 0 where
  pub long : length new ≡ length old
  pub same : cells_of new ≡ cells_of old
  pub given : Gathered chosen sources k (sets_of new)

module _ (old : List Lost) (chosen sources : List ℕ) where
  pub given_none : GivenTo old chosen sources 0 old
  given_none = record { long = refl; same = refl; given = gathered_none chosen sources (sets_of old) }

  pub given_more : (k : ℕ) (new : List Lost) (d x : Lost) → k < length new → x.cell ≡ (get_or new k d).cell → x.set ≡ get_or sources (get_or chosen k 0) 0
      → GivenTo old chosen sources k new → GivenTo old chosen sources (k + 1) (set new k x)
  given_more k new d x l cell is h = record {
    long = length-set new k x ∙ h.long;
    same = map-set_same (λ y. y.cell) new k x d cell ∙ h.same;
    given = subst (Gathered chosen sources (k + 1)) (sym (map-set (λ y. y.set) new k x))
        (gathered_more chosen sources k x.set (sets_of new) (omega (arith, length-map new (λ y. y.set))) is h.given);
  }

-- ---- the sources of the members of a set: those in rest are still to come

pub record ChecksTo (unused : ℕ) (sources : List ℕ) (v rest : ℕ) (checks : List ℕ) : Type 0 where
  pub few : v ≤ 64
  pub long : length checks ≡ 64
  pub high : (q : ℕ) → bit q rest ≡ true → v ≤ q
  pub within : (q : ℕ) → bit q rest ≡ true → bit q unused ≡ true
  pub made : (j : ℕ) → j < v → (q : ℕ) × (bit q unused ≡ true) × (get_or checks j 0 ≡ get_or sources q 0)
  pub all : (q : ℕ) → q < 64 → bit q unused ≡ true → bit q rest ≡ false → (j : ℕ) × (j < v) × (get_or checks j 0 ≡ get_or sources q 0)

module _ (unused : ℕ) (sources : List ℕ) where
  pub checks_none : (rest : ℕ) (checks : List ℕ) → rest ≡ unused → length checks ≡ 64 → ChecksTo unused sources 0 rest checks
  checks_none rest checks e long = record {
    few = omega arith;
    long = long;
    high = λ q p. omega arith;
    within = λ q p. ap (bit q) (sym e) ∙ p;
    made = λ j l. absurd (omega arith);
    all = λ q l p n. clash p (ap (bit q) (sym e) ∙ n);
  }

  module _ (v rest t left : ℕ) (checks : List ℕ) (took : TakesLowest rest (Some t) left) (h : ChecksTo unused sources v rest checks) where
    here : bit t rest ≡ true
    here = taken_is rest t left took

    low : v ≤ t
    low = h.high t here

    pub checks_room : v < length checks
    checks_room = let below = took.0 in omega (arith, low, h.long)

    abbrev source : ℕ
    source = get_or sources t 0

    above : (q : ℕ) → bit q left ≡ true → t < q
    above q p =
        by_less q t (λ l. clash (left_within rest t left took q p) (took.1.before q l))
        (λ l. by_equal q t (λ e. clash p (left_without rest t left took q e)) (λ n. omega arith))

    at_new : get_or (set checks v source) v 0 ≡ source
    at_new = get_or-set_same checks v source 0 checks_room

    at_old : (j : ℕ) → j < v → get_or (set checks v source) j 0 ≡ get_or checks j 0
    at_old j l = get_or-set_other checks v j source 0 (λ e. omega arith)

    pub checks_more : ChecksTo unused sources (v + 1) left (set checks v source)
    checks_more = record {
      few = omega (arith, low, took.0);
      long = length-set checks v source ∙ h.long;
      high = λ q p. omega (arith, low, above q p);
      within = λ q p. h.within q (left_within rest t left took q p);
      made = λ j l. by_equal j v (λ e. (t, h.within t here, ap (λ (i : ℕ). get_or (set checks v source) i 0) e ∙ at_new))
          (λ n. let found = h.made j (omega arith) in (found.0, found.1, at_old j (omega arith) ∙ found.2));
      all = λ q l p n. by_equal q t (λ e. (v, omega arith, at_new ∙ ap (λ (i : ℕ). get_or sources i 0) (sym e)))
          (λ other. let found = h.all q l p (sym (left_others rest t left took q other) ∙ n) in (found.0, omega (arith, found.1), at_old found.0 found.1 ∙ found.2));
    }

  -- none is still to come
  pub checks_all : (v rest : ℕ) (checks : List ℕ) → rest ≡ 0 → ChecksTo unused sources v rest checks → Checks unused sources (take v checks)
  checks_all v rest checks e h = record {
    few = omega (arith, long, h.few);
    made = λ j l. let found = h.made j (omega (arith, long)) in (found.0, found.1, at j (omega (arith, long)) ∙ found.2);
    all = λ q l p. let found = h.all q l p (ap (bit q) e ∙ bit_zero q) in (found.0, omega (arith, long, found.1), at found.0 found.1 ∙ found.2);
  }
    where
      long : length (take v checks) ≡ v
      long = simp length-take (omega (arith, h.few, h.long))

      at : (j : ℕ) → j < v → get_or (take v checks) j 0 ≡ get_or checks j 0
      at j l = rw get_or-take

-- ---- the lost cells by rising number: those below c

pub record ListedTo (lost : ℕ → Bool) (c u : ℕ) (list : List ℕ) : Type 0 where
  pub long : length list ≡ 64
  pub room : u ≤ 64
  pub number : u ≡ count c lost
  pub rising : (j k : ℕ) → j < k → k < u → get_or list j 0 < get_or list k 0
  pub low : (k : ℕ) → k < u → get_or list k 0 < c
  pub is_lost : (k : ℕ) → k < u → lost (get_or list k 0) ≡ true
  pub all : (d : ℕ) → d < c → lost d ≡ true → (k : ℕ) × (k < u) × (get_or list k 0 ≡ d)

module _ (lost : ℕ → Bool) where
  pub listed_none : (list : List ℕ) → length list ≡ 64 → ListedTo lost 0 0 list
  listed_none list long = record {
    long = long;
    room = omega arith;
    number = sym (count_none lost);
    rising = λ j k l lk. absurd (omega arith);
    low = λ k l. absurd (omega arith);
    is_lost = λ k l. absurd (omega arith);
    all = λ d l. absurd (omega arith);
  }

  -- cell c is not lost
  pub listed_over : (c u : ℕ) (list : List ℕ) → lost c ≡ false → ListedTo lost c u list → ListedTo lost (c + 1) u list
  listed_over c u list p h = record {
    long = h.long;
    room = h.room;
    number = count_out c u u lost h.number p refl;
    rising = h.rising;
    low = λ k l. let low = h.low k l in omega arith;
    is_lost = h.is_lost;
    all = λ d l q. by_equal d c (λ e. clash q (ap lost e ∙ p)) (λ e. h.all d (omega arith) q);
  }

  -- cell c is lost
  module _ (c u : ℕ) (list : List ℕ) (p : lost c ≡ true) (room : u < 64) (h : ListedTo lost c u list) where
    abbrev longer : List ℕ
    longer = set list u c

    last : (k : ℕ) → k ≡ u → get_or longer k 0 ≡ c
    last k e = ap (λ (i : ℕ). get_or longer i 0) e ∙ get_or-set_same list u c 0 (omega (arith, h.long))

    before : (k : ℕ) → k ≢ u → get_or longer k 0 ≡ get_or list k 0
    before k e = get_or-set_other list u k c 0 e

    pub listed_with : ListedTo lost (c + 1) (u + 1) longer
    listed_with = record {
      long = length-set list u c ∙ h.long;
      room = omega arith;
      number = count_in c u (u + 1) lost h.number p refl;
      rising = λ j k l lk. by_equal k u
          (λ e. subst (λ (x : ℕ). get_or longer j 0 < x) (sym (last k e)) (subst (λ (x : ℕ). x < c) (sym (before j (λ z. omega arith))) (h.low j (omega arith))))
          (λ e. subst (λ (x : ℕ). get_or longer j 0 < x) (sym (before k e)) (subst (λ (x : ℕ). x < get_or list k 0) (sym (before j (λ z. omega arith))) (h.rising j k l (omega arith))));
      low = λ k l. by_equal k u (λ e. omega (arith, last k e)) (λ e. omega (arith, before k e, h.low k (omega arith)));
      is_lost = λ k l. by_equal k u (λ e. ap lost (last k e) ∙ p) (λ e. ap lost (before k e) ∙ h.is_lost k (omega arith));
      all = λ d l q. by_equal d c (λ e. (u, omega arith, last u refl ∙ sym e))
          (λ e. let found = h.all d (omega arith) q in (found.0, omega (arith, found.1), before found.0 (λ z. omega (arith, found.1)) ∙ found.2));
    }

  -- the same with the numbers as the code has them
  pub listed_is : (c u u' : ℕ) (list list' : List ℕ) → list' ≡ list → u' ≡ u → ListedTo lost c u list → ListedTo lost c u' list'
  listed_is c u u' list list' p q h = subst (λ (l : List ℕ). ListedTo lost c u' l) (sym p) (subst (λ (n : ℕ). ListedTo lost c n list) (sym q) h)

-- more cells, more that are lost
count_grows : (m n : ℕ) (test : ℕ → Bool) → m ≤ n → count m test ≤ count n test
unfolding count
count_grows m zero test l = let z : m ≡ 0 = omega arith in subst (λ (k : ℕ). count k test ≤ 0) (sym z) (omega arith)
count_grows m (suc n) test l = by_equal m (suc n) (λ e. subst (λ (k : ℕ). count k test ≤ count (suc n) test) (sym e) (omega arith)) (λ e. omega (arith, count_grows m n test (omega arith)))

module _ (s : Shape) (lostMap : List Bool) where
  -- all cells were looked at
  pub listed_end : (c u : ℕ) (list : List Lost) → c ≡ cells s → u ≤ equations s → ListedTo (lost_in lostMap) c u (cells_of list) → Listed s lostMap (take u list)
  listed_end c u list e few h = record {
    lists = record {
      rising = λ j k l lk. let inside : k < u = omega (arith, long) in omega (arith, at j (omega arith), at k inside, h.rising j k l inside);
      inside = λ k lk. let inside : k < u = omega (arith, long) in omega (arith, at k inside, h.low k inside);
      is_lost = λ k lk. let inside : k < u = omega (arith, long) in ap (lost_in lostMap) (at k inside) ∙ h.is_lost k inside;
      all = λ d ld p. let found = h.all d (omega arith) p in (found.0, omega (arith, found.1, long), at found.0 found.1 ∙ found.2);
    };
    few = omega (arith, long);
  }
    where
      long : length (take u list) ≡ u
      long = simp length-take (omega (arith, h.long, length-map list (λ x. x.cell), h.room))

      at : (k : ℕ) → k < u → get_or (cells_of (take u list)) k 0 ≡ get_or (cells_of list) k 0
      at k l = ap (λ (xs : List ℕ). get_or xs k 0) (sym (take-map (λ x. x.cell) u list)) ∙ get_or-take u (cells_of list) k 0 l

  -- one more is lost than there are equations
  pub listed_more : (c u : ℕ) (list : List ℕ) → c < cells s → u ≡ equations s → lost_in lostMap c ≡ true → ListedTo (lost_in lostMap) c u list → equations s < count (cells s) (lost_in lostMap)
  listed_more c u list l e p h = let one = count_in c u (u + 1) (lost_in lostMap) h.number p refl in omega (arith, count_grows (c + 1) (cells s) (lost_in lostMap) (omega arith))

-- ---- which equations hold which lost cell

new : (a f b : Bool) → a ≡ false → b ≡ true → xor a (f && b) ≡ f
unfolding xor
new false true true e p = refl
new false false true e p = refl
new true f b e p = clash refl e
new false f false e p = clash p refl

module _ (s : Shape) (list : List ℕ) where
  pub rows_none : (rows : List ℕ) → ((q : ℕ) → get_or rows q 0 ≡ 0) → Rows s 0 list rows
  rows_none rows zero' = record { bits = λ q l k lk. absurd (omega arith); none = λ q l k lk. ap (bit k) (zero' q) ∙ bit_zero k }

  -- lost cell number k is added to the masks of the equations that hold it
  pub rows_more : (k : ℕ) (rows : List ℕ) → length rows ≡ equations s → (m : ℕ) → HeldBy s (get_or list k 0) m → (one : ℕ) → one ≡ 2 ^ k → (rows' : List ℕ) → Added rows m one rows' → Rows s k list rows → Rows s (k + 1) list rows'
  rows_more k rows long m held one power rows' added h = record {
    bits = λ q l j lj. change q l j ∙ by_equal j k
        (λ e. new (bit j (get_or rows q 0)) (holds s q (get_or list k 0)) (eqb j k) (h.none q l j (omega arith)) (eq-eqb j k e) ∙ ap (λ (i : ℕ). holds s q (get_or list i 0)) (sym e))
        (λ e. add_nothing (bit j (get_or rows q 0)) (holds s q (get_or list k 0)) (eqb j k) (ne_eqb j k e) ∙ h.bits q l j (omega arith));
    none = λ q l j lj. change q l j ∙ add_nothing (bit j (get_or rows q 0)) (holds s q (get_or list k 0)) (eqb j k) (ne_eqb j k (λ e. omega arith)) ∙ h.none q l j (omega arith);
  }
    where
      change : (q : ℕ) → q < equations s → (j : ℕ) → bit j (get_or rows' q 0) ≡ xor (bit j (get_or rows q 0)) (holds s q (get_or list k 0) && eqb j k)
      change q l j =
          ap (bit j) (added_mask rows m one rows' added q (omega arith)) ∙ bit_added j q m (get_or rows q 0) one
          ∙ ap₂ (λ (a b : Bool). xor (bit j (get_or rows q 0)) (a && b)) (held_is s (get_or list k 0) m held q l) (ap (bit j) power ∙ bit_power j k)

  pub rows_all : (k u : ℕ) (rows : List ℕ) → k ≡ u → Rows s k list rows → Rows s u list rows
  rows_all k u rows e h = subst (λ (n : ℕ). Rows s n list rows) e h

-- ---- a cell's row and column, as the code works them out

module _ (s : Shape) (w : WellFormed s) (c n : ℕ) (inside : c < cells s) (is : n ≡ rows s) where
  pub rows_some : 0 < n
  rows_some = omega (arith, rows_low s w)

  pub row_in : c % n < rows s
  row_in = subst (λ (k : ℕ). c % n < k) is (mod-lt c rows_some)

  pub column_in : c / n < columns s
  unfolding cells
  column_in = (div-lt_iff_lt-mul rows_some).1 (subst (λ (k : ℕ). c < columns s * k) (sym is) inside)

  pub held_at : (m : ℕ) → HeldBy s (cell_number s (c % n) (c / n)) m → HeldBy s c m
  unfolding cell_number
  held_at m held = subst (λ (k : ℕ). HeldBy s k m) (ap (λ (k : ℕ). c / n * k + c % n) (sym is) ∙ div-add-mod' c n) held

-- the equations that hold it
pub within_held : (s : Shape) (c m : ℕ) → HeldBy s c m → Within (equations s) m
within_held s c m held = record { below = λ q p. ltb-true q (equations s) (and_left (ltb q (equations s)) (holds s q c) (sym (held.bits q) ∙ p)) }

-- the cell of a lost cell, as the code reads it
pub cell_at : (list : List Lost) (k : ℕ) → get_or (cells_of list) k 0 ≡ (get_or list k (record { cell = 0; set = 0 })).cell
cell_at list k = get_or-map (λ x. x.cell) list k (record { cell = 0; set = 0 })

-- and its set
pub set_at : (list : List Lost) (k : ℕ) → get_or (sets_of list) k 0 ≡ (get_or list k (record { cell = 0; set = 0 })).set
set_at list k = get_or-map (λ x. x.set) list k (record { cell = 0; set = 0 })

-- ---- a new array

pub new_at : {A : Type 0} (n q : ℕ) (a : A) → get_or (replicate n a) q a ≡ a
new_at n q a = by_less q n (get_or-replicate n q a a) (λ l. get_or-eq_default (replicate n a) a (omega (arith, length-replicate n a)))

pub zeros_at : (n q : ℕ) → ◌≡◌ {A = ℕ} (get_or (replicate n 0) q 0) 0
zeros_at n q = new_at n q 0

pub first_zeros_at : (n m q : ℕ) → ◌≡◌ {A = ℕ} (get_or (take m (replicate n 0)) q 0) 0
first_zeros_at n m q =
    by_less q m (λ l. get_or-take m (replicate n 0) q 0 l ∙ zeros_at n q)
    (λ l. get_or-eq_default (take m (replicate n 0)) 0 (omega (arith, length-take m (replicate {A = ℕ} n 0))))

-- room for each equation, and for each of few lost cells
pub for_equations : (s : Shape) → WellFormed s → (n : ℕ) → n ≡ equations s → length (take n (replicate {A = ℕ} 64 0)) ≡ equations s
for_equations s w n e = simp (length-take, length-replicate) (omega (arith, small_equations s w))

pub for_lost : (s : Shape) → WellFormed s → (u : ℕ) → u ≤ equations s → length (take u (replicate {A = ℕ} 64 0)) ≡ u
for_lost s w u few = simp (length-take, length-replicate) (omega (arith, small_equations s w))

pub first_zeros_few : (n m : ℕ) → length (take m (replicate {A = ℕ} n 0)) ≤ n
first_zeros_few n m = simp (length-take, length-replicate) (omega arith)
