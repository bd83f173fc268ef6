-- A small write: the difference of old and new bytes goes into the parity cells of a set of equations, one after the other, and then the data cell is
-- written. The set's parity cells and the data cell solve every equation, so that is the XOR with an encoded stripe.
use mathlib.Core.Path.{◌≡◌, refl, sym, ap, ap₂, ◌∙◌, subst}
use mathlib.Core.Logic.{◌≢◌, inl, inr, ⊎_elim}
use mathlib.Core.List.{List}
use mathlib.Core.Bool.{Bool, true, false, cond, not, ◌&&◌, and-true}
use Prim.Native.Nat.{ℕ, ◌+◌, ◌-◌, ◌≤◌, ◌<◌}
use native.Mathlib.Omega.{arith}
use lib.Bits.{bit_and}
use lib.Dec.{eqb}
use lib.ListN.{length, get_or}
use borrow.Author.Tests.{eq-eqb, ne_eqb, eqb-true}
use Rattle.xor.specs.Xor.{◌⊕◌}
use Rattle.xor.specs.Runs.{changed_by, Beside, Put}
use Rattle.xor.specs.Sets.{count}
use Rattle.xor.proofs.Cases.{by_test, by_equal, clash, and_left}
use Rattle.xor.proofs.Algebra.{⊕_zero, ⊕_cancel}
use Rattle.xor.proofs.Sets.{any_some}
use Rattle.bits.specs.Bit.{bit, IsLowest}
use Rattle.bits.proofs.Bits.{bit_zero}
use Rattle.bits.proofs.Masks.{clear_lowest}
use Rattle.codes.specs.declared.Shape.{Shape}
use Rattle.codes.specs.Shape.{cells, equations, cell_number, WellFormed}
use Rattle.codes.specs.Geometry.{cell_there, place}
use Rattle.codes.specs.Encoded.{parity_cell, byte_at, is_parity, Solves}
use Rattle.codes.specs.Depends.{unit_of, DependOn, WriteRight}
use Rattle.codes.proofs.Ordered.{ordered}
use Rattle.codes.proofs.Parity.{sum_same}
use Rattle.codes.proofs.Positions.{cell_inside}
use Rattle.codes.proofs.Geometry.{place_inside, place_apart, cell_there_at, byte_there, byte_same, parity_there, missing_plain}
use Rattle.codes.proofs.Units.{not_parity, unit_own, unit_parity, unit_data, unit_scaled}
use Rattle.stripe.specs.Parts.{differs, Spread, FromCell}
use Rattle.stripe.specs.Write.{Written, Depending}
use Rattle.codes.proofs.Built.{built, Blank, built_long, built_at}

-- ---- where the runs are

-- the data cell of a small write that is right
pub write_from : (s : Shape) (n row column m from : ℕ) (stripe bytes : List ℕ) → WriteRight s n row column m → from ≡ place s (cell_number s row column)
    → length stripe ≡ n → length bytes ≡ m → FromCell s stripe from bytes
write_from s n row column m from stripe bytes h at ls lb = record {
  formed = h.formed;
  long = ls ∙ h.long;
  cell = cell_number s row column;
  at = at;
  inside = cell_inside s h.formed row column h.cell.low h.cell.right;
  there = cell_there_at s h.formed row column h.cell.low ∙ h.there;
  plain = h.cell.plain;
  whole = lb ∙ h.whole;
}

module _ (s : Shape) (from : ℕ) (stripe bytes : List ℕ) (h : FromCell s stripe from bytes) where
  -- its run is inside a stripe as long
  pub from_fits : (mid : List ℕ) → length mid ≡ length stripe → from + length bytes ≤ length mid
  from_fits mid same = omega (arith, same, h.at, h.whole, h.long, place_inside s h.formed h.cell h.inside h.there)

  -- and beside that of a parity cell
  pub part_fits : (mid : List ℕ) → length mid ≡ length stripe → (q to : ℕ) → to ≡ place s (parity_cell s q) → q < equations s
      → (to + length bytes ≤ length mid) × (from + length bytes ≤ length mid) × Beside to from (length bytes)
  part_fits mid same q to e l = (
    omega (arith, same, e, h.whole, h.long, place_inside s h.formed (parity_cell s q) ((ordered s h.formed).inside q l) (parity_there s h.formed q l)),
    from_fits mid same,
    subst (λ (n : ℕ). Beside to from n) (sym h.whole)
        (⊎_elim (λ side. inl (omega (arith, e, h.at))) (λ side. inr (omega (arith, e, h.at))) (place_apart s h.formed h.cell (parity_cell s q) h.there (parity_there s h.formed q l) (not_parity s h.cell q h.plain l))),
  )

-- a run that is put into a cell leaves the other cells
beside : (s : Shape) (w : WellFormed s) (c to n : ℕ) (f : ℕ → ℕ) (old new : List ℕ) → cell_there s c ≡ true → to ≡ place s c → n ≡ s.cell → Put old to n f new
    → (k : ℕ) → k < cells s → k ≢ c → (t : ℕ) → t < s.cell → byte_at s new k t ≡ byte_at s old k t
beside s w c to n f old new there at whole put k lk other t lt =
    byte_same s w new old k t
    (λ here. put.outer (place s k + t) (⊎_elim (λ side. inl (omega (arith, at))) (λ side. inr (omega (arith, at, whole))) (place_apart s w k c here there other)))

-- ---- the loop over the set m: the parity cells of its equations that are not in rest are done

pub record SpreadTo (s : Shape) (m rest : ℕ) (d : ℕ → ℕ) (old new : List ℕ) : Type 0 where
  pub within : (q : ℕ) → bit q rest ≡ true → bit q m ≡ true
  pub so : Spread s (λ q. bit q m && not (bit q rest)) d old new

module _ (s : Shape) (m from : ℕ) (bytes old : List ℕ) (h : FromCell s old from bytes) where
  abbrev d : ℕ → ℕ
  d = differs old from bytes

  pub spread_none : SpreadTo s m m d old old
  spread_none = record {
    within = λ q p. p;
    so = record { long = refl; kept = record { same = λ k lk p t lt. refl }; added = λ q l t lt. sym (⊕_zero (byte_at s old (parity_cell s q) t)) ∙ ap (λ (b : Bool). byte_at s old (parity_cell s q) t ⊕ cond b (d t) 0) (sym (never (bit q m))) };
  }
    where
      never : (b : Bool) → (b && not b) ≡ false
      never true = refl
      never false = refl

  -- the lowest equation q that is still to come
  module _ (rest q to : ℕ) (mid new : List ℕ) (lq : q < 64) (lowest : IsLowest 64 (λ k. bit k rest) q) (l : q < equations s) (at : to ≡ place s (parity_cell s q)) (turn : SpreadTo s m rest d old mid)
      (put : Put mid to (length bytes) (changed_by mid to from bytes) new) where
    left : (r : ℕ) → bit r (bit_and rest (rest - 1)) ≡ (bit r rest && not (eqb r q))
    left = clear_lowest 64 rest q lowest lq

    here : bit q rest ≡ true
    here = lowest.passes lq

    -- a byte of the data cell
    at_cell : (bytes : List ℕ) (t : ℕ) → get_or bytes (from + t) 0 ≡ byte_at s bytes h.cell t
    at_cell bytes t = ap (λ (i : ℕ). get_or bytes (i + t) 0) h.at ∙ sym (byte_there s h.formed bytes h.cell t h.there)

    -- its own parity cell: not changed before, and the data cell is as it was
    own : (t : ℕ) → t < s.cell → byte_at s new (parity_cell s q) t ≡ byte_at s old (parity_cell s q) t ⊕ d t
    unfolding changed_by
    own t lt =
        byte_there s h.formed new (parity_cell s q) t (parity_there s h.formed q l) ∙ ap (λ (i : ℕ). get_or new (i + t) 0) (sym at)
        ∙ put.inner t (omega (arith, h.whole))
        ∙ ap₂ (λ (x y : ℕ). x ⊕ (y ⊕ get_or bytes t 0))
        (ap (λ (i : ℕ). get_or mid (i + t) 0) at ∙ sym (byte_there s h.formed mid (parity_cell s q) t (parity_there s h.formed q l)) ∙ turn.so.added q l t lt
        ∙ ap₂ (λ (a b : Bool). byte_at s old (parity_cell s q) t ⊕ cond (a && not b) (d t) 0) (turn.within q here) here ∙ ⊕_zero (byte_at s old (parity_cell s q) t))
        (at_cell mid t ∙ turn.so.kept.same h.cell h.inside h.plain t lt ∙ sym (at_cell old t))

    others : (k : ℕ) → k < cells s → k ≢ parity_cell s q → (t : ℕ) → t < s.cell → byte_at s new k t ≡ byte_at s mid k t
    others = beside s h.formed (parity_cell s q) to (length bytes) (changed_by mid to from bytes) mid new (parity_there s h.formed q l) at h.whole put

    pub spread_more : SpreadTo s m (bit_and rest (rest - 1)) d old new
    spread_more = record {
      within = λ r p. turn.within r (and_left (bit r rest) (not (eqb r q)) (sym (left r) ∙ p));
      so = record {
        long = put.long ∙ turn.so.long;
        kept = record { same = λ k lk p t lt. others k lk (not_parity s k q p l) t lt ∙ turn.so.kept.same k lk p t lt };
        added = λ r lr t lt. by_equal r q
            (λ e. ap (λ (i : ℕ). byte_at s new (parity_cell s i) t) e ∙ own t lt ∙ ap₂ (λ (i : ℕ) (b : Bool). byte_at s old (parity_cell s i) t ⊕ cond b (d t) 0) (sym e) (sym (done r e)))
            (λ e. others (parity_cell s r) ((ordered s h.formed).inside r lr) (λ z. e ((ordered s h.formed).once r q lr l z)) t lt ∙ turn.so.added r lr t lt
            ∙ ap (λ (b : Bool). byte_at s old (parity_cell s r) t ⊕ cond (bit r m && not b) (d t) 0) (sym (left r ∙ ap (λ (b : Bool). bit r rest && not b) (ne_eqb r q e) ∙ and-true (bit r rest))));
      };
    }
      where
        done : (r : ℕ) → r ≡ q → (bit r m && not (bit r (bit_and rest (rest - 1)))) ≡ true
        done r e = ap₂ (λ (a b : Bool). a && not b) (ap (λ (i : ℕ). bit i m) e ∙ turn.within q here) (left r ∙ ap₂ (λ (a b : Bool). a && not b) (ap (λ (i : ℕ). bit i rest) e ∙ here) (eq-eqb r q e))

  pub spread_all : (rest : ℕ) (new : List ℕ) → rest ≡ 0 → SpreadTo s m rest d old new → Spread s (λ q. bit q m) d old new
  spread_all rest new e turn = record {
    long = turn.so.long;
    kept = turn.so.kept;
    added = λ q l t lt. turn.so.added q l t lt ∙ ap (λ (b : Bool). byte_at s old (parity_cell s q) t ⊕ cond b (d t) 0) (ap (λ (b : Bool). bit q m && not b) (ap (bit q) e ∙ bit_zero q) ∙ and-true (bit q m));
  }

-- ---- what is written: the XOR with F t in byte t, where F t has the difference in the data cell, 0 in other data, and solves the equations

module _ (s : Shape) (w : WellFormed s) (c : ℕ) (inside : c < cells s) (there : cell_there s c ≡ true) (old bytes : List ℕ) (F : ℕ → ℕ → ℕ)
    (own : (t : ℕ) → F t c ≡ byte_at s old c t ⊕ get_or bytes t 0) (zeros : (t k : ℕ) → is_parity s k ≡ false → k ≢ c → F t k ≡ 0) (solves : (t : ℕ) → Solves s (F t)) where
  -- 0 in the cells that don't exist, as they are other data
  blank : Blank s F
  blank t lt k lk none = zeros t k (missing_plain s w k none) (λ e. clash there (ap (cell_there s) (sym e) ∙ none))

  pub written_by : (new : List ℕ) → length new ≡ length old → ((k : ℕ) → k < cells s → (t : ℕ) → t < s.cell → byte_at s new k t ≡ byte_at s old k t ⊕ F t k) → Written s c old bytes new
  written_by new long h = record {
    long = long;
    difference = built s F;
    alone = record {
      long = built_long s F;
      own = λ t lt. built_at s w F blank c inside t lt ∙ own t;
      zeros = λ k lk p n t lt. built_at s w F blank k lk t lt ∙ zeros t k p n;
      encoded = record {
        holds = λ q lq t lt.
            built_at s w F blank (parity_cell s q) ((ordered s w).inside q lq) t lt ∙ solves t q lq ∙ sym (sum_same s q (λ k. byte_at s (built s F) k t) (F t) (λ k lk p. built_at s w F blank k lk t lt));
      };
    };
    sum = λ k lk t lt. h k lk t lt ∙ ap (λ (x : ℕ). byte_at s old k t ⊕ x) (sym (built_at s w F blank k lk t lt));
  }

module _ (s : Shape) (w : WellFormed s) (c : ℕ) (plain : is_parity s c ≡ false) (m : ℕ) (h : DependOn s c m) where
  -- x where the unit of the set is 1
  times : ℕ → ℕ → ℕ
  times x k = cond (eqb (unit_of s c m k) 1) x 0

  times_at : (x k : ℕ) (b : Bool) → unit_of s c m k ≡ cond b 1 0 → times x k ≡ cond b x 0
  unfolding times
  times_at x k true e = ap (λ (u : ℕ). cond (eqb u 1) x 0) e
  times_at x k false e = ap (λ (u : ℕ). cond (eqb u 1) x 0) e

  -- the set's parity cells, and then the data cell
  pub written : c < cells s → cell_there s c ≡ true → (from n : ℕ) (bytes old mid new : List ℕ) → from ≡ place s c → n ≡ s.cell → Spread s (λ q. bit q m) (differs old from bytes) old mid → Put mid from n (λ t. get_or bytes t 0) new
      → Written s c old bytes new
  unfolding times is_parity
  written inside there from n bytes old mid new at whole parts put =
      written_by s w c inside there old bytes (λ t. times (differs old from bytes t))
      (λ t. times_at (differs old from bytes t) c true (unit_own s w c m plain) ∙ ap (λ (i : ℕ). i ⊕ get_or bytes t 0) (at_cell old t))
      (λ t k p e. times_at (differs old from bytes t) k false (unit_data s w c m plain k p e))
      (λ t. unit_scaled s c m (differs old from bytes t) h.solves)
      new (put.long ∙ parts.long) sum
    where
      x : ℕ → ℕ
      x = differs old from bytes

      at_cell : (bytes : List ℕ) (t : ℕ) → get_or bytes (from + t) 0 ≡ byte_at s bytes c t
      at_cell bytes t = ap (λ (i : ℕ). get_or bytes (i + t) 0) at ∙ sym (byte_there s w bytes c t there)

      others : (k : ℕ) → k < cells s → k ≢ c → (t : ℕ) → t < s.cell → byte_at s new k t ≡ byte_at s mid k t
      others = beside s w c from n (λ t. get_or bytes t 0) mid new there at whole put

      sum : (k : ℕ) → k < cells s → (t : ℕ) → t < s.cell → byte_at s new k t ≡ byte_at s old k t ⊕ times (x t) k
      sum k lk t lt =
          by_equal k c
          (λ e. ap (λ (i : ℕ). byte_at s new i t) e ∙ sym (at_cell new t) ∙ put.inner t (omega (arith, whole))
          ∙ sym (⊕_cancel (get_or old (from + t) 0) (get_or bytes t 0))
          ∙ ap₂ ◌⊕◌ (at_cell old t ∙ ap (λ (i : ℕ). byte_at s old i t) (sym e)) (sym (ap (times (x t)) e ∙ times_at (x t) c true (unit_own s w c m plain))))
          (λ e. others k lk e t lt ∙ by_test (is_parity s k) parity
          (λ p. parts.kept.same k lk p t lt ∙ sym (⊕_zero (byte_at s old k t)) ∙ ap (λ (y : ℕ). byte_at s old k t ⊕ y) (sym (times_at (x t) k false (unit_data s w c m plain k p e)))))
        where
          parity : is_parity s k ≡ true → byte_at s mid k t ≡ byte_at s old k t ⊕ times (x t) k
          parity p =
              let found = any_some (equations s) (λ q. eqb (parity_cell s q) k) p in
              let is = eqb-true (parity_cell s found.0) k found.2 in
              subst (λ (i : ℕ). byte_at s mid i t ≡ byte_at s old i t ⊕ times (x t) i) is
              (parts.added found.0 found.1 t lt
              ∙ ap (λ (y : ℕ). byte_at s old (parity_cell s found.0) t ⊕ y) (sym (times_at (x t) (parity_cell s found.0) (bit found.0 m) (unit_parity s w c m plain found.0 found.1))))

  -- and how many parity cells depend on it
  pub depending : (n : ℕ) → count (cells s) (λ k. is_parity s k && not (eqb (unit_of s c m k) 0)) ≡ n → Depending s c n
  depending n e = record {
    unit = unit_of s c m;
    alone = record { own = unit_own s w c m plain; zeros = λ k lk p z. unit_data s w c m plain k p z; holds = h.solves };
    size = sym e;
  }
