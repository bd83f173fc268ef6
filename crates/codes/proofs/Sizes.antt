-- How many parity cells depend on a data cell, by its position: the set of their equations, counted.
use mathlib.Core.Path.{◌≡◌, refl, sym, ap, ap₂, ◌∙◌}
use mathlib.Core.Logic.{◌≢◌}
use mathlib.Core.Bool.{Bool, true, false, cond, ◌&&◌, ◌||◌}
use Prim.Native.Nat.{ℕ, zero, suc, ◌+◌, ◌-◌, ◌*◌, ◌%◌, ◌^◌, ◌≤◌, ◌<◌}
use native.Mathlib.Nat.{mod-lt, mod-eq_of_lt, zero-add}
use native.Mathlib.Omega.{arith}
use lib.Bits.{bit_and, bit_or, bit_xor}
use lib.Dec.{eqb, leb, ltb}
use borrow.Author.Tests.{lt-ltb, le-ltb, lt-leb, le-leb, eq-eqb, ne_eqb}
use Rattle.xor.specs.Sets.{count}
use Rattle.xor.proofs.Cases.{by_equal, by_less}
use Rattle.xor.proofs.Sets.{count_same, count_insert, count_never}
use Rattle.bits.specs.Bit.{bit}
use Rattle.bits.proofs.Bits.{bit_or_lem}
use Rattle.codes.specs.declared.Shape.{Shape}
use Rattle.codes.specs.Shape.{equations, cell_number, WellFormed}
use Rattle.codes.specs.Depends.{DataCell, DependOn}
use Rattle.codes.specs.Holders.{HeldBy, Named, NamedFrom}
use Rattle.codes.proofs.Shapes.{low}
use Rattle.codes.proofs.Residues.{wrapped}
use Rattle.codes.proofs.Lines.{rdp_columns}
use Rattle.codes.proofs.Positions.{rdp_n, hcode_n, xcode_n, evenodd_n}
use Rattle.codes.proofs.Held.{named_is, from_is, rdp_held, hcode_held, xcode_held, evenodd_held, evenodd_all_held}
use Rattle.codes.proofs.Depends.{off_last, rdp_row_small, rdp_column_small, two_diagonals, rdp_depends, hcode_row_small, hcode_column_small, hcode_off, one_of_them, xcode_row_small, evenodd_row_small, evenodd_column_small, other_depends}

-- one number more, if it is below n
count_put : (n a : ℕ) (test : ℕ → Bool) → test a ≡ false → count n (λ k. eqb k a || test k) ≡ cond (ltb a n) 1 0 + count n test
count_put n a test new =
    by_less a n
    (λ l. rw (lt-ltb a n l) (count_insert n test a l new))
    (λ l. rw (le-ltb a n l) (count_same n (λ k. eqb k a || test k) test (λ k lk. ap (λ (b : Bool). b || test k) (ne_eqb k a (λ e. omega arith))) ∙ sym (zero-add (count n test))))

-- of a + b numbers those from a on
count_from : (a b : ℕ) → count (a + b) (λ k. leb a k) ≡ b
unfolding count
count_from a zero = ap (λ (n : ℕ). count n (λ k. leb a k)) (let z : a + 0 ≡ a = omega arith in z) ∙ count_never a (λ k. leb a k) (λ k l. lt-leb a k l)
count_from a (suc b) = ap (λ (n : ℕ). count n (λ k. leb a k)) (let z : a + suc b ≡ suc (a + b) = omega arith in z) ∙ ap₂ ◌+◌ (count_from a b) (ap (λ (x : Bool). cond x 1 0) (le-leb a (a + b) (omega arith))) ∙ (let z : b + 1 ≡ suc b = omega arith in z)

-- the set of two equations, those of them that there are
module _ (s : Shape) where
  -- as a number
  pair : ℕ → ℕ → ℕ
  pair a b = bit_and (bit_or (2 ^ a) (2 ^ b)) (2 ^ equations s - 1)

  pair_set : (a b : ℕ) → Named s a b (pair a b)
  unfolding pair
  pair_set a b = named_is s a b (equations s) (2 ^ a) (2 ^ b) (2 ^ equations s) refl refl refl refl

  three_size : (a b d m : ℕ) → a ≢ b → a ≢ d → b ≢ d → ((q : ℕ) → q < equations s → bit q m ≡ (eqb q a || (eqb q b || eqb q d)))
      → count (equations s) (λ q. bit q m) ≡ cond (ltb a (equations s)) 1 0 + (cond (ltb b (equations s)) 1 0 + cond (ltb d (equations s)) 1 0)
  three_size a b d m nab nad nbd is =
      count_same (equations s) (λ q. bit q m) (λ q. eqb q a || (eqb q b || (eqb q d || false))) (λ q l. is q l ∙ ap (λ (x : Bool). eqb q a || (eqb q b || x)) (sym (or_false (eqb q d))))
      ∙ count_put (equations s) a (λ q. eqb q b || (eqb q d || false)) (rw (ne_eqb a b nab, ne_eqb a d nad) refl)
      ∙ ap (λ (x : ℕ). cond (ltb a (equations s)) 1 0 + x) (count_put (equations s) b (λ q. eqb q d || false) (rw (ne_eqb b d nbd) refl)
      ∙ ap (λ (x : ℕ). cond (ltb b (equations s)) 1 0 + x) (count_put (equations s) d (λ q. false) refl ∙ omega (arith, count_never (equations s) (λ q. false) (λ q l. refl))))
    where
      or_false : (b : Bool) → (b || false) ≡ b
      or_false true = refl
      or_false false = refl

-- cell (i, j) is data: the set m of the equations whose parity cells depend on it has n members
pub record Sized (s : Shape) (c n : ℕ) : Type 0 where
  pub set : ℕ
  pub depends : DependOn s c set
  pub size : count (equations s) (λ q. bit q set) ≡ n

module _ (s : Shape) (w : WellFormed s) (i j : ℕ) (cell : DataCell s i j) where
  -- RDP: 2 where i = 0 or i + j = p - 1, otherwise 3
  module _ (is-rdp : s.code ≡ 1) where
    small : i < s.p - 1
    small = rdp_row_small s w i j cell is-rdp

    small' : j < s.p - 1
    small' = rdp_column_small s w i j cell is-rdp

    a : ℕ
    a = s.p - 1 + (i + j) % s.p

    b : ℕ
    b = s.p - 1 + (i + (s.p - 1)) % s.p

    pub rdp_size : Sized s (cell_number s i j) (cond (eqb i 0 || eqb (i + j) (s.p - 1)) 2 3)
    unfolding a b
    rdp_size = record {
      set = bit_or (pair s i a) (pair s i b);
      depends = rdp_depends s w i j cell is-rdp (pair s i a) (pair s i b)
          (rdp_held s w i j cell.low cell.right (pair s i a) is-rdp ((i + j) % s.p) (λ e. omega (arith, small')) refl (pair_set s i a))
          (rdp_held s w i (s.p - 1) cell.low (omega (arith, rdp_columns s w is-rdp)) (pair s i b) is-rdp ((i + (s.p - 1)) % s.p) (λ e. omega (arith, small)) refl (pair_set s i b));
      size = three_size s i a b (bit_or (pair s i a) (pair s i b)) (λ e. omega (arith, small)) (λ e. omega (arith, small)) (λ e. two_diagonals s w i j cell is-rdp (omega arith)) members ∙ rw (lt-ltb i (equations s) known) counted;
    }
      where
        known : i < equations s
        known = omega (arith, small, rdp_n s w is-rdp)

        last : i ≡ 0 → equations s ≤ b
        last e = let at : (i + (s.p - 1)) % s.p ≡ i + (s.p - 1) = mod-eq_of_lt (omega (arith, low s w)) in omega (arith, rdp_n s w is-rdp)

        not_last : i ≢ 0 → b < equations s
        not_last e = let at = wrapped s.p (i + (s.p - 1)) (omega (arith, low s w)) (omega (arith, small, low s w)) in omega (arith, rdp_n s w is-rdp, small, low s w)

        off_diagonal : i + j ≡ s.p - 1 → equations s ≤ a
        off_diagonal z = let at : (i + j) % s.p ≡ i + j = mod-eq_of_lt (omega (arith, low s w)) in omega (arith, rdp_n s w is-rdp)

        inside_diagonal : i + j ≢ s.p - 1 → a < equations s
        inside_diagonal z = omega (arith, off_last s.p i j small (omega (arith, small')) z, rdp_n s w is-rdp)

        counted : 1 + (cond (ltb a (equations s)) 1 0 + cond (ltb b (equations s)) 1 0) ≡ cond (eqb i 0 || eqb (i + j) (s.p - 1)) 2 3
        counted =
            by_equal i 0
            (λ e. rw (eq-eqb i 0 e, le-ltb b (equations s) (last e), lt-ltb a (equations s) (inside_diagonal (λ z. omega (arith, small')))) refl)
            (λ e. rw (ne_eqb i 0 e, lt-ltb b (equations s) (not_last e))
            (by_equal (i + j) (s.p - 1)
            (λ z. rw (eq-eqb (i + j) (s.p - 1) z, le-ltb a (equations s) (off_diagonal z)) refl)
            (λ z. rw (ne_eqb (i + j) (s.p - 1) z, lt-ltb a (equations s) (inside_diagonal z)) refl)))

        members : (q : ℕ) → q < equations s → bit q (bit_or (pair s i a) (pair s i b)) ≡ (eqb q i || (eqb q a || eqb q b))
        members q l = bit_or_lem q (pair s i a) (pair s i b) ∙ ap₂ ◌||◌ ((pair_set s i a).bits q) ((pair_set s i b).bits q) ∙ rw (lt-ltb q (equations s) l) (join (eqb q i) (eqb q a) (eqb q b))
          where
            join : (x y z : Bool) → ((x || y) || (x || z)) ≡ (x || (y || z))
            join true y z = refl
            join false y z = refl

  -- H-Code and X-Code: always 2; EVENODD off the diagonal of S too
  two_size : (a b : ℕ) → a ≢ b → a < equations s → b < equations s → s.code ≢ 1 → HeldBy s (cell_number s i j) (pair s a b) → Sized s (cell_number s i j) 2
  two_size a b n la lb other held = record {
    set = pair s a b;
    depends = other_depends s w i j cell other (pair s a b) held;
    size = three_size s a b (equations s) (pair s a b) n (λ e. omega arith) (λ e. omega arith) (λ q l. (pair_set s a b).bits q ∙ rw (lt-ltb q (equations s) l, ne_eqb q (equations s) (λ e. omega arith)) (or_nothing (eqb q a) (eqb q b)))
        ∙ rw (lt-ltb a (equations s) la, lt-ltb b (equations s) lb, le-ltb (equations s) (equations s) (omega arith)) refl;
  }
    where
      or_nothing : (x y : Bool) → (x || y) ≡ (x || (y || false))
      or_nothing true y = refl
      or_nothing false true = refl
      or_nothing false false = refl

  pub hcode_size : s.code ≡ 2 → Sized s (cell_number s i j) 2
  hcode_size is-hcode =
      let row = hcode_row_small s w i j cell is-hcode in
      let column = hcode_column_small s w i j cell is-hcode in
      let turn : (j + (s.p - 2 - i)) % s.p < s.p = mod-lt (j + (s.p - 2 - i)) (omega arith) in
      let one = one_of_them s w i j cell is-hcode in
      two_size i (s.p - 1 + (j + (s.p - 2 - i)) % s.p) (λ e. omega arith) (omega (arith, hcode_n s w is-hcode)) (omega (arith, hcode_n s w is-hcode)) (λ e. omega arith)
      (hcode_held s w i j cell.low cell.right (pair s i (s.p - 1 + (j + (s.p - 2 - i)) % s.p)) is-hcode ((j + (s.p - 2 - i)) % s.p) (λ e. omega arith) (hcode_off s w i j cell is-hcode) refl (pair_set s i (s.p - 1 + (j + (s.p - 2 - i)) % s.p)))

  pub xcode_size : s.code ≡ 3 → Sized s (cell_number s i j) 2
  xcode_size is-xcode =
      let row = xcode_row_small s w i j cell is-xcode in
      let turn : (j + (s.p - 2 - i)) % s.p < s.p = mod-lt (j + (s.p - 2 - i)) (omega arith) in
      let turn' : (j + (i + 2)) % s.p < s.p = mod-lt (j + (i + 2)) (omega arith) in
      two_size ((j + (s.p - 2 - i)) % s.p) (s.p + (j + (i + 2)) % s.p) (λ e. omega arith) (omega (arith, xcode_n s w is-xcode)) (omega (arith, xcode_n s w is-xcode)) (λ e. omega arith)
      (xcode_held s w i j cell.low cell.right (pair s ((j + (s.p - 2 - i)) % s.p) (s.p + (j + (i + 2)) % s.p)) is-xcode ((j + (s.p - 2 - i)) % s.p) ((j + (i + 2)) % s.p) (λ e. omega arith) (λ e. omega arith) refl refl (pair_set s ((j + (s.p - 2 - i)) % s.p) (s.p + (j + (i + 2)) % s.p)))

  -- EVENODD: p where i + j = p - 1, otherwise 2
  module _ (is-evenodd : s.code ≡ 4) where
    level : i < s.p - 1
    level = evenodd_row_small s w i j cell is-evenodd

    right : j < s.p
    right = evenodd_column_small s w i j cell is-evenodd

    -- the set of row i and of all diagonals, as a number
    all : ℕ
    all = bit_or (2 ^ i) (bit_xor (2 ^ equations s - 1) (2 ^ (s.p - 1) - 1))

    all_set : NamedFrom s i (s.p - 1) all
    unfolding all
    all_set = from_is s i (s.p - 1) (equations s) (2 ^ i) (2 ^ equations s) (2 ^ (s.p - 1)) (omega (arith, level, evenodd_n s w is-evenodd)) (omega (arith, evenodd_n s w is-evenodd)) refl refl refl refl

    -- one row, and p - 1 diagonals
    all_size : count (equations s) (λ q. bit q all) ≡ s.p
    all_size =
        count_same (equations s) (λ q. bit q all) (λ q. eqb q i || leb (s.p - 1) q) (λ q l. all_set.bits q ∙ ap (λ (b : Bool). b && (eqb q i || leb (s.p - 1) q)) (lt-ltb q (equations s) l))
        ∙ count_insert (equations s) (λ q. leb (s.p - 1) q) i (omega (arith, level, evenodd_n s w is-evenodd)) (lt-leb (s.p - 1) i level)
        ∙ omega (arith, count_from (s.p - 1) (s.p - 1), ap (λ (n : ℕ). count n (λ q. leb (s.p - 1) q)) (evenodd_n s w is-evenodd ∙ (let z : 2 * (s.p - 1) ≡ s.p - 1 + (s.p - 1) = omega arith in z)), low s w)

    pub evenodd_size : Sized s (cell_number s i j) (cond (eqb (i + j) (s.p - 1)) s.p 2)
    evenodd_size =
        by_equal (i + j) (s.p - 1)
        (λ e. rw (eq-eqb (i + j) (s.p - 1) e) (record {
          set = all;
          depends = other_depends s w i j cell (λ z. omega arith) all (evenodd_all_held s w i j cell.low cell.right all is-evenodd right e all_set);
          size = all_size;
        }))
        (λ e. rw (ne_eqb (i + j) (s.p - 1) e) (let small = off_last s.p i j level right e in
        two_size i (s.p - 1 + (i + j) % s.p) (λ z. omega (arith, level)) (omega (arith, level, evenodd_n s w is-evenodd)) (omega (arith, evenodd_n s w is-evenodd)) (λ z. omega arith)
        (evenodd_held s w i j cell.low cell.right (pair s i (s.p - 1 + (i + j) % s.p)) is-evenodd ((i + j) % s.p) right e refl (pair_set s i (s.p - 1 + (i + j) % s.p)))))
