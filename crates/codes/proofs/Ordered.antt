-- The equations in their order: each parity cell is in the stripe and no other's, and no equation up to its own sums it.
-- One computed test over the four codes and the ten primes, on the rows and columns of the parity cells.
use mathlib.Core.Path.{◌≡◌, refl, sym, ◌∙◌}
use mathlib.Core.Bool.{Bool, true, false, cond, not, ◌&&◌, ◌||◌, beq}
use Prim.Native.Nat.{ℕ, ◌+◌, ◌-◌, ◌*◌, ◌%◌, ◌≤◌, ◌<◌}
use native.Mathlib.Omega.{arith}
use lib.Dec.{eqb, ltb}
use borrow.Author.Tests.{ltb-true, eq-eqb, eqb-true, lt-ltb, not-false}
use Rattle.std.specs.declared.option.Option.TheVariants.{None}
use Rattle.xor.specs.Sets.{any}
use Rattle.xor.proofs.Cases.{by_less, clash, and_left, and_right, and_both, not_passed}
use Rattle.xor.proofs.Sets.{neither_left, neither_right, any_none}
use Rattle.codes.specs.declared.Shape.{Shape}
use Rattle.codes.specs.Equations.{code_of, equation}
use Rattle.codes.specs.Shape.{last_code, listed, rows, columns, equations, cells, WellFormed}
use Rattle.codes.specs.Encoded.{parity_cell, sums_cell}
use Rattle.codes.proofs.Shapes.{each_prime, each_code}
use Rattle.codes.proofs.Positions.{cell_inside, same_row, same_column, sums_of}

-- the equation that sums the parity cell of equation r of the first family: RDP's diagonals hold the row parity column; in the other codes there is none
abbrev pub after : Shape → ℕ → ℕ
after s r = cond (eqb s.code 1) (s.p - 1 + (r + (s.p - 1)) % s.p) (2 * (code_of s).size)

-- equation q sums the parity cell (i, j) of equation r although it should not, or has it as its own and comes before
astray : Shape → ℕ → ℕ → ℕ → ℕ → Bool
astray s r i j q = let e = equation s q in not (beq (e.sums i j) (ltb r (rows s) && eqb q (after s r))) || (ltb q r && eqb e.row i && eqb e.column j)

-- the parity cell of equation r is outside, or some equation goes astray on it
wrong : Shape → ℕ → Bool
wrong s r = let e = equation s r in not (ltb e.row (rows s) && ltb e.column (columns s)) || any (equations s) (astray s r e.row e.column)

-- the test of a code at a prime
disordered : (code p : ℕ) → Bool
disordered code p = let s : Shape = record { code = code; p = p; cell = 1; width = None } in any (equations s) (wrong s)

in_order : (code : ℕ) → 1 ≤ code → code ≤ last_code → (p : ℕ) → listed p ≡ true → disordered code p ≡ false
unfolding disordered wrong astray any equations rows columns equation
in_order =
    each_code (λ c. (p : ℕ) → listed p ≡ true → disordered c p ≡ false)
    (each_prime (λ p. disordered 1 p ≡ false) refl refl refl refl refl refl refl refl refl refl)
    (each_prime (λ p. disordered 2 p ≡ false) refl refl refl refl refl refl refl refl refl refl)
    (each_prime (λ p. disordered 3 p ≡ false) refl refl refl refl refl refl refl refl refl refl)
    (each_prime (λ p. disordered 4 p ≡ false) refl refl refl refl refl refl refl refl refl refl)

-- what the test says of a well-formed shape
pub record Ordered (s : Shape) : Type 0 where
  pub inside : (r : ℕ) → r < equations s → parity_cell s r < cells s
  pub unsummed : (q r : ℕ) → q ≤ r → r < equations s → sums_cell s q (parity_cell s r) ≡ false
  pub once : (q r : ℕ) → q < equations s → r < equations s → parity_cell s q ≡ parity_cell s r → q ≡ r

same_bool : (a b : Bool) → beq a b ≡ true → a ≡ b
same_bool true true h = refl
same_bool true false h = sym h
same_bool false true h = h
same_bool false false h = refl

module _ (s : Shape) (w : WellFormed s) where
  passes : any (equations s) (wrong s) ≡ false
  unfolding disordered wrong astray equations rows columns equation
  passes = in_order s.code w.code_low w.code_high s.p w.prime

  module _ (r : ℕ) (lr : r < equations s) where
    -- where the parity cell of equation r stands
    abbrev i : ℕ
    i = (equation s r).row

    abbrev j : ℕ
    j = (equation s r).column

    right : wrong s r ≡ false
    right = any_none (equations s) (wrong s) passes r lr

    there : (ltb i (rows s) && ltb j (columns s)) ≡ true
    unfolding wrong
    there = not-false (ltb i (rows s) && ltb j (columns s)) (neither_left (not (ltb i (rows s) && ltb j (columns s))) (any (equations s) (astray s r i j)) right)

    in_row : i < rows s
    in_row = ltb-true i (rows s) (and_left (ltb i (rows s)) (ltb j (columns s)) there)

    in_column_lem : j < columns s
    in_column_lem = ltb-true j (columns s) (and_right (ltb i (rows s)) (ltb j (columns s)) there)

    module _ (q : ℕ) (lq : q < equations s) where
      -- both parts of the test of equation q
      abbrev amiss : Bool
      amiss = not (beq ((equation s q).sums i j) (ltb r (rows s) && eqb q (after s r)))

      abbrev again : Bool
      again = ltb q r && eqb (equation s q).row i && eqb (equation s q).column j

      straight : (amiss || again) ≡ false
      unfolding wrong astray
      straight = any_none (equations s) (astray s r i j) (neither_right (not (ltb i (rows s) && ltb j (columns s))) (any (equations s) (astray s r i j)) right) q lq

      -- which equations sum a parity cell
      summed : sums_cell s q (parity_cell s r) ≡ (ltb r (rows s) && eqb q (after s r))
      unfolding parity_cell
      summed =
          sums_of s w q (equation s q) refl i j in_row
          ∙ same_bool ((equation s q).sums i j) (ltb r (rows s) && eqb q (after s r)) (not-false (beq ((equation s q).sums i j) (ltb r (rows s) && eqb q (after s r))) (neither_left amiss again straight))

  -- no two equations have the same parity cell
  never_less : (q r : ℕ) → q < equations s → r < equations s → parity_cell s q ≡ parity_cell s r → q < r → ⊥
  unfolding parity_cell
  never_less q r lq lr e l =
      clash
      (and_both (and_both (lt-ltb q r l) (eq-eqb (equation s q).row (equation s r).row (same_row s w _ _ _ _ (in_row q lq) (in_row r lr) e)))
      (eq-eqb (equation s q).column (equation s r).column (same_column s w _ _ _ _ (in_row q lq) (in_row r lr) e)))
      (neither_right (amiss r lr q lq) (again r lr q lq) (straight r lr q lq))

  after_high : (r : ℕ) → rows s ≤ after s r
  unfolding rows
  after_high r = each_code (λ n. let t : Shape = record { code = n; p = s.p; cell = s.cell; width = s.width } in (code_of t).rows ≤ after t r) (omega arith) (omega arith) (omega arith) (omega arith) s.code w.code_low w.code_high

  pub ordered : Ordered s
  unfolding parity_cell
  ordered = record {
    inside = λ r l. cell_inside s w (equation s r).row (equation s r).column (in_row r l) (in_column_lem r l);
    unsummed = λ q r l lr. summed r lr q (omega arith)
        ∙ not_passed (λ h.
        let low = ltb-true r (rows s) (and_left (ltb r (rows s)) (eqb q (after s r)) h) in
        let same = eqb-true q (after s r) (and_right (ltb r (rows s)) (eqb q (after s r)) h) in
        omega (arith, after_high r));
    once = λ q r lq lr e. by_less q r (λ l. absurd (never_less q r lq lr e l)) (λ l. by_less r q (λ k. absurd (never_less r q lr lq (sym e) k)) (λ k. omega arith));
  }

  pub sums_parity : (q r : ℕ) → q < equations s → r < equations s → sums_cell s q (parity_cell s r) ≡ (ltb r (rows s) && eqb q (after s r))
  sums_parity q r lq lr = summed r lr q lq
