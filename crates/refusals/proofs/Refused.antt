-- The refusals of a shape, of full width, of a lent stripe, of a small write and of calls that name cells or columns: which faults each call has after which, and what holds
-- where there is none. That the faults are listed in order is seen from their numbers (`refl`).
use mathlib.Core.Path.{◌≡◌, refl, ap, ◌∙◌}
use mathlib.Core.List.{List, [], ◌∷◌}
use mathlib.Core.Bool.{Bool, true, false, not}
use Prim.Native.Nat.{ℕ, ◌-◌, ◌<◌}
use native.Mathlib.Omega.{arith}
use lib.Dec.{eqb, leb, ltb}
use lib.ListN.{length, get_or}
use borrow.Author.Tests.{eqb-true, eqb-false, ltb-true, ltb-false, leb-false, lt-leb, lt-ltb, not-false}
use Rattle.std.specs.declared.option.Option.TheVariants.{Some}
use Rattle.xor.specs.Sets.{any}
use Rattle.xor.proofs.Cases.{by_test, same_test}
use Rattle.xor.proofs.Sets.{any_none, none_any}
use Rattle.codes.specs.declared.Shape.{Shape}
use Rattle.codes.specs.Shape.{last_code, listed, rows, missing, disks, existing, stripe_length, WellFormed}
use Rattle.codes.specs.Geometry.{column_of, cell_at}
use Rattle.codes.specs.Encoded.{is_parity}
use Rattle.codes.specs.Depends.{WriteRight}
use Rattle.codes.proofs.Shapes.{data_missing}
use Rattle.codes.proofs.Geometry.{column_there, is_there_lem}
use Rattle.refusals.specs.Refusals.{fault, outside, other_length, order, refusal, code_faults, size_faults, shape_faults, stripe_faults, write_faults, cells_faults, columns_faults}
use Rattle.refusals.proofs.Order.{None, Gives, After, after, alone, gives, none_of}

-- ---- a shape

module _ (s : Shape) where
  pub code_given : {r : ℕ} → Gives (code_faults s) r → r ≡ refusal (code_faults s)
  unfolding order
  code_given = alone (code_faults s) refl

  pub size_given : {r : ℕ} → Gives (size_faults s) r → r ≡ refusal (size_faults s)
  unfolding order
  size_given = alone (size_faults s) refl

  pub size_gives : {r : ℕ} → r ≡ refusal (size_faults s) → Gives (size_faults s) r
  unfolding order
  size_gives = gives (size_faults s) refl

  pub shape_after : After (code_faults s) (size_faults s) (shape_faults s)
  unfolding shape_faults order
  shape_after = after (code_faults s) (size_faults s) refl refl

  pub well_formed : refusal (code_faults s) ≡ 0 → None (size_faults s) → WellFormed s
  unfolding order
  well_formed none n =
      let m = none_of (code_faults s) refl none in
      record {
        code_low = omega (arith, eqb-false s.code 0 m.0);
        code_high = ltb-false last_code s.code m.1.0;
        prime = not-false _ m.1.1.0;
        cell_low = omega (arith, eqb-false s.cell 0 n.0);
        cell_high = ltb-false 4096 s.cell n.1.0;
        wide = m.1.1.1.0;
      }

  -- a shape that is not refused is well formed
  pub shape_accepted : refusal (shape_faults s) ≡ 0 → WellFormed s
  shape_accepted none = let n = shape_after.none none in well_formed n.0 n.1

-- ---- full width

-- where code, prime and number of data columns are not refused the prime is a listed one
pub prime_listed : (s : Shape) → refusal (code_faults s) ≡ 0 → listed s.p ≡ true
unfolding order
prime_listed s none = not-false _ (none_of (code_faults s) refl none).1.1.0

-- where a number of data columns is given, some are missing exactly if it is below p-1
pub short_is : (s : Shape) (m : ℕ) → s.width ≡ Some m → ltb m (s.p - 1) ≡ ltb 0 (missing s)
short_is s m e =
    same_test (λ h. lt-ltb 0 (s.p - 1 - m) (omega (arith, ltb-true m (s.p - 1) h))) (λ h. lt-ltb m (s.p - 1) (omega (arith, ltb-true 0 (s.p - 1 - m) h)))
    ∙ ap (ltb 0) (data_missing s m e)

-- ---- a lent stripe

module _ (s : Shape) (bytes : ℕ) where
  pub stripe_after : After (shape_faults s) (other_length bytes (stripe_length s) ∷ []) (stripe_faults s bytes)
  unfolding stripe_faults shape_faults order
  stripe_after = after (shape_faults s) (other_length bytes (stripe_length s) ∷ []) refl refl

  -- a stripe that is not refused is well formed, and of the right length
  pub accepted : refusal (stripe_faults s bytes) ≡ 0 → WellFormed s × (bytes ≡ stripe_length s)
  accepted none = let n = stripe_after.none none in (shape_accepted s n.0, eqb-true bytes (stripe_length s) (not-false _ n.1.0))

-- ---- a small write

module _ (s : Shape) (bytes row column new : ℕ) where
  pub write_after : After (stripe_faults s bytes)
      (outside row (rows s) ∷ outside column (disks s) ∷ fault 7 (is_parity s (cell_at s row column)) ∷ fault 8 (not (eqb new s.cell)) ∷ [])
      (write_faults s bytes row column new)
  unfolding write_faults stripe_faults shape_faults order
  write_after = after (stripe_faults s bytes) _ refl refl

  -- a small write that is not refused is right
  pub write_accepted : refusal (write_faults s bytes row column new) ≡ 0 → (column < disks s) × WriteRight s bytes row (column_of s column) new
  write_accepted none =
      let n = write_after.none none in
      let formed = accepted s bytes n.0 in
      let inside = leb-false (disks s) column n.1.1.0 in (
        inside,
        record {
          formed = formed.0;
          long = formed.1;
          cell = record { low = leb-false (rows s) row n.1.0; right = column_there s formed.0 column inside; plain = n.1.1.1.0 };
          there = is_there_lem s formed.0 column;
          whole = eqb-true new s.cell (not-false _ n.1.1.1.1.0);
        },
      )

-- ---- a call that names cells or columns

-- all numbers of the list are below n
abbrev AllBelow : List ℕ → ℕ → Type 0
AllBelow numbers n = (k : ℕ) → k < length numbers → get_or numbers k 0 < n

module _ (numbers : List ℕ) (n : ℕ) where
  abbrev some_are_out : Bool
  some_are_out = any (length numbers) (λ k. leb n (get_or numbers k 0))

  all_in : some_are_out ≡ false → AllBelow numbers n
  all_in e k l = leb-false n (get_or numbers k 0) (any_none (length numbers) (λ i. leb n (get_or numbers i 0)) e k l)

  pub some_out : (AllBelow numbers n → ⊥) → some_are_out ≡ true
  some_out some = by_test some_are_out (λ e. e) (λ e. absurd (some (all_in e)))

  pub none_out : AllBelow numbers n → some_are_out ≡ false
  none_out all = none_any (length numbers) (λ k. leb n (get_or numbers k 0)) (λ k l. lt-leb n (get_or numbers k 0) (all k l))

module _ (s : Shape) (bytes : ℕ) (numbers : List ℕ) where
  pub cells_after : After (stripe_faults s bytes) (fault 6 (some_are_out numbers (existing s)) ∷ []) (cells_faults s bytes numbers)
  unfolding cells_faults stripe_faults shape_faults order
  cells_after = after (stripe_faults s bytes) _ refl refl

  pub cells_accepted : refusal (cells_faults s bytes numbers) ≡ 0 → WellFormed s × (bytes ≡ stripe_length s) × AllBelow numbers (existing s)
  cells_accepted none =
      let n = cells_after.none none in
      let formed = accepted s bytes n.0 in
      (formed.0, formed.1, all_in numbers (existing s) n.1.0)

module _ (s : Shape) (bytes a b : ℕ) where
  pub columns_after : After (stripe_faults s bytes) (outside a (disks s) ∷ outside b (disks s) ∷ []) (columns_faults s bytes a b)
  unfolding columns_faults stripe_faults shape_faults order
  columns_after = after (stripe_faults s bytes) _ refl refl

  pub columns_accepted : refusal (columns_faults s bytes a b) ≡ 0 → WellFormed s × (bytes ≡ stripe_length s) × (a < disks s) × (b < disks s)
  columns_accepted none =
      let n = columns_after.none none in
      let formed = accepted s bytes n.0 in
      (formed.0, formed.1, leb-false (disks s) a n.1.0, leb-false (disks s) b n.1.1.0)
