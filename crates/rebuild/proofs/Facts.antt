-- What follows from the contracts of a rebuild: stripes that come back, the cell size and undetermined cells, and a list that names no cell.
use mathlib.Core.Path.{◌≡◌, refl, sym, ap, subst, ◌∙◌}
use mathlib.Core.Logic.{◌≢◌}
use mathlib.Core.List.{List, []}
use mathlib.Core.Bool.{Bool, true, false, not}
use Prim.Native.Nat.{ℕ, ◌≤◌, ◌<◌}
use lib.Dec.{eqb}
use lib.ListN.{length, get_or}
use borrow.Author.Tests.{eq-eqb, eqb-true, not-false}
use Rattle.xor.specs.Sets.{any}
use Rattle.xor.proofs.Cases.{by_test, by_equal, clash}
use Rattle.xor.proofs.Sets.{any_none, any_some}
use Rattle.codes.specs.declared.Shape.{Shape}
use Rattle.codes.specs.Shape.{most_cell, rows, columns, equations, cells, cell_number, missing, stripe_length, WellFormed}
use Rattle.codes.specs.Equations.{equation}
use Rattle.codes.specs.Encoded.{parity_cell, sums_cell, sum_over, Solves, byte_at, Encoded}
use Rattle.refusals.specs.Refusals.{refusal, cells_faults, columns_faults}
use Rattle.refusals.proofs.Refused.{cells_accepted, columns_accepted}
use Rattle.codes.proofs.Parity.{same_bytes}
use Rattle.codes.specs.Agree.{Agree, callers_columns}
use Rattle.decide.specs.Survivors.{Undetermined, Restores, named}
use Rattle.rebuild.specs.Rebuild.{Decides, RebuildsCells, RebuildsColumns}
use Rattle.equation.specs.Window.{bytes_at}
use Rattle.decide.proofs.Stripes.{two_solutions}
use Rattle.rebuild.proofs.OneAnswer.{restored_one}
use Rattle.codes.specs.Geometry.{is_there, cell_there, column_of}
use Rattle.codes.proofs.Geometry.{column_there, byte_missing, byte_small}
use Rattle.decide.proofs.Determined.{columns_determined}
use Rattle.rebuild.proofs.Deciding.{eleven, twelve, done}

-- ---- an encoded stripe that agrees with the survivors comes back

come_back : (s : Shape) → WellFormed s → (lost : ℕ → Bool) → (Undetermined s lost → ⊥) → (old x : List ℕ) → Restores s lost old x → (answer : ℕ) (new : List ℕ)
    → Decides s lost old answer new → (answer ≡ 0) × (new ≡ x)
come_back s w lost determined old x restores answer new h =
    let did = done s lost old answer new h (λ e. determined (eleven s lost old answer new h e)) (λ e. twelve s lost old answer new h e x restores) in
    (did.0, restored_one s w lost determined old new x did.1 restores)

pub cells_come_back : (s : Shape) (numbers old x : List ℕ) → refusal (cells_faults s (length old) numbers) ≡ 0 → (Undetermined s (named s numbers) → ⊥)
    → Restores s (named s numbers) old x → (answer : ℕ) (new : List ℕ) → RebuildsCells s numbers old answer new → (answer ≡ 0) × (new ≡ x)
cells_come_back s numbers old x right determined restores answer new h =
    come_back s (cells_accepted s (length old) numbers right).0 (named s numbers) determined old x restores answer new (h.decides right)

pub columns_come_back : (s : Shape) (a b : ℕ) (old x : List ℕ) → refusal (columns_faults s (length old) a b) ≡ 0
    → Restores s (callers_columns s a b) old x → (answer : ℕ) (new : List ℕ) → RebuildsColumns s a b old answer new → (answer ≡ 0) × (new ≡ x)
columns_come_back s a b old x right restores answer new h =
    let formed = columns_accepted s (length old) a b right in
    come_back s formed.0 (callers_columns s a b) (columns_determined s formed.0 (column_of s a) (column_of s b) (column_there s formed.0 a formed.2) (column_there s formed.0 b formed.3)) old x restores answer new (h.rebuilds.decides right)

-- ---- undetermined is a matter of the equations and the lost cells, whatever the cell size

-- a byte of a cell in which two stripes differ
record Differ (s : Shape) (a b : List ℕ) : Type 0 where
  cell : ℕ
  byte : ℕ
  cell_in : cell < cells s
  byte_in : byte < s.cell
  differ : byte_at s a cell byte ≢ byte_at s b cell byte

differ_at : (s : Shape) → WellFormed s → (a b : List ℕ) → length a ≡ stripe_length s → length b ≡ stripe_length s → a ≢ b → Differ s a b
differ_at s w a b la lb n = by_test (any s.cell at) found none
  where
    differs : ℕ → ℕ → Bool
    differs = λ t c. not (eqb (byte_at s a c t) (byte_at s b c t))

    at : ℕ → Bool
    at = λ t. any (cells s) (differs t)

    found : any s.cell at ≡ true → Differ s a b
    found p =
        let byte = any_some s.cell at p in
        let cell = any_some (cells s) (differs byte.0) byte.2 in record {
          cell = cell.0;
          byte = byte.0;
          cell_in = cell.1;
          byte_in = byte.1;
          differ = λ e. clash cell.2 (ap not (eq-eqb (byte_at s a cell.0 byte.0) (byte_at s b cell.0 byte.0) e));
        }

    none : any s.cell at ≡ false → Differ s a b
    none p = absurd (n (same_bytes s w a b la lb (λ c lc t lt. eqb-true (byte_at s a c t) (byte_at s b c t)
        (not-false (eqb (byte_at s a c t) (byte_at s b c t)) (any_none (cells s) (differs t) (any_none s.cell at p t lt) c lc)))))

-- the same code, p and data columns, with cells of n bytes
abbrev resized : Shape → ℕ → Shape
resized s n = record { code = s.code; p = s.p; cell = n; width = s.width }

module _ (s : Shape) (n : ℕ) where
  -- the equations are the same
  solves_any_cell : (f : ℕ → ℕ) → Solves s f → Solves (resized s n) f
  unfolding parity_cell sums_cell sum_over cells rows columns equations cell_number equation
  solves_any_cell f h = h

pub undetermined_any_cell : (s : Shape) → WellFormed s → (n : ℕ) → 1 ≤ n → n ≤ most_cell → (lost : ℕ → Bool) → Undetermined s lost → Undetermined (resized s n) lost
unfolding cells columns rows cell_there is_there missing
undetermined_any_cell s w n low high lost u =
    let at = differ_at s w u.one u.other u.one_is.long u.other_is.long u.differ in
    let t = at.byte in
    let w' : WellFormed (resized s n) = record { code_low = w.code_low; code_high = w.code_high; prime = w.prime; cell_low = low; cell_high = high; wide = w.wide } in
    two_solutions (resized s n) w' lost (bytes_at s u.one t) (bytes_at s u.other t) (λ c l none. byte_missing s w u.one c t none ∙ sym (byte_missing s w u.other c t none))
    (λ c l. byte_small s w u.one u.one_is.bytes c t) (λ c l. byte_small s w u.other u.other_is.bytes c t)
    (solves_any_cell s n (bytes_at s u.one t) (λ q l. u.one_is.encoded.holds q l t at.byte_in))
    (solves_any_cell s n (bytes_at s u.other t) (λ q l. u.other_is.encoded.holds q l t at.byte_in))
    (λ c l e. u.agree.same c l e t at.byte_in) at.cell at.cell_in at.differ

-- ---- a list that names no cell

-- every cell survives
all_survive : (s : Shape) → WellFormed s → (x y : List ℕ) → length x ≡ stripe_length s → length y ≡ stripe_length s → Agree s (named s []) x y → x ≡ y
unfolding named any
all_survive s w x y lx ly agree = same_bytes s w x y lx ly (λ c l. agree.same c l refl)

pub empty_list : (s : Shape) (old : List ℕ) → refusal (cells_faults s (length old) []) ≡ 0 → ((i : ℕ) → get_or old i 0 < 256) → (answer : ℕ) (new : List ℕ) → RebuildsCells s [] old answer new
    → (Encoded s old → (answer ≡ 0) × (new ≡ old)) × ((Encoded s old → ⊥) → answer ≡ 12)
empty_list s old right bytes answer new h = (same, λ broken. by_equal answer 12 (λ e. e) (λ n. absurd (broken (kept n))))
  where
    formed : WellFormed s × (length old ≡ stripe_length s)
    formed = let accepted = cells_accepted s (length old) [] right in (accepted.0, accepted.1)

    determined : Undetermined s (named s []) → ⊥
    determined u = u.differ (all_survive s formed.0 u.one u.other u.one_is.long u.other_is.long u.agree)

    same : Encoded s old → (answer ≡ 0) × (new ≡ old)
    same encoded = cells_come_back s [] old old right determined
        (record { is = record { long = formed.1; bytes = bytes; encoded = encoded }; agree = record { same = λ c l e t lt. refl } }) answer new h

    -- any answer but 12 leaves an encoded stripe, which is the old one
    kept : answer ≢ 12 → Encoded s old
    kept n =
        let d = h.decides right in
        let did = (done s (named s []) old answer new d (λ e. determined (eleven s (named s []) old answer new d e)) n).1 in
        subst (Encoded s) (sym (all_survive s formed.0 old new formed.1 did.is.long did.agree)) did.is.encoded
