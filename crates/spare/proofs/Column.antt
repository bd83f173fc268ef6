-- The spare: one column, row after row. Where its rows end, and spares that agree in all of them.
use mathlib.Core.Path.{◌≡◌, refl, sym, ap, ◌∙◌, subst}
use mathlib.Core.List.{List}
use mathlib.Core.Bool.{true}
use Prim.Native.Nat.{ℕ, ◌+◌, ◌*◌, ◌/◌, ◌%◌, ◌≤◌, ◌<◌}
use native.Mathlib.Nat.{mul-le-mul, mul-le-mul_right, add-mul, one-mul, mod-lt, div-lt_iff_lt-mul, div-add-mod'}
use native.Mathlib.Omega.{arith}
use lib.ListN.{length, get_or}
use lib.Seq.{ext_get_or}
use Rattle.codes.specs.declared.Shape.{Shape}
use Rattle.codes.specs.Shape.{rows, WellFormed}
use Rattle.codes.proofs.Shapes.{rows_high}
use Rattle.plan.specs.Plan.{is_accepted}
use Rattle.plan.specs.Right.{RdpColumn}
use Rattle.spare.specs.Places.{RowRight}
use Rattle.spare.specs.Run.{spare_byte}

-- its length is small
pub spare_length : (s : Shape) (n : ℕ) → WellFormed s → n ≡ rows s → n * s.cell ≤ 126976
spare_length s n w e = let few : n ≤ 31 = omega (arith, rows_high s w) in mul-le-mul few w.cell_high

-- a row's part ends inside it, and at a small number
pub row_ends : (s : Shape) (spare : ℕ) → spare ≡ rows s * s.cell → (i : ℕ) → i < rows s → i * s.cell + s.cell ≤ spare
row_ends s spare whole i l = omega (arith, whole, mul-le-mul_right {m = 1 + i} {n = rows s} s.cell (omega arith), add-mul 1 i s.cell, one-mul s.cell)

pub row_small : (s : Shape) → WellFormed s → (i : ℕ) → i < rows s → i * s.cell + s.cell ≤ 126976
row_small s w i l = omega (arith, row_ends s (rows s * s.cell) refl i l, spare_length s (rows s) w refl)

-- spares that agree in every byte of every row are equal
pub same_rows : (s : Shape) → WellFormed s → (a b : List ℕ) → length a ≡ rows s * s.cell → length b ≡ rows s * s.cell
    → ((i : ℕ) → i < rows s → (t : ℕ) → t < s.cell → spare_byte s a i t ≡ spare_byte s b i t) → a ≡ b
unfolding spare_byte
same_rows s w a b la lb h =
    ext_get_or 0 a b (la ∙ sym lb)
    (λ i l. byte_is a i ∙ h (i / s.cell) ((div-lt_iff_lt-mul w.cell_low).1 (subst (λ (m : ℕ). i < m) la l)) (i % s.cell) (mod-lt i w.cell_low) ∙ sym (byte_is b i))
  where
    byte_is : (x : List ℕ) (i : ℕ) → get_or x i 0 ≡ get_or x (i / s.cell * s.cell + i % s.cell) 0
    byte_is x i = ap (λ (k : ℕ). get_or x k 0) (sym (div-add-mod' i s.cell))

-- row i of a lost column, by an accepted plan
pub row_right : {s : Shape} {k plan i : ℕ} → RdpColumn s k → is_accepted s k plan ≡ true → i < rows s → RowRight s k plan i
row_right of accepted row = record { of = of; accepted = accepted; row = row }
