-- A shape none of whose data columns is missing, and the same with no number of them given: rows are rebuilt alike.
use mathlib.Core.Path.{◌≡◌, refl, sym, ap, ap₂, ◌∙◌}
use mathlib.Core.List.{List}
use mathlib.Core.Bool.{Bool, true, cond, not, ◌&&◌}
use Prim.Native.Nat.{ℕ, ◌+◌, ◌-◌, ◌*◌, ◌/◌, ◌%◌}
use lib.Dec.{eqb}
use lib.ListN.{get_or}
use Rattle.std.specs.declared.option.Option.TheVariants.{None}
use Rattle.xor.proofs.Sums.{xors_same}
use Rattle.codes.specs.declared.Shape.{Shape}
use Rattle.codes.specs.Shape.{rows, columns, cells, missing, disks, existing, stripe_length, cell_number, WellFormed}
use Rattle.codes.specs.Equations.{equation}
use Rattle.codes.specs.Geometry.{cell_there, callers_cell, place}
use Rattle.codes.specs.Encoded.{parity_cell, sums_cell, byte_at}
use Rattle.codes.specs.Holders.{holds}
use Rattle.codes.proofs.Geometry.{there_all, lies_all}
use Rattle.plan.specs.Plan.{diagonal, chosen, is_accepted}
use Rattle.plan.specs.Right.{RdpColumn}
use Rattle.spare.specs.Right.{RowsFit}
use Rattle.spare.specs.Run.{others, rebuilt_byte, spare_byte, RowsRebuilt}

-- no number of data columns is given
abbrev pub widened : Shape → Shape
widened s = record { code = s.code; p = s.p; cell = s.cell; width = None }

pub none_given : (s : Shape) → missing (widened s) ≡ 0
unfolding missing
none_given s = refl

module _ (s : Shape) (full : missing s ≡ 0) where
  formed : WellFormed s → WellFormed (widened s)
  formed w = record { code_low = w.code_low; code_high = w.code_high; prime = w.prime; cell_low = w.cell_low; cell_high = w.cell_high; wide = refl }

  pub column_widened : (k : ℕ) → RdpColumn s k → RdpColumn (widened s) k
  unfolding columns
  column_widened k of = record { formed = formed of.formed; rdp = of.rdp; column = of.column; there = there_all (widened s) (none_given s) k }

  as_long : stripe_length s ≡ stripe_length (widened s)
  unfolding stripe_length existing rows columns missing disks
  as_long = ap (λ (m : ℕ). (columns s - m) * rows s * s.cell) full

  pub plan_widened : (k plan : ℕ) → is_accepted s k plan ≡ true → is_accepted (widened s) k plan ≡ true
  unfolding rows is_accepted
  plan_widened k plan h = h

  pub fit_widened : (bytes spare first n : ℕ) → RowsFit s bytes spare first n → RowsFit (widened s) bytes spare first n
  unfolding rows
  fit_widened bytes spare first n h = record { long = h.long ∙ as_long; whole = h.whole; inside = h.inside }

  same_place : (c : ℕ) → place s c ≡ place (widened s) c
  unfolding place callers_cell cell_number rows
  same_place c = ap (λ (j : ℕ). (j * rows s + c % rows s) * s.cell) (lies_all s full (c / rows s) ∙ sym (lies_all (widened s) (none_given s) (c / rows s)))

  same_byte : (stripe : List ℕ) (c t : ℕ) → byte_at s stripe c t ≡ byte_at (widened s) stripe c t
  unfolding byte_at cell_there rows
  same_byte stripe c t =
      ap₂ (λ (b : Bool) (x : ℕ). cond b (get_or stripe (x + t) 0) 0)
      (there_all s full (c / rows s) ∙ sym (there_all (widened s) (none_given s) (c / rows s))) (same_place c)

  same_others : (q own : ℕ) (f : ℕ → ℕ) → others s q own f ≡ others (widened s) q own f
  unfolding others cells cell_number columns rows holds parity_cell sums_cell equation
  same_others q own f = refl

  same_rebuilt : (k plan : ℕ) (stripe : List ℕ) (i t : ℕ) → rebuilt_byte s k plan stripe i t ≡ rebuilt_byte (widened s) k plan stripe i t
  unfolding rebuilt_byte others chosen diagonal cell_number rows
  same_rebuilt k plan stripe i t =
      xors_same (cells s) (λ c. cond (holds s q c && not (eqb c own)) (byte_at s stripe c t) 0) (λ c. cond (holds s q c && not (eqb c own)) (byte_at (widened s) stripe c t) 0)
      (λ c l. ap (λ (x : ℕ). cond (holds s q c && not (eqb c own)) x 0) (same_byte stripe c t))
      ∙ same_others q own (λ c. byte_at (widened s) stripe c t)
    where
      q : ℕ
      q = chosen s k plan i

      own : ℕ
      own = cell_number s i k

  pub rows_widened : (k plan first n : ℕ) (stripe old new : List ℕ) → RowsRebuilt (widened s) k plan first n stripe old new → RowsRebuilt s k plan first n stripe old new
  unfolding spare_byte
  rows_widened k plan first n stripe old new h = record {
    long = h.long;
    rebuilt = λ i lo hi t l. h.rebuilt i lo hi t l ∙ sym (same_rebuilt k plan stripe i t);
    kept = λ i side t l. h.kept i side t l;
  }
