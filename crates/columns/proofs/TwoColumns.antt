-- In each code any two columns are determined by the rest; so at most one column can be named bad. The lowest equation that holds a cell has at most one
-- cell in its column.
use mathlib.Core.Path.{◌≡◌, sym, ◌∙◌}
use mathlib.Core.Logic.{◌≢◌}
use mathlib.Core.Bool.{false}
use Prim.Native.Nat.{ℕ, ◌/◌, ◌<◌}
use native.Mathlib.Omega.{arith}
use Rattle.xor.proofs.Cases.{by_equal, by_less}
use Rattle.xor.proofs.Algebra.{⊕_equal, equal_⊕}
use Rattle.codes.specs.declared.Shape.{Shape}
use Rattle.codes.specs.Shape.{rows, columns, cells, equations, WellFormed}
use Rattle.codes.specs.Encoded.{Solves}
use Rattle.codes.specs.Holders.{holds}
use Rattle.codes.proofs.Shapes.{low, few_columns, by_code}
use Rattle.codes.proofs.Geometry.{column_at}
use Rattle.codes.proofs.Solutions.{plus, solves_plus, solves_same}
use Rattle.columns.proofs.Columns.{Meets, OnTwo}
use Rattle.columns.proofs.TwoRdp.{rdp_meets, two_rdp}
use Rattle.columns.proofs.TwoHcode.{hcode_meets, two_hcode}
use Rattle.columns.proofs.TwoXcode.{xcode_meets, two_xcode}
use Rattle.columns.proofs.TwoEvenodd.{evenodd_meets, two_evenodd}

module _ (s : Shape) (w : WellFormed s) where
  -- if no equation before q holds cell c, equation q meets the column of c in one row, or in none; in EVENODD a later one need not
  pub lowest_meets : (q c : ℕ) → q < equations s → c < cells s → ((k : ℕ) → k < q → holds s k c ≡ false) → (r : ℕ) × Meets s q (c / rows s) r
  lowest_meets = by_code s w (λ is. always (rdp_meets s w is)) (λ is. always (hcode_meets s w is)) (λ is. always (xcode_meets s w is)) (evenodd_meets s w)
    where
      always : ((q j : ℕ) → q < equations s → j < columns s → (r : ℕ) × Meets s q j r)
          → (q c : ℕ) → q < equations s → c < cells s → ((k : ℕ) → k < q → holds s k c ≡ false) → (r : ℕ) × Meets s q (c / rows s) r
      always all q c lq lc none = all q (c / rows s) lq (column_at s w c lc)

  -- in each code
  in_order : (v : ℕ → ℕ) (a b : ℕ) → OnTwo s v a b → a < b → b < columns s → (c : ℕ) → c < cells s → v c ≡ 0
  in_order = by_code s w (two_rdp s w) (two_hcode s w) (two_xcode s w) (two_evenodd s w)

  -- a solution that is 0 off two columns, or off one, is 0 everywhere
  pub two_columns : (v : ℕ → ℕ) → Solves s v → (a b : ℕ) → a < columns s → b < columns s
      → ((c : ℕ) → c < cells s → c / rows s ≢ a → c / rows s ≢ b → v c ≡ 0)
      → (c : ℕ) → c < cells s → v c ≡ 0
  two_columns v h a b la lb off = by_less a b (λ l. forward a b l lb off) (λ l. by_less b a (λ k. forward b a k la (λ c lc n m. off c lc m n)) (λ k. one (omega arith)))
    where
      forward : (i j : ℕ) → i < j → j < columns s → ((c : ℕ) → c < cells s → c / rows s ≢ i → c / rows s ≢ j → v c ≡ 0) → (c : ℕ) → c < cells s → v c ≡ 0
      forward i j l lj z = in_order v i j (record { solves = h; apart = λ e. omega arith; off = z }) l lj

      -- one column: any other makes two
      one : a ≡ b → (c : ℕ) → c < cells s → v c ≡ 0
      one e =
          by_equal a 0
          (λ z. forward 0 1 (omega arith) (omega (arith, few_columns s w, low s w)) (λ c l n m. off c l (λ q. n (q ∙ z)) (λ q. n (q ∙ sym e ∙ z))))
          (λ z. forward 0 a (omega arith) la (λ c l n m. off c l m (λ q. m (q ∙ sym e))))

  -- two solutions that agree off two columns agree everywhere
  pub two_columns_determined : (f g : ℕ → ℕ) → Solves s f → Solves s g → (a b : ℕ) → a < columns s → b < columns s
      → ((c : ℕ) → c < cells s → c / rows s ≢ a → c / rows s ≢ b → f c ≡ g c)
      → (c : ℕ) → c < cells s → f c ≡ g c
  two_columns_determined f g hf hg a b la lb agree c l =
      ⊕_equal (f c) (g c) (two_columns (plus f g) (solves_plus s f g hf hg) a b la lb (λ d ld n m. equal_⊕ (f d) (g d) (agree d ld n m)) c l)

  -- if x can be made a solution in one column, and in another, then x is a solution
  pub at_most_one_column : (x f g : ℕ → ℕ) → Solves s f → Solves s g → (a b : ℕ) → a < columns s → b < columns s → a ≢ b
      → ((c : ℕ) → c < cells s → c / rows s ≢ a → f c ≡ x c) → ((c : ℕ) → c < cells s → c / rows s ≢ b → g c ≡ x c) → Solves s x
  at_most_one_column x f g hf hg a b la lb ne fx gx = solves_same s w f x agree hf
    where
      agree : (c : ℕ) → c < cells s → f c ≡ x c
      agree c l =
          by_equal (c / rows s) a
          (λ e. two_columns_determined f g hf hg a b la lb (λ d ld n m. fx d ld n ∙ sym (gx d ld m)) c l ∙ gx c l (λ q. ne (sym e ∙ q)))
          (fx c l)
