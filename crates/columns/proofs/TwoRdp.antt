-- RDP: a solution that is 0 off two columns is 0. Going along a row and along a diagonal in turn leads through both columns, from the row p-1, which is
-- not there, to where the diagonal p-1 is missing.
use mathlib.Core.Path.{◌≡◌, refl, sym, ap, ◌∙◌, subst}
use mathlib.Core.Logic.{◌≢◌, inl, inr}
use mathlib.Core.Bool.{◌&&◌}
use Prim.Native.Nat.{ℕ, ◌+◌, ◌-◌, ◌%◌, ◌<◌}
use native.Mathlib.Nat.{mod-lt, mod-eq_of_lt, mod-add-mod}
use native.Mathlib.Omega.{arith}
use lib.Dec.{eqb, ltb}
use borrow.Author.Tests.{lt-ltb, eq-eqb, ltb-true, eqb-true}
use Rattle.xor.proofs.Cases.{by_equal, by_less, and_left, and_right, and_both}
use Rattle.codes.specs.declared.Shape.{Shape}
use Rattle.codes.specs.Shape.{rows, columns, cells, equations, WellFormed}
use Rattle.codes.specs.Equations.{rdp_row, rdp_diagonal}
use Rattle.codes.proofs.Shapes.{low}
use Rattle.codes.proofs.Lines.{rdp_rows, rdp_columns, rdp_n, rdp_row_is}
use Rattle.codes.proofs.Positions.{families, rdp_second_is}
use Rattle.columns.proofs.Paths.{shift_once, shift_from, along_path}
use Rattle.columns.proofs.Columns.{Meets, OnTwo, entry, entry_out, meets, balanced, all_zero}

module _ (s : Shape) (w : WellFormed s) (is-rdp : s.code ≡ 1) where
  height : s.p - 1 ≡ rows s
  height = rdp_rows s w is-rdp

  width : s.p + 1 ≡ columns s
  width = rdp_columns s w is-rdp

  -- ---- where the equations meet the columns

  row_number : (r : ℕ) → r < s.p - 1 → r < equations s
  row_number r l = omega (arith, rdp_n s w is-rdp)

  -- equation r has the cell in row r of every column but p
  row_meets : (r j : ℕ) → r < s.p - 1 → j < s.p → Meets s r j r
  row_meets r j lr lj =
      meets s w r (rdp_row s.p r) (rdp_row_is s w is-rdp r lr) (omega (arith, height)) j r
      (λ l. by_equal j (s.p - 1) (λ e. inl (refl, e)) (λ n. inr (and_both (eq-eqb r r refl) (lt-ltb j (s.p - 1) (omega arith)))))
      (λ e. refl)
      (λ i l t. eqb-true i r (and_left (eqb i r) (ltb j (s.p - 1)) t))

  row_ends : (r : ℕ) → r < s.p - 1 → Meets s r s.p (rows s)
  row_ends r lr =
      meets s w r (rdp_row s.p r) (rdp_row_is s w is-rdp r lr) (omega (arith, height)) s.p (rows s)
      (λ l. absurd (omega arith)) (λ e. absurd (omega (arith, low s w)))
      (λ i l t. let small = ltb-true s.p (s.p - 1) (and_right (eqb i r) (ltb s.p (s.p - 1)) t) in absurd (omega arith))

  diagonal_number : (d : ℕ) → d < s.p - 1 → s.p - 1 + d < equations s
  diagonal_number d l = omega (arith, rdp_n s w is-rdp)

  -- diagonal d has the cell in row r of column j where r + j is d mod p, and the cell in row d of column p
  diagonal_meets : (d j r : ℕ) → d < s.p - 1 → j < s.p → r < s.p → (r + j) % s.p ≡ d → Meets s (s.p - 1 + d) j r
  diagonal_meets d j r ld lj lr e =
      meets s w (s.p - 1 + d) (rdp_diagonal s.p d) (rdp_second_is s w is-rdp d) (omega (arith, height)) j r
      (λ l. inr (and_both (lt-ltb j s.p lj) (and_both (lt-ltb r (s.p - 1) (omega (arith, height))) (eq-eqb ((r + j) % s.p) d e))))
      (λ q. absurd (omega arith))
      (λ i l t. shift_once s.p i r j (omega (arith, height)) lr (eqb-true ((i + j) % s.p) d
      (and_right (ltb i (s.p - 1)) (eqb ((i + j) % s.p) d) (and_right (ltb j s.p) (ltb i (s.p - 1) && eqb ((i + j) % s.p) d) t)) ∙ sym e))

  diagonal_ends : (d : ℕ) → d < s.p - 1 → Meets s (s.p - 1 + d) s.p d
  diagonal_ends d ld =
      meets s w (s.p - 1 + d) (rdp_diagonal s.p d) (rdp_second_is s w is-rdp d) (omega (arith, height)) s.p d
      (λ l. inl (refl, refl)) (λ e. refl)
      (λ i l t. let small = ltb-true s.p s.p (and_left (ltb s.p s.p) (ltb i (s.p - 1) && eqb ((i + s.p) % s.p) d) t) in absurd (omega arith))

  pub rdp_meets : (q j : ℕ) → q < equations s → j < columns s → (r : ℕ) × Meets s q j r
  rdp_meets q j lq lj =
      families (λ k. (r : ℕ) × Meets s k j r) (s.p - 1)
      (λ r l. by_equal j s.p (λ e. (rows s, subst (λ (x : ℕ). Meets s r x (rows s)) (sym e) (row_ends r l))) (λ n. (r, row_meets r j l (omega (arith, width)))))
      (λ d l. by_equal j s.p (λ e. (d, subst (λ (x : ℕ). Meets s (s.p - 1 + d) x d) (sym e) (diagonal_ends d l)))
      (λ n. let at = shift_from s.p j d (omega arith) in (at.0, diagonal_meets d j at.0 l (omega (arith, width)) at.1 at.2)))
      q (omega (arith, rdp_n s w is-rdp))

  -- ---- two columns below p

  module _ (v : ℕ → ℕ) (a b : ℕ) (h : OnTwo s v a b) (ab : a < b) (lb : b < s.p) where
    rows_agree : (r : ℕ) → r < s.p → entry s v a r ≡ entry s v b r
    rows_agree r l =
        by_less r (s.p - 1)
        (λ lr. balanced s w v a b h r r r (row_number r lr) (omega (arith, width)) (omega (arith, width)) (row_meets r a lr (omega arith)) (row_meets r b lr lb))
        (λ lr. entry_out s v a r (omega (arith, height)) ∙ sym (entry_out s v b r (omega (arith, height))))

    -- column b is on the missing diagonal in the row p - 1 - b only
    on_diagonal : (r : ℕ) → r < s.p → r ≢ s.p - 1 - b → (r + b) % s.p < s.p - 1
    on_diagonal r l n =
        by_equal ((r + b) % s.p) (s.p - 1)
        (λ e. absurd (n (shift_once s.p r (s.p - 1 - b) b l (omega arith) (e ∙ sym missing))))
        (λ e. let small = mod-lt (r + b) {m = s.p} (omega arith) in omega arith)
      where
        missing : (s.p - 1 - b + b) % s.p ≡ s.p - 1
        missing = ap (λ (n : ℕ). n % s.p) whole ∙ mod-eq_of_lt (omega arith)
          where
            whole : s.p - 1 - b + b ≡ s.p - 1
            whole = omega arith

    -- along the row to column b, and along the diagonal back to column a
    step : (r : ℕ) → r < s.p → r ≢ s.p - 1 - b → entry s v a ((r + (b - a)) % s.p) ≡ entry s v a r
    step r l n =
        balanced s w v a b h (s.p - 1 + (r + b) % s.p) ((r + (b - a)) % s.p) r (diagonal_number ((r + b) % s.p) (on_diagonal r l n)) (omega (arith, width)) (omega (arith, width))
        (diagonal_meets ((r + b) % s.p) a ((r + (b - a)) % s.p) (on_diagonal r l n) (omega arith) (mod-lt (r + (b - a)) (omega arith)) same)
        (diagonal_meets ((r + b) % s.p) b r (on_diagonal r l n) lb l refl)
        ∙ sym (rows_agree r l)
      where
        same : ((r + (b - a)) % s.p + a) % s.p ≡ (r + b) % s.p
        same = mod-add-mod (r + (b - a)) s.p a ∙ ap (λ (n : ℕ). n % s.p) whole
          where
            whole : r + (b - a) + a ≡ r + b
            whole = omega arith

    first_zero : (r : ℕ) → r < s.p → entry s v a r ≡ 0
    first_zero =
        along_path s.p (b - a) (s.p - 1 - b) (λ r. entry s v a r ≡ 0) w.prime (omega arith) (omega arith) (omega arith)
        (λ r l n z. step r l n ∙ z) (λ r l n z. sym (step r l n) ∙ z)
        (s.p - 1) (omega arith) (entry_out s v a (s.p - 1) (omega (arith, height)))

    below : (c : ℕ) → c < cells s → v c ≡ 0
    below = all_zero s w v a b h (λ i l. first_zero i (omega (arith, height))) (λ i l. sym (rows_agree i (omega (arith, height))) ∙ first_zero i (omega (arith, height)))

  -- ---- a column below p, and column p

  module _ (v : ℕ → ℕ) (a : ℕ) (h : OnTwo s v a s.p) (la : a < s.p) where
    by_rows : (r : ℕ) → r < rows s → entry s v a r ≡ 0
    by_rows r l =
        balanced s w v a s.p h r r (rows s) (row_number r (omega (arith, height))) (omega (arith, width)) (omega (arith, width))
        (row_meets r a (omega (arith, height)) la) (row_ends r (omega (arith, height)))
        ∙ entry_out s v s.p (rows s) (omega arith)

    by_diagonals : (d : ℕ) → d < rows s → entry s v s.p d ≡ 0
    by_diagonals d l =
        let at = shift_from s.p a d (omega (arith, height)) in
        sym (balanced s w v a s.p h (s.p - 1 + d) at.0 d (diagonal_number d (omega (arith, height))) (omega (arith, width)) (omega (arith, width))
        (diagonal_meets d a at.0 (omega (arith, height)) la at.1 at.2) (diagonal_ends d (omega (arith, height))))
        ∙ by_less at.0 (rows s) (by_rows at.0) (entry_out s v a at.0)

    with_last : (c : ℕ) → c < cells s → v c ≡ 0
    with_last = all_zero s w v a s.p h by_rows by_diagonals

  pub two_rdp : (v : ℕ → ℕ) (a b : ℕ) → OnTwo s v a b → a < b → b < columns s → (c : ℕ) → c < cells s → v c ≡ 0
  two_rdp v a b h ab lb =
      by_equal b s.p (λ e. with_last v a (subst (OnTwo s v a) e h) (omega arith)) (λ n. below v a b h ab (omega (arith, width)))
