-- Cells by their row and column: which are parity cells, and which equations sum the others.
use mathlib.Core.Path.{◌≡◌, refl, sym, ap, ap₂, ◌∙◌, subst}
use mathlib.Core.Logic.{◌≢◌}
use mathlib.Core.Bool.{true, not, ◌&&◌, ◌||◌}
use Prim.Native.Nat.{ℕ, ◌+◌, ◌-◌, ◌*◌, ◌/◌, ◌%◌, ◌≤◌, ◌<◌}
use native.Mathlib.Nat.{mod-lt, div-add-mod', mod-eq_of_lt, add-mod_right, add_comm, add_assoc, mul-le-mul}
use native.Mathlib.Omega.{arith}
use lib.Arith.{digits_div, digits_mod, digits_lt}
use lib.Dec.{eqb, ltb, leb}
use borrow.Author.Tests.{lt-ltb, eq-eqb, ne_eqb, eqb-true, leb-true, le-leb}
use Rattle.xor.proofs.Cases.{by_less, by_equal, and_left, and_right, and_both, either, or_left, or_right, same_test}
use Rattle.xor.proofs.Sets.{any_at, any_some}
use Rattle.codes.specs.declared.Shape.{Shape}
use Rattle.codes.specs.Shape.{rows, columns, equations, cells, cell_number, WellFormed}
use Rattle.codes.specs.Equations.{Equation, Code, rdp, hcode, xcode, evenodd, code_of, equation, rdp_diagonal, hcode_anti_diagonal, xcode_second, evenodd_s, evenodd_diagonal}
use Rattle.codes.specs.Encoded.{parity_cell, sums_cell, is_parity}
use Rattle.codes.proofs.Shapes.{most_cells, most_bytes, low, cells_high, rdp_is, hcode_is, xcode_is, evenodd_is, equations_of, first_of, second_at}
use Rattle.codes.proofs.Residues.{wrapped, there_and_back}
use Rattle.codes.proofs.Lines.{rdp_rows, rdp_columns, hcode_rows, xcode_columns, evenodd_rows, evenodd_columns}
pub use Rattle.codes.proofs.Lines.{rdp_n, hcode_n, xcode_n, xcode_rows, evenodd_n}

-- two families of n equations each
pub families : (P : ℕ → Type 0) (n : ℕ) → ((r : ℕ) → r < n → P r) → ((d : ℕ) → d < n → P (n + d)) → (q : ℕ) → q < 2 * n → P q
families P n first second q l = by_less q n (first q) (λ k. subst P (whole k) (second (q - n) (omega arith)))
  where
    whole : n ≤ q → n + (q - n) ≡ q
    whole k = omega arith

-- a cell before column m is on row r where it is in row r
row_test : (m i j r : ℕ) → j < m → (eqb i r && ltb j m) ≡ eqb r i
row_test m i j r l =
    same_test
    (λ h. eq-eqb r i (sym (eqb-true i r (and_left (eqb i r) (ltb j m) h))))
    (λ h. and_both (eq-eqb i r (sym (eqb-true r i h))) (lt-ltb j m l))

module _ (s : Shape) (w : WellFormed s) where
  pub row_is : (i j : ℕ) → i < rows s → cell_number s i j % rows s ≡ i
  unfolding cell_number
  row_is i j l = digits_mod j l

  pub column_is : (i j : ℕ) → i < rows s → cell_number s i j / rows s ≡ j
  unfolding cell_number
  column_is i j l = digits_div j l

  pub cell_is : (c : ℕ) → cell_number s (c % rows s) (c / rows s) ≡ c
  unfolding cell_number
  cell_is c = div-add-mod' c (rows s)

  pub cell_inside : (i j : ℕ) → i < rows s → j < columns s → cell_number s i j < cells s
  unfolding cell_number cells
  cell_inside i j li lj = digits_lt lj li

  -- the number of a cell, as the code works it out, is small
  pub number_is : (i j n : ℕ) → n ≡ rows s → j * n + i ≡ cell_number s i j
  unfolding cell_number
  number_is i j n e = ap (λ (x : ℕ). j * x + i) e

  pub number_small : (i j n : ℕ) → n ≡ rows s → i < rows s → j < columns s → j * n + i ≤ most_cells
  number_small i j n e li lj = omega (arith, number_is i j n e, cell_inside i j li lj, cells_high s w)

  pub place_small : (i j n : ℕ) → n ≡ rows s → i < rows s → j < columns s → (j * n + i) * s.cell ≤ most_bytes
  place_small i j n e li lj = mul-le-mul (number_small i j n e li lj) w.cell_high

  -- a cell has one row and one column
  pub same_row : (i j k l : ℕ) → i < rows s → k < rows s → cell_number s i j ≡ cell_number s k l → i ≡ k
  same_row i j k l li lk e = sym (row_is i j li) ∙ ap (λ (c : ℕ). c % rows s) e ∙ row_is k l lk

  pub same_column : (i j k l : ℕ) → i < rows s → k < rows s → cell_number s i j ≡ cell_number s k l → j ≡ l
  same_column i j k l li lk e = sym (column_is i j li) ∙ ap (λ (c : ℕ). c / rows s) e ∙ column_is k l lk

  -- an equation that is known
  pub parity_of : (q : ℕ) (e : Equation) → equation s q ≡ e → parity_cell s q ≡ cell_number s e.row e.column
  unfolding parity_cell
  parity_of q e is = ap (λ (x : Equation). cell_number s x.row x.column) is

  pub sums_of : (q : ℕ) (e : Equation) → equation s q ≡ e → (i j : ℕ) → i < rows s → sums_cell s q (cell_number s i j) ≡ e.sums i j
  unfolding sums_cell
  sums_of q e is i j l = ap (λ (x : Equation). x.sums (cell_number s i j % rows s) (cell_number s i j / rows s)) is ∙ ap₂ e.sums (row_is i j l) (column_is i j l)

  -- the parity cell of equation q is a parity cell, and every parity cell is one of these
  pub parity_yes : (q c : ℕ) → q < equations s → parity_cell s q ≡ c → is_parity s c ≡ true
  unfolding is_parity
  parity_yes q c l e = any_at (equations s) (λ r. eqb (parity_cell s r) c) q l (eq-eqb (parity_cell s q) c e)

  pub parity_some : (c : ℕ) → is_parity s c ≡ true → (q : ℕ) × (q < equations s) × (parity_cell s q ≡ c)
  unfolding is_parity
  parity_some c h =
      let found = any_some (equations s) (λ r. eqb (parity_cell s r) c) h in
      (found.0, found.1, eqb-true (parity_cell s found.0) c found.2)

  -- where the code is known
  module _ (c : Code) (is : code_of s ≡ c) where
    first_parity : (r : ℕ) → r < c.size → parity_cell s r ≡ cell_number s (c.first r).row (c.first r).column
    first_parity r l = parity_of r (c.first r) (first_of s c is r l)

    second_parity : (d : ℕ) → parity_cell s (c.size + d) ≡ cell_number s (c.second d).row (c.second d).column
    second_parity d = parity_of (c.size + d) (c.second d) (second_at s c is d)

    -- a parity cell is that of an equation of the first family, or of the second
    parity_cases : {A : Type 0} (i j : ℕ) → i < rows s → ((r : ℕ) → r < c.size → ((c.first r).row < rows s) × ((c.second r).row < rows s)) → is_parity s (cell_number s i j) ≡ true
        → ((r : ℕ) → r < c.size → (c.first r).row ≡ i → (c.first r).column ≡ j → A) → ((d : ℕ) → d < c.size → (c.second d).row ≡ i → (c.second d).column ≡ j → A) → A
    parity_cases {A} i j li small h one other =
        let found = parity_some (cell_number s i j) h in
        families (λ q. parity_cell s q ≡ cell_number s i j → A) c.size
        (λ r l e. at (c.first r) (small r l).0 (sym (first_parity r l) ∙ e) (one r l))
        (λ d l e. at (c.second d) (small d l).1 (sym (second_parity d) ∙ e) (other d l))
        found.0 (omega (arith, found.1, equations_of s c is)) found.2
      where
        at : (e : Equation) → e.row < rows s → cell_number s e.row e.column ≡ cell_number s i j → (e.row ≡ i → e.column ≡ j → A) → A
        at e l same k = k (same_row e.row e.column i j l li same) (same_column e.row e.column i j l li same)

    -- the parity cells of the first family are column k, and those of the second column k + 1: the last two
    parity_columns : (k : ℕ) → c.size ≡ rows s → columns s ≡ k + 2 → ((r : ℕ) → ((c.first r).row ≡ r) × ((c.first r).column ≡ k)) → ((d : ℕ) → ((c.second d).row ≡ d) × ((c.second d).column ≡ k + 1))
        → (i j : ℕ) → i < rows s → j < columns s → leb k j ≡ is_parity s (cell_number s i j)
    parity_columns k height width one other i j li lj =
        same_test
        (λ h. by_equal j k
        (λ e. parity_yes i (cell_number s i j) (omega (arith, equations_of s c is)) (first_parity i (omega arith) ∙ ap₂ (cell_number s) (one i).0 ((one i).1 ∙ sym e)))
        (λ n. parity_yes (c.size + i) (cell_number s i j) (omega (arith, equations_of s c is)) (second_parity i ∙ ap₂ (cell_number s) (other i).0 ((other i).1 ∙ last n (leb-true k j h)))))
        (λ h. parity_cases i j li (λ r l. (omega (arith, (one r).0), omega (arith, (other r).0))) h
        (λ r l er ec. le-leb k j (omega (arith, (one r).1))) (λ d l er ec. le-leb k j (omega (arith, (other d).1))))
      where
        last : j ≢ k → k ≤ j → k + 1 ≡ j
        last n lo = omega arith

    -- a cell that one equation of each family sums
    two_lines : (i j a b : ℕ) → i < rows s → a < c.size → ((r : ℕ) → r < c.size → (c.first r).sums i j ≡ eqb r a) → ((d : ℕ) → d < c.size → (c.second d).sums i j ≡ eqb d b)
        → (q : ℕ) → q < equations s → sums_cell s q (cell_number s i j) ≡ (eqb q a || eqb q (c.size + b))
    two_lines i j a b li la one other q lq =
        families (λ k. sums_cell s k (cell_number s i j) ≡ (eqb k a || eqb k (c.size + b))) c.size
        (λ r l. sums_of r (c.first r) (first_of s c is r l) i j li ∙ one r l
        ∙ same_test (or_left _) (λ h. either (eqb r a) (eqb r (c.size + b)) h (λ e. e) (λ e. let same = eqb-true r (c.size + b) e in absurd (omega arith))))
        (λ d l. sums_of (c.size + d) (c.second d) (second_at s c is d) i j li ∙ other d l
        ∙ same_test
        (λ h. or_right (eqb (c.size + d) a) (eq-eqb (c.size + d) (c.size + b) (ap (λ (x : ℕ). c.size + x) (eqb-true d b h))))
        (λ h. either (eqb (c.size + d) a) (eqb (c.size + d) (c.size + b)) h
        (λ e. let same = eqb-true (c.size + d) a e in absurd (omega arith))
        (λ e. let same = eqb-true (c.size + d) (c.size + b) e in eq-eqb d b (omega arith))))
        q (omega (arith, equations_of s c is))

  -- ---- RDP

  module _ (is-rdp : s.code ≡ 1) where
    pub rdp_first : (r : ℕ) → r < s.p - 1 → parity_cell s r ≡ cell_number s r (s.p - 1)
    rdp_first = first_parity (rdp s.p) (rdp_is s is-rdp)

    pub rdp_second_is : (d : ℕ) → equation s (s.p - 1 + d) ≡ rdp_diagonal s.p d
    rdp_second_is = second_at s (rdp s.p) (rdp_is s is-rdp)

    pub rdp_second : (d : ℕ) → d < s.p - 1 → parity_cell s (s.p - 1 + d) ≡ cell_number s d s.p
    rdp_second d l = second_parity (rdp s.p) (rdp_is s is-rdp) d

    -- parity is in the last two columns
    pub rdp_parity : (i j : ℕ) → i < rows s → j < columns s → leb (s.p - 1) j ≡ is_parity s (cell_number s i j)
    rdp_parity =
        parity_columns (rdp s.p) (rdp_is s is-rdp) (s.p - 1) (rdp_rows s w is-rdp) (omega (arith, rdp_columns s w is-rdp, low s w)) (λ r. (refl, refl))
        (λ d. (refl, (let z : s.p ≡ s.p - 1 + 1 = omega (arith, low s w) in z)))

    -- a data cell is in its row and on its diagonal
    pub rdp_sums : (i j : ℕ) → i < s.p - 1 → j < s.p - 1 → (q : ℕ) → q < equations s
        → sums_cell s q (cell_number s i j) ≡ (eqb q i || eqb q (s.p - 1 + (i + j) % s.p))
    rdp_sums i j li lj =
        two_lines (rdp s.p) (rdp_is s is-rdp) i j i ((i + j) % s.p) (omega (arith, rdp_rows s w is-rdp)) li
        (λ r l. row_test (s.p - 1) i j r lj)
        (λ d l. same_test
        (λ h. eq-eqb d ((i + j) % s.p) (sym (eqb-true ((i + j) % s.p) d (and_right (ltb i (s.p - 1)) (eqb ((i + j) % s.p) d) (and_right (ltb j s.p) (ltb i (s.p - 1) && eqb ((i + j) % s.p) d) h)))))
        (λ h. and_both (lt-ltb j s.p (omega arith)) (and_both (lt-ltb i (s.p - 1) li) (eq-eqb ((i + j) % s.p) d (sym (eqb-true d ((i + j) % s.p) h))))))

  -- ---- H-Code

  module _ (is-hcode : s.code ≡ 2) where
    pub hcode_first : (r : ℕ) → r < s.p - 1 → parity_cell s r ≡ cell_number s r s.p
    hcode_first = first_parity (hcode s.p) (hcode_is s is-hcode)

    pub hcode_second_is : (r : ℕ) → equation s (s.p - 1 + r) ≡ hcode_anti_diagonal s.p r
    hcode_second_is = second_at s (hcode s.p) (hcode_is s is-hcode)

    pub hcode_second : (r : ℕ) → r < s.p - 1 → parity_cell s (s.p - 1 + r) ≡ cell_number s r (r + 1)
    hcode_second r l = second_parity (hcode s.p) (hcode_is s is-hcode) r

    -- parity is in the last column, and beside the diagonal
    pub hcode_parity : (i j : ℕ) → i < rows s → is_parity s (cell_number s i j) ≡ (eqb j s.p || eqb j (i + 1))
    hcode_parity i j li =
        same_test
        (λ h. parity_cases (hcode s.p) (hcode_is s is-hcode) i j li (λ r l. (omega (arith, height), omega (arith, height))) h
        (λ r l er ec. or_left _ (eq-eqb j s.p (sym ec))) (λ r l er ec. or_right (eqb j s.p) (eq-eqb j (i + 1) (omega arith))))
        (λ h. either (eqb j s.p) (eqb j (i + 1)) h
        (λ e. parity_yes i (cell_number s i j) (omega (arith, hcode_n s w is-hcode, height)) (hcode_first i (omega (arith, height)) ∙ ap (cell_number s i) (sym (eqb-true j s.p e))))
        (λ e. parity_yes (s.p - 1 + i) (cell_number s i j) (omega (arith, hcode_n s w is-hcode, height)) (hcode_second i (omega (arith, height)) ∙ ap (cell_number s i) (sym (eqb-true j (i + 1) e)))))
      where
        height : s.p - 1 ≡ rows s
        height = hcode_rows s w is-hcode

    -- row i and column j meet on anti-diagonal r exactly where row r and column j meet on anti-diagonal i
    mirror : (i j r : ℕ) → r < s.p - 1 → i ≡ (s.p - 2 - r + j) % s.p → j < s.p → i < s.p - 1 → r ≡ (s.p - 2 - i + j) % s.p
    mirror i j r lr e lj li =
        sym (mod-eq_of_lt (omega arith))
        ∙ by_less (s.p - 2 - r + j) s.p
        (λ small. ap (λ (x : ℕ). x % s.p) (let at : i ≡ s.p - 2 - r + j = e ∙ mod-eq_of_lt small in near at))
        (λ large. sym (ap (λ (x : ℕ). x % s.p) (let at : s.p - 2 - r + j - s.p ≡ i = wrapped s.p (s.p - 2 - r + j) large (omega arith) ∙ sym e in far at large) ∙ add-mod_right r s.p))
      where
        near : i ≡ s.p - 2 - r + j → r ≡ s.p - 2 - i + j
        near at = omega arith

        far : s.p - 2 - r + j - s.p ≡ i → s.p ≤ s.p - 2 - r + j → s.p - 2 - i + j ≡ r + s.p
        far at large = omega arith

    -- a data cell is in its row and on its anti-diagonal
    pub hcode_sums : (i j : ℕ) → i < s.p - 1 → j < s.p → j ≢ i + 1 → (q : ℕ) → q < equations s
        → sums_cell s q (cell_number s i j) ≡ (eqb q i || eqb q (s.p - 1 + (j + (s.p - 2 - i)) % s.p))
    hcode_sums i j li lj n =
        two_lines (hcode s.p) (hcode_is s is-hcode) i j i ((j + (s.p - 2 - i)) % s.p) (omega (arith, hcode_rows s w is-hcode)) li
        (λ r l. same_test
        (λ h. eq-eqb r i (sym (eqb-true i r (and_left (eqb i r) (ltb j s.p && not (eqb j (r + 1))) h))))
        (λ h. let same = eqb-true r i h in
        and_both (eq-eqb i r (sym same)) (and_both (lt-ltb j s.p lj) (ap not (ne_eqb j (r + 1) (λ z. n (omega arith)))))))
        (λ r l. same_test
        (λ h.
        let at = eqb-true i ((s.p - 2 - r + j) % s.p) (and_right (not (eqb j (r + 1))) (eqb i ((s.p - 2 - r + j) % s.p)) (and_right (ltb j s.p) (not (eqb j (r + 1)) && eqb i ((s.p - 2 - r + j) % s.p)) h)) in
        eq-eqb r ((j + (s.p - 2 - i)) % s.p) (mirror i j r l at lj li ∙ ap (λ (x : ℕ). x % s.p) (add_comm (s.p - 2 - i) j)))
        (λ h.
        let at : r ≡ (s.p - 2 - i + j) % s.p = eqb-true r ((j + (s.p - 2 - i)) % s.p) h ∙ ap (λ (x : ℕ). x % s.p) (add_comm j (s.p - 2 - i)) in
        let back : i ≡ (s.p - 2 - r + j) % s.p = mirror r j i li at lj l in
        and_both (lt-ltb j s.p lj) (and_both (ap not (ne_eqb j (r + 1) (λ z. off r back z l))) (eq-eqb i ((s.p - 2 - r + j) % s.p) back))))
      where
        -- in column r + 1 the anti-diagonal r would be in row p - 1
        off : (r : ℕ) → i ≡ (s.p - 2 - r + j) % s.p → j ≡ r + 1 → r < s.p - 1 → ⊥
        off r e z l =
            let end : s.p - 2 - r + j ≡ s.p - 1 = omega arith in
            let at : i ≡ s.p - 1 = e ∙ ap (λ (x : ℕ). x % s.p) end ∙ mod-eq_of_lt (omega (arith, low s w)) in
            omega arith

  -- ---- X-Code

  module _ (is-xcode : s.code ≡ 3) where
    pub xcode_first_at : (c : ℕ) → c < s.p → parity_cell s c ≡ cell_number s (s.p - 2) c
    xcode_first_at = first_parity (xcode s.p) (xcode_is s is-xcode)

    pub xcode_family_is : (c : ℕ) → equation s (s.p + c) ≡ xcode_second s.p c
    xcode_family_is = second_at s (xcode s.p) (xcode_is s is-xcode)

    pub xcode_second_at : (c : ℕ) → c < s.p → parity_cell s (s.p + c) ≡ cell_number s (s.p - 1) c
    xcode_second_at c l = second_parity (xcode s.p) (xcode_is s is-xcode) c

    -- parity is in the last two rows
    pub xcode_parity : (i j : ℕ) → i < rows s → j < columns s → leb (s.p - 2) i ≡ is_parity s (cell_number s i j)
    xcode_parity i j li lj =
        same_test
        (λ h. by_equal i (s.p - 2)
        (λ e. parity_yes j (cell_number s i j) (omega (arith, xcode_n s w is-xcode, width)) (xcode_first_at j (omega (arith, width)) ∙ ap (λ (x : ℕ). cell_number s x j) (sym e)))
        (λ n. parity_yes (s.p + j) (cell_number s i j) (omega (arith, xcode_n s w is-xcode, width)) (xcode_second_at j (omega (arith, width)) ∙ ap (λ (x : ℕ). cell_number s x j) (last n (leb-true (s.p - 2) i h)))))
        (λ h. parity_cases (xcode s.p) (xcode_is s is-xcode) i j li
        (λ c l. (omega (arith, xcode_rows s w is-xcode, low s w), omega (arith, xcode_rows s w is-xcode, low s w))) h
        (λ c l er ec. le-leb (s.p - 2) i (omega arith)) (λ c l er ec. le-leb (s.p - 2) i (omega arith)))
      where
        width : s.p ≡ columns s
        width = xcode_columns s w is-xcode

        last : i ≢ s.p - 2 → s.p - 2 ≤ i → s.p - 1 ≡ i
        last n lo = omega (arith, xcode_rows s w is-xcode, low s w)

    -- a data cell is on one line of each family
    pub xcode_sums : (i j : ℕ) → i < s.p - 2 → j < s.p → (q : ℕ) → q < equations s
        → sums_cell s q (cell_number s i j) ≡ (eqb q ((j + (s.p - 2 - i)) % s.p) || eqb q (s.p + (j + (i + 2)) % s.p))
    xcode_sums i j li lj =
        two_lines (xcode s.p) (xcode_is s is-xcode) i j ((j + (s.p - 2 - i)) % s.p) ((j + (i + 2)) % s.p) (omega (arith, xcode_rows s w is-xcode)) (mod-lt (j + (s.p - 2 - i)) (omega arith))
        (λ c l. same_test
        (λ h. eq-eqb c ((j + (s.p - 2 - i)) % s.p) (sym (turn c j (i + 2) (s.p - 2 - i) l whole
        (eqb-true j ((c + i + 2) % s.p) (and_right (ltb i (s.p - 2)) (eqb j ((c + i + 2) % s.p)) h) ∙ ap (λ (x : ℕ). x % s.p) (add_assoc c i 2)))))
        (λ h. and_both (lt-ltb i (s.p - 2) li) (eq-eqb j ((c + i + 2) % s.p)
        (sym (turn j c (s.p - 2 - i) (i + 2) lj whole' (eqb-true c ((j + (s.p - 2 - i)) % s.p) h)) ∙ ap (λ (x : ℕ). x % s.p) (sym (add_assoc c i 2))))))
        (λ c l. same_test
        (λ h. eq-eqb c ((j + (i + 2)) % s.p)
        (sym (turn c j (s.p - 2 - i) (i + 2) l whole' (eqb-true j ((s.p + c - i - 2) % s.p) (and_right (ltb i (s.p - 2)) (eqb j ((s.p + c - i - 2) % s.p)) h) ∙ ap (λ (x : ℕ). x % s.p) (back c)))))
        (λ h. and_both (lt-ltb i (s.p - 2) li) (eq-eqb j ((s.p + c - i - 2) % s.p)
        (sym (turn j c (i + 2) (s.p - 2 - i) lj whole (eqb-true c ((j + (i + 2)) % s.p) h)) ∙ ap (λ (x : ℕ). x % s.p) (sym (back c))))))
      where
        whole : (i + 2) + (s.p - 2 - i) ≡ s.p
        whole = omega arith

        whole' : (s.p - 2 - i) + (i + 2) ≡ s.p
        whole' = omega arith

        back : (c : ℕ) → s.p + c - i - 2 ≡ c + (s.p - 2 - i)
        back c = omega arith

        -- a column that is x on from c is p - x back from where it came
        turn : (c k x y : ℕ) → c < s.p → x + y ≡ s.p → k ≡ (c + x) % s.p → (k + y) % s.p ≡ c
        turn c k x y l e at = ap (λ (z : ℕ). (z + y) % s.p) at ∙ there_and_back s.p c x y l e

  -- ---- EVENODD

  module _ (is-evenodd : s.code ≡ 4) where
    pub evenodd_first : (r : ℕ) → r < s.p - 1 → parity_cell s r ≡ cell_number s r s.p
    evenodd_first = first_parity (evenodd s.p) (evenodd_is s is-evenodd)

    pub evenodd_second_is : (d : ℕ) → equation s (s.p - 1 + d) ≡ evenodd_diagonal s.p d
    evenodd_second_is = second_at s (evenodd s.p) (evenodd_is s is-evenodd)

    pub evenodd_second : (d : ℕ) → parity_cell s (s.p - 1 + d) ≡ cell_number s d (s.p + 1)
    evenodd_second = second_parity (evenodd s.p) (evenodd_is s is-evenodd)

    -- parity is in the last two columns
    pub evenodd_parity : (i j : ℕ) → i < rows s → j < columns s → leb s.p j ≡ is_parity s (cell_number s i j)
    evenodd_parity = parity_columns (evenodd s.p) (evenodd_is s is-evenodd) s.p (evenodd_rows s w is-evenodd) (sym (evenodd_columns s w is-evenodd)) (λ r. (refl, refl)) (λ d. (refl, refl))

    -- the cells of S have row and column p - 1 together
    pub s_test : (i j : ℕ) → i < s.p - 1 → j < s.p → evenodd_s s.p i j ≡ eqb (i + j) (s.p - 1)
    s_test i j li lj =
        same_test
        (λ h. let at = eqb-true i (s.p - 1 - j) (and_right (ltb j s.p) (eqb i (s.p - 1 - j)) (and_right (ltb 0 j) (ltb j s.p && eqb i (s.p - 1 - j)) h)) in eq-eqb (i + j) (s.p - 1) (omega arith))
        (λ h. let at = eqb-true (i + j) (s.p - 1) h in and_both (lt-ltb 0 j (omega arith)) (and_both (lt-ltb j s.p lj) (eq-eqb i (s.p - 1 - j) (omega arith))))

    -- a data cell off them is in its row and on its diagonal
    pub evenodd_sums : (i j : ℕ) → i < s.p - 1 → j < s.p → i + j ≢ s.p - 1 → (q : ℕ) → q < equations s
        → sums_cell s q (cell_number s i j) ≡ (eqb q i || eqb q (s.p - 1 + (i + j) % s.p))
    evenodd_sums i j li lj off =
        two_lines (evenodd s.p) (evenodd_is s is-evenodd) i j i ((i + j) % s.p) (omega (arith, evenodd_rows s w is-evenodd)) li
        (λ r l. row_test s.p i j r lj)
        (λ d l. rw (s_test i j li lj, ne_eqb (i + j) (s.p - 1) off) (same_test
        (λ h. eq-eqb d ((i + j) % s.p) (sym (eqb-true ((i + j) % s.p) d (and_right (ltb j s.p) (eqb ((i + j) % s.p) d) h))))
        (λ h. and_both (lt-ltb j s.p lj) (eq-eqb ((i + j) % s.p) d (sym (eqb-true d ((i + j) % s.p) h))))))

    -- one of them is in its row, and every diagonal sums it
    pub evenodd_sums_all : (i j : ℕ) → i < s.p - 1 → j < s.p → i + j ≡ s.p - 1 → (q : ℕ) → q < equations s
        → sums_cell s q (cell_number s i j) ≡ (eqb q i || leb (s.p - 1) q)
    evenodd_sums_all i j li lj on q lq =
        families (λ k. sums_cell s k (cell_number s i j) ≡ (eqb k i || leb (s.p - 1) k)) (s.p - 1)
        (λ r l. sums_of r _ (first_of s (evenodd s.p) (evenodd_is s is-evenodd) r l) i j height ∙ row_test s.p i j r lj
        ∙ same_test (or_left _) (λ h. either (eqb r i) (leb (s.p - 1) r) h (λ e. e) (λ e. let far = leb-true (s.p - 1) r e in absurd (omega arith))))
        (λ d l. sums_of (s.p - 1 + d) _ (evenodd_second_is d) i j height
        ∙ or_left _ (s_test i j li lj ∙ eq-eqb (i + j) (s.p - 1) on) ∙ sym (or_right (eqb (s.p - 1 + d) i) (le-leb (s.p - 1) (s.p - 1 + d) (omega arith))))
        q (omega (arith, evenodd_n s w is-evenodd))
      where
        height : i < rows s
        height = omega (arith, evenodd_rows s w is-evenodd)
