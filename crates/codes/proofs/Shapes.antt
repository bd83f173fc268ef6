-- Laws of the shape: the ten primes and the four codes, one after the other; what is small.
use mathlib.Core.Path.{◌≡◌, refl, sym, ap, ap₂, ◌∙◌, subst}
use mathlib.Core.Logic.{◌≢◌, ◌⊎◌, inl, inr, ⊎_elim}
use mathlib.Core.Bool.{true, false, not, ◌||◌}
use Prim.Native.Nat.{ℕ, ◌+◌, ◌-◌, ◌*◌, ◌≤◌, ◌<◌}
use native.Mathlib.Nat.{mul-le-mul, mul-le-mul_right}
use native.Mathlib.Omega.{arith}
use lib.Dec.{eqb, leb}
use borrow.Author.Tests.{eqb-true, eq-eqb, ne_eqb, lt-ltb, le-ltb, le-leb}
use Rattle.std.specs.Option.{unwrap_or}
use Rattle.std.specs.declared.option.Option.{Option}
use Rattle.std.specs.declared.option.Option.TheVariants.{None, Some}
use Rattle.xor.proofs.Cases.{by_equal, by_less, either, clash, or_left, or_right, not_passed}
use Rattle.codes.specs.declared.Shape.{Shape}
use Rattle.codes.specs.Equations.{Equation, Code, rdp, hcode, xcode, evenodd, code_of, equation}
use Rattle.codes.specs.Shape.{last_code, listed, most_cell, rows, columns, equations, cells, without, missing, wrong_data, disks, existing, stripe_length, WellFormed}

-- what holds of each of the ten primes holds of a listed number
pub each_prime : (P : ℕ → Type 0) → P 3 → P 5 → P 7 → P 11 → P 13 → P 17 → P 19 → P 23 → P 29 → P 31 → (p : ℕ) → listed p ≡ true → P p
unfolding listed
each_prime P x3 x5 x7 x11 x13 x17 x19 x23 x29 x31 p h =
    either _ (eqb p 31) h
    (λ h. either _ (eqb p 29) h
    (λ h. either _ (eqb p 23) h
    (λ h. either _ (eqb p 19) h
    (λ h. either _ (eqb p 17) h
    (λ h. either _ (eqb p 13) h
    (λ h. either _ (eqb p 11) h
    (λ h. either _ (eqb p 7) h
    (λ h. either (eqb p 3) (eqb p 5) h (at 3 x3) (at 5 x5)) (at 7 x7)) (at 11 x11)) (at 13 x13)) (at 17 x17)) (at 19 x19)) (at 23 x23)) (at 29 x29)) (at 31 x31)
  where
    at : (n : ℕ) → P n → eqb p n ≡ true → P p
    at n x e = subst P (sym (eqb-true p n e)) x

-- one of the ten, as the code's `match` tells them
abbrev OneOfTen : ℕ → Type 0
OneOfTen p = (p ≡ 3) ⊎ ((p ≡ 5) ⊎ ((p ≡ 7) ⊎ ((p ≡ 11) ⊎ ((p ≡ 13) ⊎ ((p ≡ 17) ⊎ ((p ≡ 19) ⊎ ((p ≡ 23) ⊎ ((p ≡ 29) ⊎ (p ≡ 31)))))))))

pub one_of : (p : ℕ) → OneOfTen p → listed p ≡ true
unfolding listed
one_of p =
    ⊎_elim (at 3 refl) (⊎_elim (at 5 refl) (⊎_elim (at 7 refl) (⊎_elim (at 11 refl) (⊎_elim (at 13 refl)
    (⊎_elim (at 17 refl) (⊎_elim (at 19 refl) (⊎_elim (at 23 refl) (⊎_elim (at 29 refl) (at 31 refl)))))))))
  where
    at : (n : ℕ) → listed n ≡ true → p ≡ n → listed p ≡ true
    at n x e = subst (λ (k : ℕ). listed k ≡ true) (sym e) x

pub none_of : (p : ℕ) → (OneOfTen p → ⊥) → listed p ≡ false
none_of p none =
    not_passed (λ h. none (each_prime OneOfTen (inl refl) (inr (inl refl)) (inr (inr (inl refl))) (inr (inr (inr (inl refl)))) (inr (inr (inr (inr (inl refl)))))
    (inr (inr (inr (inr (inr (inl refl)))))) (inr (inr (inr (inr (inr (inr (inl refl))))))) (inr (inr (inr (inr (inr (inr (inr (inl refl))))))))
    (inr (inr (inr (inr (inr (inr (inr (inr (inl refl))))))))) (inr (inr (inr (inr (inr (inr (inr (inr (inr refl))))))))) p h))

pub prime_low : (p : ℕ) → listed p ≡ true → 3 ≤ p
prime_low = each_prime (λ p. 3 ≤ p) (omega arith) (omega arith) (omega arith) (omega arith) (omega arith) (omega arith) (omega arith) (omega arith) (omega arith) (omega arith)

prime_high : (p : ℕ) → listed p ≡ true → p ≤ 31
prime_high = each_prime (λ p. p ≤ 31) (omega arith) (omega arith) (omega arith) (omega arith) (omega arith) (omega arith) (omega arith) (omega arith) (omega arith) (omega arith)

-- what holds of each of the four codes
pub each_code : (P : ℕ → Type 0) → P 1 → P 2 → P 3 → P 4 → (code : ℕ) → 1 ≤ code → code ≤ last_code → P code
each_code P x1 x2 x3 x4 code lo hi =
    by_equal code 1 (λ e. subst P (sym e) x1)
    (λ n1. by_equal code 2 (λ e. subst P (sym e) x2) (λ n2. by_equal code 3 (λ e. subst P (sym e) x3) (λ n3. subst P (rest n1 n2 n3) x4)))
  where
    rest : code ≢ 1 → code ≢ 2 → code ≢ 3 → 4 ≡ code
    rest n1 n2 n3 = omega arith

-- what holds of RDP, of H-Code, of X-Code and of EVENODD at the stripe's prime holds of the stripe's code
pub of_code : (P : Code → Type 0) (s : Shape) → WellFormed s → P (rdp s.p) → P (hcode s.p) → P (xcode s.p) → P (evenodd s.p) → P (code_of s)
of_code P s w x1 x2 x3 x4 = each_code (λ n. P (code_of (record { code = n; p = s.p; cell = s.cell; width = s.width }))) x1 x2 x3 x4 s.code w.code_low w.code_high

-- a fact that is shown for each code by itself
pub by_code : {A : Type 0} (s : Shape) → WellFormed s → (s.code ≡ 1 → A) → (s.code ≡ 2 → A) → (s.code ≡ 3 → A) → (s.code ≡ 4 → A) → A
by_code {A} s w x1 x2 x3 x4 = each_code (λ n. s.code ≡ n → A) x1 x2 x3 x4 s.code w.code_low w.code_high refl

-- ---- rows, columns and equations, where the code is known

module _ (s : Shape) where
  pub rdp_is : s.code ≡ 1 → code_of s ≡ rdp s.p
  rdp_is e = rw e refl

  pub hcode_is : s.code ≡ 2 → code_of s ≡ hcode s.p
  hcode_is e = rw e refl

  pub xcode_is : s.code ≡ 3 → code_of s ≡ xcode s.p
  xcode_is e = rw e refl

  pub evenodd_is : s.code ≡ 4 → code_of s ≡ evenodd s.p
  evenodd_is e = rw e refl

  module _ (c : Code) (is : code_of s ≡ c) where
    pub rows_of : c.rows ≡ rows s
    unfolding rows
    rows_of = ap (λ (x : Code). x.rows) (sym is)

    pub columns_of : c.columns ≡ columns s
    unfolding columns
    columns_of = ap (λ (x : Code). x.columns) (sym is)

    pub equations_of : 2 * c.size ≡ equations s
    unfolding equations
    equations_of = ap (λ (x : Code). 2 * x.size) (sym is)

    pub extents : (c.rows ≡ rows s) × (c.columns ≡ columns s) × (2 * c.size ≡ equations s)
    extents = (rows_of, columns_of, equations_of)

    pub first_of : (q : ℕ) → q < c.size → equation s q ≡ c.first q
    unfolding equation
    first_of q l = rw (is, lt-ltb q c.size l) refl

    pub second_of : (q : ℕ) → c.size ≤ q → equation s q ≡ c.second (q - c.size)
    unfolding equation
    second_of q l = rw (is, le-ltb q c.size l) refl

    pub second_at : (d : ℕ) → equation s (c.size + d) ≡ c.second d
    second_at d = second_of (c.size + d) (omega arith) ∙ ap c.second same
      where
        same : c.size + d - c.size ≡ d
        same = omega arith

  pub columns_third : s.code ≡ 3 → s.p ≡ columns s
  columns_third e = columns_of (xcode s.p) (xcode_is e)

  -- cells and bytes, as the code works them out
  pub cells_of : (a b : ℕ) → a ≡ columns s → b ≡ rows s → a * b ≡ cells s
  unfolding cells
  cells_of a b p q = ap₂ ◌*◌ p q

  pub existing_of : (a b : ℕ) → a ≡ disks s → b ≡ rows s → a * b ≡ existing s
  unfolding existing
  existing_of a b p q = ap₂ ◌*◌ p q

  pub length_of : (n : ℕ) → n ≡ existing s → n * s.cell ≡ stripe_length s
  unfolding stripe_length
  length_of n e = ap (λ (k : ℕ). k * s.cell) e

-- ---- what is small

-- the most rows, columns, equations, cells and bytes of a stripe
abbrev pub most_rows : ℕ
most_rows = 31

abbrev pub most_columns : ℕ
most_columns = 33

abbrev pub most_equations : ℕ
most_equations = 62

abbrev pub most_cells : ℕ
most_cells = 990

abbrev pub most_bytes : ℕ
most_bytes = most_cells * most_cell

-- where the number of data columns is right, one of them exists at least, and only of RDP some need not
few_missing : (code p : ℕ) (width : Option ℕ) → 3 ≤ p → wrong_data code p width ≡ false → without p width + 2 ≤ p
few_missing code p None lo h = omega arith
few_missing code p (Some m) lo h =
    by_equal code 1
    (λ e. by_equal m 0 (λ z. clash (or_right (not (eqb code 1)) (or_left (leb p m) (eq-eqb m 0 z))) h) (λ n. omega arith))
    (λ n. clash (or_left (eqb m 0 || leb p m) (ap not (ne_eqb code 1 n))) h)

none_missing : (code p : ℕ) (width : Option ℕ) → code ≢ 1 → wrong_data code p width ≡ false → without p width ≡ 0
none_missing code p None n h = refl
none_missing code p (Some m) n h = clash (or_left (eqb m 0 || leb p m) (ap not (ne_eqb code 1 n))) h

-- the same, as the code tells them
module _ (code p m : ℕ) (width : Option ℕ) (is : width ≡ Some m) where
  pub wrong_code : code ≢ 1 → true ≡ wrong_data code p width
  wrong_code n = rw is (sym (or_left (eqb m 0 || leb p m) (ap not (ne_eqb code 1 n))))

  pub wrong_none : code ≡ 1 → m ≡ 0 → true ≡ wrong_data code p width
  wrong_none e z = rw is (sym (or_right (not (eqb code 1)) (or_left (leb p m) (eq-eqb m 0 z))))

  pub wrong_most : code ≡ 1 → m ≢ 0 → leb p m ≡ wrong_data code p width
  wrong_most e n = rw (is, eq-eqb code 1 e, ne_eqb m 0 n) refl

  pub not_most : wrong_data code p width ≡ false → m < p
  not_most h = by_less m p (λ l. l) (λ l. clash (or_right (not (eqb code 1)) (or_right (eqb m 0) (le-leb p m l))) (sym (ap (wrong_data code p) is) ∙ h))

-- how many data columns there are
data_left : (code p : ℕ) (width : Option ℕ) → wrong_data code p width ≡ false → unwrap_or width (p - 1) ≡ p - 1 - without p width
data_left code p None h = omega arith
data_left code p (Some m) h = omega (arith, not_most code p m (Some m) refl h)

module _ (s : Shape) where
  pub full_missing : s.width ≡ None → 0 ≡ missing s
  unfolding missing
  full_missing e = rw e refl

  pub data_missing : (m : ℕ) → s.width ≡ Some m → s.p - 1 - m ≡ missing s
  unfolding missing
  data_missing m e = rw e refl

-- what the stripes of a code keep to
record Sized (p : ℕ) (c : Code) : Type 0 where
  rows_low : 2 ≤ c.rows
  rows_high : c.rows ≤ most_rows
  wide : p ≤ c.columns
  columns_high : c.columns ≤ most_columns
  equations_high : 2 * c.size ≤ most_equations
  cells_high : c.columns * c.rows ≤ most_cells

module _ (s : Shape) (w : WellFormed s) where
  pub low : 3 ≤ s.p
  low = prime_low s.p w.prime

  pub high : s.p ≤ 31
  high = prime_high s.p w.prime

  -- p - 1 rows and up to two columns more than p, and p of each
  oblong : (more : ℕ) (first second : ℕ → Equation) → more ≤ 2 → Sized s.p (record { rows = s.p - 1; columns = s.p + more; size = s.p - 1; first = first; second = second })
  oblong more first second few = record {
    rows_low = omega (arith, low);
    rows_high = omega (arith, high);
    wide = omega arith;
    columns_high = omega (arith, high);
    equations_high = omega (arith, high);
    cells_high =
        let width : s.p + more ≤ 33 = omega (arith, high) in
        let height : s.p - 1 ≤ 30 = omega (arith, high) in
        mul-le-mul width height;
  }

  square : (first second : ℕ → Equation) → Sized s.p (record { rows = s.p; columns = s.p; size = s.p; first = first; second = second })
  square first second = record {
    rows_low = omega (arith, low);
    rows_high = high;
    wide = omega arith;
    columns_high = omega (arith, high);
    equations_high = omega (arith, high);
    cells_high = omega (arith, mul-le-mul high high);
  }

  sized : Sized s.p (code_of s)
  sized = of_code (Sized s.p) s w (oblong 1 _ _ (omega arith)) (oblong 1 _ _ (omega arith)) (square _ _) (oblong 2 _ _ (omega arith))

  pub rows_low : 2 ≤ rows s
  unfolding rows
  rows_low = sized.rows_low

  pub rows_high : rows s ≤ most_rows
  unfolding rows
  rows_high = sized.rows_high

  pub few_columns : s.p ≤ columns s
  unfolding columns
  few_columns = sized.wide

  pub columns_high : columns s ≤ most_columns
  unfolding columns
  columns_high = sized.columns_high

  pub small_equations : equations s ≤ most_equations
  unfolding equations
  small_equations = sized.equations_high

  pub cells_high : cells s ≤ most_cells
  unfolding cells rows columns
  cells_high = sized.cells_high

  -- a data column at least exists, and only of RDP some need not
  pub missing_low : missing s + 2 ≤ s.p
  unfolding missing
  missing_low = few_missing s.code s.p s.width low w.wide

  pub missing_other : s.code ≢ 1 → missing s ≡ 0
  unfolding missing
  missing_other n = none_missing s.code s.p s.width n w.wide

  -- where a number of data columns is given
  pub data_known : (m : ℕ) → s.width ≡ Some m → (missing s + m ≡ s.p - 1) × (s.code ≡ 1)
  data_known m e = (
    omega (arith, data_missing s m e, not_most s.code s.p m s.width e w.wide),
    by_equal s.code 1 (λ z. z) (λ n. clash (sym (wrong_code s.code s.p m s.width e n)) w.wide),
  )

  -- the first column that need not exist
  pub data_is : unwrap_or s.width (s.p - 1) ≡ s.p - 1 - missing s
  unfolding missing
  data_is = data_left s.code s.p s.width w.wide

  pub disks_is : disks s + missing s ≡ columns s
  unfolding disks
  disks_is = omega (arith, missing_low, few_columns)

  pub disks_high : disks s ≤ columns s
  disks_high = omega (arith, disks_is)

  pub existing_high : existing s ≤ cells s
  unfolding existing cells
  existing_high = mul-le-mul_right {m = disks s} {n = columns s} (rows s) disks_high

  pub length_high : stripe_length s ≤ most_bytes
  unfolding stripe_length
  length_high = mul-le-mul (let few : existing s ≤ most_cells = omega (arith, existing_high, cells_high) in few) w.cell_high
