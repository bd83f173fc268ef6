-- RDP's lines over the data columns that exist, 0 to m-1, and the row parity column, which lies behind them at place m.
use mathlib.Core.Path.{◌≡◌, refl, sym, ap, ap₂, ◌∙◌, subst}
use mathlib.Core.Logic.{◌≢◌, ◌⊎◌, inl, inr, ⊎_elim}
use mathlib.Core.Bool.{true, cond, ◌&&◌}
use Prim.Native.Nat.{ℕ, suc, ◌+◌, ◌-◌, ◌*◌, ◌%◌, ◌≤◌, ◌<◌}
use native.Mathlib.Nat.{mod-eq_of_lt, add-mod_right, mul-le-mul, add-mul, one-mul, zero-mul}
use native.Mathlib.Omega.{arith}
use lib.Dec.{eqb, ltb}
use borrow.Author.Tests.{lt-ltb, le-ltb, eq-eqb, ne_eqb, ltb-true, eqb-true}
use Rattle.std.specs.Option.{unwrap_or}
use Rattle.std.specs.declared.option.Option.{Option}
use Rattle.std.specs.declared.option.Option.TheVariants.{None, Some}
use Rattle.xor.proofs.Cases.{by_less, by_equal, and_left, and_right, and_both}
use Rattle.codes.specs.declared.Shape.{Shape}
use Rattle.codes.specs.declared.Line.{Line}
use Rattle.codes.specs.Shape.{rows, equations, disks, cell_number, missing, WellFormed}
use Rattle.codes.specs.Geometry.{gap, is_there, column_of, lies_at, callers_cell}
use Rattle.codes.specs.Equations.{rdp_row, rdp_diagonal}
use Rattle.codes.specs.Encoded.{parity_cell, sums_cell}
use Rattle.codes.specs.Lines.{line_count, own_cell, Covers}
use Rattle.codes.proofs.Shapes.{low, high, missing_low, disks_is}
use Rattle.codes.proofs.Residues.{wrapped}
use Rattle.codes.proofs.Lines.{rdp_rows, rdp_columns, rdp_n, rdp_row_is}
use Rattle.codes.proofs.Positions.{families, sums_of, rdp_first, rdp_second, rdp_second_is}
use Rattle.codes.proofs.Geometry.{there_cases, column_before, column_after, lies_before, lies_after, callers_at}
use Rattle.codes.proofs.Stepping.{walk_is, count_plain, count_extra, count_few, cell_walked, cell_extra, goes_covers}
use Rattle.codes.proofs.Shared.{none_takes, plain_walks}

module _ (s : Shape) (w : WellFormed s) (is-rdp : s.code ≡ 1) where
  abbrev pub m : ℕ
  m = gap s

  abbrev pub n : ℕ
  n = s.p - 1

  height : n ≡ rows s
  height = rdp_rows s w is-rdp

  m_low : 1 ≤ m
  m_low = omega (arith, missing_low s w)

  m_high : m ≤ n
  m_high = omega arith

  wide : m + missing s ≡ n
  wide = omega (arith, missing_low s w)

  all_disks : disks s ≡ m + 2
  all_disks = omega (arith, disks_is s w, missing_low s w, rdp_columns s w is-rdp)

  -- the row parity column lies behind the data columns, and the diagonal parity column behind that
  parity_lies : lies_at s n ≡ m
  parity_lies = lies_after s n (omega arith)

  last_lies : lies_at s s.p ≡ m + 1
  last_lies = lies_after s s.p (omega arith) ∙ back
    where
      back : s.p - missing s ≡ s.p - 1 - missing s + 1
      back = omega (arith, missing_low s w)

  -- as the code works them out: the data columns that exist, and as many cells as so many columns have
  pub m_is : (x : ℕ) → x ≡ gap s → (1 ≤ x) × (x ≤ s.p - 1)
  m_is x e = (omega (arith, m_low), omega (arith, m_high))

  pub small_cells : (a : ℕ) → a ≤ 32 → a * (s.p - 1) ≤ 960
  small_cells a l = mul-le-mul l (let few : s.p - 1 ≤ 30 = omega (arith, high s w) in few)

  -- parity cells lie one after the other, in the order of their equations
  pub rdp_parity_lies : (q : ℕ) → q < equations s → (x : ℕ) → x ≡ gap s → x * (s.p - 1) + q ≡ callers_cell s (parity_cell s q)
  unfolding cell_number
  rdp_parity_lies q lq x e =
      ap (λ (a : ℕ). a * (s.p - 1) + q) e
      ∙ families (λ r. m * n + r ≡ callers_cell s (parity_cell s r)) n
      (λ r l. ap₂ (λ (a b : ℕ). a * b + r) (sym parity_lies) height ∙ sym (place r n (omega (arith, height))) ∙ ap (callers_cell s) (sym (rdp_first s w is-rdp r l)))
      (λ d l. past d ∙ ap₂ (λ (a b : ℕ). a * b + d) (sym last_lies) height ∙ sym (place d s.p (omega (arith, height))) ∙ ap (callers_cell s) (sym (rdp_second s w is-rdp d l)))
      q (omega (arith, rdp_n s w is-rdp))
    where
      place : (i j : ℕ) → i < rows s → callers_cell s (cell_number s i j) ≡ lies_at s j * rows s + i
      place i j l = callers_at s w i j l

      past : (d : ℕ) → m * n + (n + d) ≡ (m + 1) * n + d
      past d = omega (arith, add-mul m 1 n, one-mul n)

  -- ---- rows

  pub row_walks : (q : ℕ) → q < s.p - 1 → (l : Line) → l.count ≡ gap s → l.first ≡ q → l.step ≡ s.p - 1 → l.turn ≡ 0 → l.second ≡ 0 → l.extra ≡ None → Covers s (own_cell s q) l
  row_walks q lq l count first step turn second extra =
      plain_walks s q l (none_takes s (λ e. omega arith) q) (goes_covers s w (sums_cell s q) l (λ k. k) (λ k. q)
      (record {
        in_row = λ k lk. omega (arith, height);
        in_place = λ k lk. omega (arith, many, all_disks);
        passes = λ k lk.
            let lk' : k < m = omega (arith, many) in
            ap (λ (j : ℕ). sums_cell s q (cell_number s q j)) (column_before s k lk')
            ∙ sums_of s w q (rdp_row s.p q) (rdp_row_is s w is-rdp q lq) q k (omega (arith, height)) ∙ and_both (eq-eqb q q refl) (lt-ltb k (s.p - 1) (omega (arith, m_high)));
        all = λ x y lx ly here p.
            let test = sym (sums_of s w q (rdp_row s.p q) (rdp_row_is s w is-rdp q lq) x y lx) ∙ p in
            let right : y < s.p - 1 = ltb-true y (s.p - 1) (and_right (eqb x q) (ltb y (s.p - 1)) test) in
            let there : y < m = there_cases s y here (λ a. a) (λ a. absurd (omega arith)) in
            (y, omega (arith, many), sym (eqb-true x q (and_left (eqb x q) (ltb y (s.p - 1)) test)), sym (lies_before s y there));
        once = λ j k lj lk e a. a;
        at = λ k lk. cell_walked l k (omega (arith, many)) ∙ walk_is l (rows s) (λ k. k) (λ k. q) (first ∙ (let z : q ≡ 0 * rows s + q = omega (arith, zero-mul (rows s)) in z)) (λ k lk e. absurd (omega arith)) (λ k lk e. (omega arith, omega (arith, height))) k (omega (arith, many));
      })
      (omega (arith, m_low)) (count_few l (omega (arith, m_high, high s w))) (omega (arith, high s w)) (omega arith))
    where
      many : line_count l ≡ m
      many = count_plain l extra ∙ count

  -- ---- diagonals

  -- u is a place at which diagonal d has a cell in row i: that of a data column, or of the row parity column
  abbrev On : ℕ → ℕ → ℕ → Type 0
  On d i u = ((u < m) × ((i + u ≡ d) ⊎ (i + u ≡ s.p + d))) ⊎ ((u ≡ m) × (i ≡ d + 1))

  module _ (d : ℕ) (ld : d < s.p - 1) where
    -- the column at such a place, as the equations number it
    column_on : (i u : ℕ) → On d i u → (u ≤ m) × (column_of s u < s.p) × ((i + column_of s u ≡ d) ⊎ (i + column_of s u ≡ s.p + d))
    column_on i u =
        ⊎_elim
        (λ h. let same : column_of s u ≡ u = column_before s u h.0 in (
          omega arith,
          omega arith,
          ⊎_elim (λ e. inl (ap (λ (x : ℕ). i + x) same ∙ e)) (λ e. inr (ap (λ (x : ℕ). i + x) same ∙ e)) h.1,
        ))
        (λ h. let same : column_of s u ≡ u + missing s = column_after s u (omega (arith, h.0)) in
        (omega (arith, h.0), omega (arith, h.0, wide, low s w), inr (omega (arith, h.0, h.1, wide, low s w))))

    diagonal_at : (i j : ℕ) → (i + j ≡ d) ⊎ (i + j ≡ s.p + d) → (i + j) % s.p ≡ d
    diagonal_at i j = ⊎_elim (λ e. ap (λ (x : ℕ). x % s.p) e ∙ mod-eq_of_lt (omega arith)) (λ e. ap (λ (x : ℕ). x % s.p) (e ∙ around) ∙ add-mod_right d s.p ∙ mod-eq_of_lt (omega arith))
      where
        around : s.p + d ≡ d + s.p
        around = omega arith

    -- and back
    at_diagonal : (i j : ℕ) → i < n → j < s.p → (i + j) % s.p ≡ d → (i + j ≡ d) ⊎ (i + j ≡ s.p + d)
    at_diagonal i j li lj e = by_less (i + j) s.p (λ l. inl (sym (mod-eq_of_lt l) ∙ e)) (λ l. inr (let x = wrapped s.p (i + j) l (omega arith) in omega arith))

    on_place : (i j : ℕ) → i < n → j < s.p → is_there s j ≡ true → (i + j) % s.p ≡ d → On d i (lies_at s j)
    on_place i j li lj h e =
        there_cases s j h
        (λ k. let same : lies_at s j ≡ j = lies_before s j k in
        inl (omega arith, ⊎_elim (λ x. inl (omega arith)) (λ x. inr (omega arith)) (at_diagonal i j li lj e)))
        (λ k. let same : j ≡ n = omega arith in
        inr (ap (lies_at s) same ∙ parity_lies, ⊎_elim (λ x. absurd (omega arith)) (λ x. omega (arith, low s w)) (at_diagonal i j li lj e)))

    module _ (l : Line) (count : l.count ≡ cond (ltb (d + 1) m) (m - 1) m) (first : l.first ≡ d) (step : l.step ≡ n - 1) (turn : l.turn ≡ d + 1)
        (second : l.second ≡ (d + 2) * n + (n - 1)) (extra : l.extra ≡ cond (eqb (d + 1) n) None (Some (m * n + (d + 1)))) where
      -- place and row of cell k: up to column d, past column d + 1, and in the row parity column
      u : ℕ → ℕ
      u k = cond (ltb k l.count) (cond (ltb k (d + 1)) k (k + 1)) m

      i : ℕ → ℕ
      i k = cond (ltb k l.count) (cond (ltb k (d + 1)) (d - k) (n + d - k)) (d + 1)

      up : (k : ℕ) → k < l.count → k < d + 1 → (u k ≡ k) × (i k ≡ d - k)
      unfolding u i
      up k lk a = (rw (lt-ltb k l.count lk, lt-ltb k (d + 1) a) refl, rw (lt-ltb k l.count lk, lt-ltb k (d + 1) a) refl)

      past : (k : ℕ) → k < l.count → d + 1 ≤ k → (u k ≡ k + 1) × (i k ≡ n + d - k)
      unfolding u i
      past k lk a = (rw (lt-ltb k l.count lk, le-ltb k (d + 1) a) refl, rw (lt-ltb k l.count lk, le-ltb k (d + 1) a) refl)

      corner : (k : ℕ) → l.count ≤ k → (u k ≡ m) × (i k ≡ d + 1)
      unfolding u i
      corner k lk = (rw (le-ltb k l.count lk) refl, rw (le-ltb k l.count lk) refl)

      -- how many there are
      shorter : d + 1 < m → l.count + 1 ≡ m
      shorter a = let z : l.count ≡ m - 1 = count ∙ rw (lt-ltb (d + 1) m a) refl in omega (arith, m_low)

      whole : m ≤ d + 1 → l.count ≡ m
      whole a = count ∙ rw (le-ltb (d + 1) m a) refl

      most : l.count ≤ m
      most = by_less (d + 1) m (λ a. omega (arith, shorter a)) (λ a. omega (arith, whole a))

      some : 1 ≤ l.count
      some = by_less (d + 1) m (λ a. omega (arith, shorter a)) (λ a. omega (arith, whole a, m_low))

      beyond : (k : ℕ) → k < l.count → d + 1 ≤ k → k + 1 < m
      beyond k lk a = by_less (d + 1) m (λ b. omega (arith, shorter b)) (λ b. absurd (omega (arith, whole b)))

      lonely : d + 1 ≡ n → line_count l ≡ l.count
      lonely e = count_plain l (extra ∙ rw (eq-eqb (d + 1) n e) refl)

      parity_extra : d + 1 ≢ n → l.extra ≡ Some (m * n + (d + 1))
      parity_extra e = extra ∙ rw (ne_eqb (d + 1) n e) refl

      one_more : d + 1 ≢ n → line_count l ≡ l.count + 1
      one_more e = count_extra l _ (parity_extra e)

      -- each cell is walked, or it is that of the row parity column
      by_cell : {A : Type 0} (k : ℕ) → k < line_count l → (k < l.count → k < d + 1 → A) → (k < l.count → d + 1 ≤ k → A) → (k ≡ l.count → d + 1 ≢ n → A) → A
      by_cell k lk a b c =
          by_less k l.count (λ z. by_less k (d + 1) (a z) (b z))
          (λ z. by_equal (d + 1) n (λ e. absurd (omega (arith, lonely e))) (λ e. c (omega (arith, one_more e)) e))

      on : (k : ℕ) → k < line_count l → (i k < n) × On d (i k) (u k)
      on k lk = by_cell k lk
          (λ z a. let h = up k z a in (omega (arith, h.1), inl (omega (arith, h.0, most), inl (omega (arith, h.0, h.1)))))
          (λ z a. let h = past k z a in (omega (arith, h.1), inl (omega (arith, h.0, beyond k z a), inr (omega (arith, h.0, h.1, beyond k z a, low s w)))))
          (λ z e. let h = corner k (omega arith) in (omega (arith, h.1), inr (h.0, h.1)))

      every : (x y : ℕ) → x < n → On d x y → (k : ℕ) × (k < line_count l) × (i k ≡ x) × (u k ≡ y)
      every x y lx = ⊎_elim
          (λ h. ⊎_elim
          (λ e. let z : y < l.count = by_less (d + 1) m (λ a. omega (arith, shorter a)) (λ a. omega (arith, whole a, h.0)) in
          let is = up y z (omega arith) in (y, omega (arith, plenty), omega (arith, is.1), is.0))
          (λ e. let z : y - 1 < l.count = by_less (d + 1) m (λ a. omega (arith, shorter a, h.0)) (λ a. absurd (omega (arith, h.0))) in
          let is = past (y - 1) z (omega arith) in (y - 1, omega (arith, plenty), omega (arith, is.1, low s w), omega (arith, is.0)))
          h.1)
          (λ h. let is = corner l.count (omega arith) in (l.count, omega (arith, one_more (λ e. omega (arith, h.1))), is.1 ∙ sym h.1, is.0 ∙ sym h.0))
        where
          plenty : l.count ≤ line_count l
          plenty = by_equal (d + 1) n (λ e. omega (arith, lonely e)) (λ e. omega (arith, one_more e))

      pub diagonal_walks : (q : ℕ) → s.p - 1 + d ≡ q → Covers s (own_cell s q) l
      diagonal_walks q known =
          plain_walks s q l (none_takes s (λ e. omega arith) q) (subst (λ (r : ℕ). Covers s (sums_cell s r) l) known (goes_covers s w (sums_cell s (s.p - 1 + d)) l u i
          (record {
            in_row = λ k lk. omega (arith, (on k lk).0, height);
            in_place = λ k lk. omega (arith, (column_on (i k) (u k) (on k lk).1).0, all_disks);
            passes = λ k lk.
                let here = column_on (i k) (u k) (on k lk).1 in
                sums_of s w (s.p - 1 + d) (rdp_diagonal s.p d) (rdp_second_is s w is-rdp d) (i k) (column_of s (u k)) (omega (arith, (on k lk).0, height))
                ∙ and_both (lt-ltb (column_of s (u k)) s.p here.1) (and_both (lt-ltb (i k) (s.p - 1) (on k lk).0) (eq-eqb ((i k + column_of s (u k)) % s.p) d (diagonal_at (i k) (column_of s (u k)) here.2)));
            all = λ x y lx ly here p.
                let test = sym (sums_of s w (s.p - 1 + d) (rdp_diagonal s.p d) (rdp_second_is s w is-rdp d) x y lx) ∙ p in
                let rest = and_right (ltb y s.p) (ltb x (s.p - 1) && eqb ((x + y) % s.p) d) test in
                let lx' : x < n = ltb-true x (s.p - 1) (and_left (ltb x (s.p - 1)) (eqb ((x + y) % s.p) d) rest) in
                let ly' : y < s.p = ltb-true y s.p (and_left (ltb y s.p) (ltb x (s.p - 1) && eqb ((x + y) % s.p) d) test) in
                every x (lies_at s y) lx' (on_place x y lx' ly' here (eqb-true ((x + y) % s.p) d (and_right (ltb x (s.p - 1)) (eqb ((x + y) % s.p) d) rest)));
            once = λ j k lj lk e a. same j k lj lk a;
            at = λ k lk. by_less k l.count
                (λ z. cell_walked l k z ∙ walk_is l (rows s) u i start turned next k z)
                (λ z. by_equal (d + 1) n (λ e. absurd (omega (arith, lonely e)))
                (λ e. cell_extra l k z ∙ ap (λ (o : Option ℕ). unwrap_or o 0) (parity_extra e) ∙ sym (ap₂ (λ (a b : ℕ). a * rows s + b) (corner k z).0 (corner k z).1 ∙ ap (λ (a : ℕ). m * a + (d + 1)) (sym height))));
          })
          some (count_few l (omega (arith, most, m_high, high s w))) (omega (arith, high s w)) (omega (arith, small_cells (d + 2) (omega (arith, high s w)), high s w))))
        where
          same : (j k : ℕ) → j < line_count l → k < line_count l → u j ≡ u k → j ≡ k
          same j k lj lk a = by_cell j lj
              (λ zj aj. by_cell k lk (λ zk ak. sym (up j zj aj).0 ∙ a ∙ (up k zk ak).0) (λ zk ak. absurd (omega (arith, (up j zj aj).0, (past k zk ak).0))) (λ zk e. absurd (omega (arith, (up j zj aj).0, (corner k (omega arith)).0, most))))
              (λ zj aj. by_cell k lk (λ zk ak. absurd (omega (arith, (past j zj aj).0, (up k zk ak).0))) (λ zk ak. omega (arith, (past j zj aj).0, (past k zk ak).0)) (λ zk e. absurd (omega (arith, (past j zj aj).0, (corner k (omega arith)).0, beyond j zj aj))))
              (λ zj e. by_cell k lk (λ zk ak. absurd (omega (arith, (corner j (omega arith)).0, (up k zk ak).0, most))) (λ zk ak. absurd (omega (arith, (corner j (omega arith)).0, (past k zk ak).0, beyond k zk ak))) (λ zk f. zj ∙ sym zk))

          start : l.first ≡ u 0 * rows s + i 0
          start = first ∙ (let z : d ≡ 0 * rows s + d = omega (arith, zero-mul (rows s)) in z) ∙ sym (ap₂ (λ (a b : ℕ). a * rows s + b) (up 0 some (omega arith)).0 ((up 0 some (omega arith)).1 ∙ (let z : d - 0 ≡ d = omega arith in z)))

          turned : (k : ℕ) → suc k < l.count → suc k ≡ l.turn → l.second ≡ u (suc k) * rows s + i (suc k)
          turned k lk e =
              let is = past (suc k) lk (omega arith) in
              second ∙ ap (λ (a : ℕ). (d + 2) * a + (n - 1)) height
              ∙ sym (ap₂ (λ (a b : ℕ). a * rows s + b) (is.0 ∙ (let z : suc k + 1 ≡ d + 2 = omega arith in z)) (is.1 ∙ (let z : n + d - suc k ≡ n - 1 = omega arith in z)))

          next : (k : ℕ) → suc k < l.count → suc k ≢ l.turn → (u (suc k) ≡ u k + 1) × (i (suc k) + rows s ≡ i k + l.step)
          next k lk e =
              by_less (suc k) (d + 1)
              (λ a. let is = up (suc k) lk a in let was = up k (omega arith) (omega arith) in (omega (arith, is.0, was.0), omega (arith, is.1, was.1, height)))
              (λ a. let is = past (suc k) lk a in let was = past k (omega arith) (omega arith) in (omega (arith, is.0, was.0), omega (arith, is.1, was.1, height, beyond (suc k) lk a, m_high)))
