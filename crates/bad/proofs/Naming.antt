-- From the candidate and its check to what bad column promises: first of n bytes of each cell, from byte `at` on, then of the whole stripe.
use mathlib.Core.Path.{◌≡◌, refl, sym, ap, ap₂, ◌∙◌, subst}
use mathlib.Core.Logic.{◌≢◌}
use mathlib.Core.List.{List}
use mathlib.Core.Bool.{Bool, true, false, cond, ◌||◌}
use Prim.Native.Nat.{ℕ, zero, suc, ◌+◌, ◌/◌, ◌%◌, ◌^◌, ◌<◌}
use native.Mathlib.Nat.{zero-add, mod-lt, mod-eq_of_lt}
use native.Mathlib.Omega.{arith}
use lib.Bits.{bit_xor, xor_mod}
use lib.Dec.{eqb}
use lib.ListN.{length, get_or, get_or-eq_default}
use borrow.Author.Tests.{eq-eqb, ne_eqb, eqb-true}
use Rattle.xor.specs.Xor.{xors}
use Rattle.xor.specs.Runs.{Says}
use Rattle.xor.proofs.Cases.{by_equal, by_less, clash, either}
use Rattle.xor.proofs.Algebra.{⊕_is}
use Rattle.xor.proofs.Runs.{says_same}
use Rattle.xor.proofs.Sums.{xors_same}
use Rattle.bits.specs.Bit.{IsLowest}
use Rattle.codes.specs.declared.Shape.{Shape}
use Rattle.codes.specs.Shape.{rows, columns, cells, disks, equations, stripe_length, WellFormed}
use Rattle.codes.specs.Geometry.{is_there, cell_there, column_of, lies_at, cell_of}
use Rattle.codes.specs.Encoded.{parity_cell, sums_cell, byte_at, sum_over, total, Solves, Encoded}
use Rattle.codes.specs.Agree.{in_columns}
use Rattle.codes.proofs.Geometry.{column_there, is_there_lem, lies_column, byte_missing, byte_small}
use Rattle.codes.proofs.Solutions.{total_zero, zero_total, solves_same}
use Rattle.equation.specs.Window.{bytes_at, fails_in}
use Rattle.equation.proofs.Windows.{not_failing}
use Rattle.codes.proofs.Built.{built, Blank, built_long, built_at, built_byte}
use Rattle.decide.specs.Survivors.{Undetermined}
use Rattle.decide.specs.Solver.{mended, OnlyThere, Solver}
use Rattle.decide.proofs.Determined.{kept_cell, columns_determined}
use Rattle.lanes.specs.Lanes.{Passes}
use Rattle.bad.specs.declared.BadColumn.{BadColumn}
use Rattle.bad.specs.declared.BadColumn.TheVariants.{Clean, Column, Unexplained}
use Rattle.bad.specs.Bad.{Replaceable, Finding}
use Rattle.std.specs.Prelude.{Option, None, Some}
use Rattle.bad.specs.Candidate.{Explains, TotalsOf, Candidate, ExplainsIn, CleanIn, FindingIn}
use Rattle.bad.proofs.OneBad.{one_explains}

-- ---- what the candidate says

module _ (s : Shape) (w : WellFormed s) (stripe : List ℕ) (at n : ℕ) where
  -- no equation fails
  pub clean_in : (r : ℕ) → IsLowest (equations s) (λ q. fails_in s stripe q at n) r → r ≡ equations s → CleanIn s stripe at n
  clean_in r first e i l q lq = zero_total s q (bytes_at s stripe (at + i)) (not_failing s stripe q at n (first.before q (omega arith)) i l)

  -- a column that explains all bytes explains each
  explains_one : (c : ℕ) → ExplainsIn s stripe at n c → (i : ℕ) → i < n → Explains s (bytes_at s stripe (at + i)) c
  explains_one c h i l = record { inside = h.inside; mended = h.mended i; solves = h.solves i l; agree = h.agree i l }

  -- what is known of the candidate: it was sought at a byte in which an equation fails
  pub record Sought (given : Option ℕ) : Type 0 where
    pub q : ℕ
    pub i : ℕ
    pub there : q < equations s
    pub inside : i < n
    pub fails : total s q (bytes_at s stripe (at + i)) ≢ 0
    pub totals : List ℕ
    pub of : TotalsOf s (bytes_at s stripe (at + i)) totals
    pub candidate : Candidate s totals given

  module _ (given : Option ℕ) (h : Sought given) where
    not_clean : CleanIn s stripe at n → ⊥
    not_clean clean = h.fails (total_zero s h.q (bytes_at s stripe (at + h.i)) (clean h.i h.inside h.q h.there))

    pub named_column : (c : ℕ) → c < disks s → (column : ℕ) → column ≡ column_of s c → ExplainsIn s stripe at n column → FindingIn s stripe at n (Column c)
    named_column c l column e x = (not_clean, l, subst (ExplainsIn s stripe at n) e x)

    pub none_named : given ≡ None → FindingIn s stripe at n Unexplained
    none_named e =
        let none = subst (Candidate s h.totals) e h.candidate in
        (not_clean, λ d ld x. none (bytes_at s stripe (at + h.i)) h.of d ld (explains_one (column_of s d) x h.i h.inside))

    pub not_this : (c : ℕ) → given ≡ Some c → (column : ℕ) → column ≡ column_of s c → (ExplainsIn s stripe at n column → ⊥) → FindingIn s stripe at n Unexplained
    not_this c gave column is no' =
        let found = subst (Candidate s h.totals) gave h.candidate in (
          not_clean,
          λ d ld x. by_equal c d (λ e. no' (subst (ExplainsIn s stripe at n) (ap (column_of s) (sym e) ∙ sym is) x))
              (λ e. h.fails (total_zero s h.q (bytes_at s stripe (at + h.i))
              (one_explains s w (bytes_at s stripe (at + h.i)) (column_of s c) (column_of s d) (found.1 (bytes_at s stripe (at + h.i)) h.of) (explains_one (column_of s d) x h.i h.inside)
              (λ same. e (sym (lies_column s w c) ∙ ap (lies_at s) same ∙ lies_column s w d)) h.q h.there))),
        )

-- ---- whether one column explains the bytes

-- the cells of one column, and those of the others
module _ (s : Shape) (column : ℕ) (lost : ℕ → Bool) (marks : (c : ℕ) → c < cells s → lost c ≡ in_columns s column column c) where
  off_column : (k : ℕ) → k < cells s → k / rows s ≢ column → lost k ≡ false
  unfolding in_columns
  off_column k l n = marks k l ∙ rw (ne_eqb (k / rows s) column n) refl

  in_column_lem : (k : ℕ) → k < cells s → lost k ≡ false → k / rows s ≢ column
  unfolding in_columns
  in_column_lem k l e same = clash (marks k l ∙ ap₂ ◌||◌ (eq-eqb (k / rows s) column same) (eq-eqb (k / rows s) column same)) e

  -- they exist where the column does
  pub column_only : is_there s column ≡ true → OnlyThere s lost
  unfolding in_columns cell_there
  column_only there k l p =
      either (eqb (k / rows s) column) (eqb (k / rows s) column) (sym (marks k l) ∙ p) (λ e. ap (is_there s) (eqb-true (k / rows s) column e) ∙ there) (λ e. ap (is_there s) (eqb-true (k / rows s) column e) ∙ there)

module _ (s : Shape) (w : WellFormed s) (column : ℕ) (inside : column < columns s) (stripe : List ℕ) (at n : ℕ)
    (lost : ℕ → Bool) (marks : (c : ℕ) → c < cells s → lost c ≡ in_columns s column column c) where
  -- one column is never undetermined
  pub column_determined : Undetermined s lost → ⊥
  column_determined h = columns_determined s w column column inside inside (record {
    one = h.one;
    other = h.other;
    one_is = h.one_is;
    other_is = h.other_is;
    agree = record { same = λ c l e. h.agree.same c l (marks c l ∙ e) };
    differ = h.differ;
  })

  pub column_says : (u : ℕ) (list sets : List ℕ) (v : ℕ) (checks : List ℕ) → Solver s lost u list sets v checks → (r : Bool)
      → Says ((i : ℕ) → i < n → Passes s stripe v checks (at + i)) r → Says (ExplainsIn s stripe at n column) r
  column_says u list sets v checks solver r =
      says_same ((i : ℕ) → i < n → Passes s stripe v checks (at + i)) (ExplainsIn s stripe at n column) r
      (λ passes. record {
        inside = inside;
        mended = λ i. mended s list sets u (bytes_at s stripe (at + i));
        solves = λ i l. solver.solves (bytes_at s stripe (at + i)) (passes i l).zero;
        agree = λ i l k lk off. kept_cell s w lost u list sets v checks solver (bytes_at s stripe (at + i)) k (off_column s column lost marks k lk off);
      })
      (λ h i l. record {
        zero = solver.needed (bytes_at s stripe (at + i)) (h.mended i) (h.solves i l) (λ k lk e. sym (h.agree i l k lk (in_column_lem s column lost marks k lk e)));
      })

-- ---- the whole stripe

-- values that solve the equations do so in their low eight bits
module _ (s : Shape) where
  xors_low : (n : ℕ) (f : ℕ → ℕ) → xors n f % 2 ^ 8 ≡ xors n (λ k. f k % 2 ^ 8)
  unfolding xors
  xors_low zero f = refl
  xors_low (suc n) f =
      ap (λ (x : ℕ). x % 2 ^ 8) (⊕_is (xors n f) (f n)) ∙ xor_mod (xors n f) (f n) 8 ∙ ap (λ (x : ℕ). bit_xor x (f n % 2 ^ 8)) (xors_low n f)
      ∙ sym (⊕_is (xors n (λ k. f k % 2 ^ 8)) (f n % 2 ^ 8))

  sum_low : (q : ℕ) (f : ℕ → ℕ) → sum_over s q f % 2 ^ 8 ≡ sum_over s q (λ k. f k % 2 ^ 8)
  unfolding sum_over
  sum_low q f =
      xors_low (cells s) (λ c. cond (sums_cell s q c) (f c) 0)
      ∙ xors_same (cells s) (λ c. cond (sums_cell s q c) (f c) 0 % 2 ^ 8) (λ c. cond (sums_cell s q c) (f c % 2 ^ 8) 0) (λ c l. low (sums_cell s q c) (f c))
    where
      low : (b : Bool) (x : ℕ) → cond b x 0 % 2 ^ 8 ≡ cond b (x % 2 ^ 8) 0
      low true x = refl
      low false x = refl

  solves_low : (f : ℕ → ℕ) → Solves s f → Solves s (λ k. f k % 2 ^ 8)
  solves_low f h q l = ap (λ (x : ℕ). x % 2 ^ 8) (h q l) ∙ sum_low q f

module _ (s : Shape) (w : WellFormed s) (stripe : List ℕ) (long : length stripe ≡ stripe_length s) (bytes : (i : ℕ) → get_or stripe i 0 < 256) where
  -- byte 0 + t is byte t
  whole_clean : CleanIn s stripe 0 s.cell → Encoded s stripe
  whole_clean h = record { holds = λ q lq t l. subst (λ (k : ℕ). byte_at s stripe (parity_cell s q) k ≡ sum_over s q (bytes_at s stripe k)) (zero-add t) (h t l q lq) }

  clean_whole : Encoded s stripe → CleanIn s stripe 0 s.cell
  clean_whole e i l q lq = subst (λ (k : ℕ). byte_at s stripe (parity_cell s q) k ≡ sum_over s q (bytes_at s stripe k)) (sym (zero-add i)) (e.holds q lq i l)

  -- a column that explains every byte can be replaced
  module _ (d : ℕ) (inside : d < disks s) (h : ExplainsIn s stripe 0 s.cell (column_of s d)) where
    byte_of : ℕ → ℕ → ℕ
    byte_of t k = h.mended t k % 2 ^ 8

    -- 0 in the cells that don't exist: they are in other columns
    blank : Blank s byte_of
    unfolding byte_of cell_there
    blank t l k lk none =
        ap (λ (x : ℕ). x % 2 ^ 8) (h.agree t l k lk (λ e. clash (ap (is_there s) e ∙ is_there_lem s w d) none) ∙ byte_missing s w stripe k (0 + t) none)

    witness : List ℕ
    witness = built s byte_of

    witness_bytes : (i : ℕ) → get_or witness i 0 < 256
    unfolding witness byte_of
    witness_bytes i =
        by_less i (stripe_length s)
        (λ l. subst (λ (x : ℕ). x < 256) (sym (built_byte s byte_of i l)) (mod-lt (h.mended (i % s.cell) (cell_of s (i / s.cell))) (omega arith)))
        (λ l. subst (λ (x : ℕ). x < 256) (sym (get_or-eq_default witness 0 (omega (arith, built_long s byte_of)))) (omega arith))

    replaced_by : Replaceable s stripe d
    unfolding witness byte_of in_columns
    replaced_by = record {
      inside = inside;
      replaced = witness;
      restores = record {
        is = record {
          long = built_long s byte_of;
          bytes = witness_bytes;
          encoded = record { holds = λ q lq t l. solves_same s w (byte_of t) (bytes_at s witness t) (λ k lk. sym (built_at s w byte_of blank k lk t l)) (solves_low s (h.mended t) (h.solves t l)) q lq };
        };
        agree = record {
          same = λ k lk e t l.
              let other : k / rows s ≢ column_of s d = λ same. clash (ap₂ ◌||◌ (eq-eqb (k / rows s) (column_of s d) same) (eq-eqb (k / rows s) (column_of s d) same)) e in
              sym (built_at s w byte_of blank k lk t l ∙ ap (λ (x : ℕ). x % 2 ^ 8) (h.agree t l k lk other ∙ ap (byte_at s stripe k) (zero-add t)) ∙ mod-eq_of_lt (byte_small s w stripe bytes k t));
        };
      };
    }

  -- and one that can be replaced explains every byte
  explains_whole : (d : ℕ) → Replaceable s stripe d → ExplainsIn s stripe 0 s.cell (column_of s d)
  unfolding in_columns
  explains_whole d h = record {
    inside = column_there s w d h.inside;
    mended = bytes_at s h.replaced;
    solves = λ i l q lq. h.restores.is.encoded.holds q lq i l;
    agree = λ i l k lk other. sym (h.restores.agree.same k lk (rw (ne_eqb (k / rows s) (column_of s d) other) refl) i l) ∙ ap (byte_at s stripe k) (sym (zero-add i));
  }

  pub finding_whole : (answer : BadColumn) → FindingIn s stripe 0 s.cell answer → Finding s stripe answer
  finding_whole Clean h = whole_clean h
  finding_whole (Column d) h = (λ e. h.0 (clean_whole e), replaced_by d h.1 h.2)
  finding_whole Unexplained h = (λ e. h.0 (clean_whole e), λ d r. h.1 d r.inside (explains_whole d r))

-- the first that passes is there, unless it is past the last
pub first_below : (n : ℕ) (test : ℕ → Bool) (r m : ℕ) → IsLowest n test r → m ≡ n → r ≢ m → (r < n) × (test r ≡ true)
first_below n test r m h e other = (below, h.passes below)
  where
    below : r < n
    below = let most = h.most in omega arith
