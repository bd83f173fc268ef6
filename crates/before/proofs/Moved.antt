-- Where no column is missing: each definition that was moved is the one that it was, as a function, and so is each refusal.
use mathlib.Core.Path.{◌≡◌, refl, sym, ◌∙◌, fun_ext}
use mathlib.Core.Logic.{◌↔◌, ◌≢◌}
use mathlib.Core.List.{List, [], ◌∷◌, ◌++◌}
use mathlib.Core.Bool.{true, false, cond, not, ◌&&◌}
use Prim.Native.Nat.{ℕ, ◌+◌, ◌*◌, ◌/◌, ◌%◌, ◌≤◌}
use native.Mathlib.Omega.{arith}
use lib.Dec.{eqb, leb, ltb}
use lib.ListN.{length, get_or}
use Rattle.std.specs.declared.option.Option.TheVariants.{None}
use Rattle.xor.specs.Sets.{any, count}
use borrow.Author.Tests.{lt-ltb, le-ltb}
use Rattle.xor.proofs.Cases.{by_test, by_equal, by_less}
use Rattle.codes.specs.declared.Shape.{Shape}
use Rattle.codes.specs.Shape.{last_code, listed, rows, columns, cells, equations, cell_number, missing, wrong_data, disks, existing, stripe_length}
use Rattle.codes.specs.Equations.{code_of, equation}
use Rattle.codes.specs.Geometry.{is_there, cell_there, column_of, lies_at, cell_of, callers_cell, place}
use Rattle.codes.specs.Encoded.{parity_cell, sums_cell, sum_over, is_parity, byte_at, fails, broken_equations}
use Rattle.codes.specs.Agree.{in_columns, callers_columns}
use Rattle.refusals.specs.Refusals.{Fault, fault, order, applies, first_of, refusal, size_faults, other_length, outside, code_faults, shape_faults, stripe_faults, write_faults, cells_faults, columns_faults}
use Rattle.codes.specs.Holders.{holds}
use Rattle.codes.proofs.Geometry.{there_all, column_all, lies_all}
use Rattle.decide.specs.Survivors.{named}
use Rattle.plan.specs.Plan.{diagonal, chosen, reads_cell, cells_read, is_accepted}
use Rattle.plan.specs.Refusals.{not_rdp, plan_faults}
use Rattle.spare.specs.Refusals.{spare_faults, run_faults}
use Rattle.spare.specs.Run.{others, rebuilt_byte}
use Rattle.show.specs.Refusals.{show_faults}
use Rattle.before.proofs.Document01 as was

-- what holds at one end of a path of types holds at the other
pub along : {A B : Type 0} → A ≡ B → A ↔ B
along p = (λ a. coe 0 1 (i. p i) a, λ b. coe 1 0 (i. p i) b)

-- the shape that document 01 knows: the code, the prime and the cell size
abbrev pub full : Shape → Shape
full s = record { code = s.code; p = s.p; cell = s.cell; width = None }

-- the code is not the one that came later, no column is missing, and where the prime is right no number of data columns is refused
pub record Whole (s : Shape) : Type 0 where
  pub known : s.code ≢ last_code
  pub none : missing s ≡ 0
  pub right : listed s.p ≡ true → wrong_data s.code s.p s.width ≡ false

-- a code past the last is past document 01's last, but for the one that came later
past : (c : ℕ) → c ≢ last_code → ltb last_code c ≡ ltb was.last_code c
past c n = by_less last_code c (λ l. lt-ltb last_code c l ∙ sym (lt-ltb was.last_code c (omega arith))) (λ l. le-ltb last_code c l ∙ sym (le-ltb was.last_code c (omega arith)))

-- document 01's codes are what they were
pub codes_as : (s : Shape) → 1 ≤ s.code → s.code ≤ was.last_code → code_of s ≡ was.code_of s
codes_as s lo hi = by_equal s.code 1 (λ e. rw e refl) (λ n1. by_equal s.code 2 (λ e. rw e refl) (λ n2. let e : s.code ≡ 3 = omega arith in rw e refl))

module _ (s : Shape) (w : Whole s) where
  -- ---- where cells lie

  all_there : is_there s ≡ (λ j. true)
  all_there = fun_ext (there_all s w.none)

  pub columns_as : column_of s ≡ was.column_of (full s)
  unfolding was.column_of
  columns_as = fun_ext (column_all s w.none)

  lies_as : lies_at s ≡ was.lies_at (full s)
  unfolding was.lies_at
  lies_as = fun_ext (lies_all s w.none)

  cells_as : cell_of s ≡ was.cell_of (full s)
  unfolding cell_of was.cell_of cell_number rows
  cells_as i c = cell_number s (c % rows s) (columns_as i (c / rows s))

  pub places_as : place s ≡ was.place (full s)
  unfolding place callers_cell was.place was.callers_cell cell_number rows
  places_as i c = cell_number s (c % rows s) (lies_as i (c / rows s)) * s.cell

  pub disks_all : disks s ≡ columns (full s)
  unfolding disks columns
  disks_all = omega (arith, w.none)

  existing_all : existing s ≡ cells (full s)
  unfolding existing cells columns rows
  existing_all i = disks_all i * rows s

  pub length_as : stripe_length s ≡ was.stripe_length (full s)
  unfolding stripe_length was.stripe_length cells columns rows
  length_as i = existing_all i * s.cell

  -- ---- what bytes and tests on them are

  pub bytes_as : byte_at s ≡ was.byte_at (full s)
  unfolding byte_at cell_there was.byte_at rows
  bytes_as i stripe c t = cond (all_there i (c / rows s)) (get_or stripe (places_as i c + t) 0) 0

  pub broken_as : broken_equations s ≡ was.broken_equations (full s)
  unfolding broken_equations fails was.broken_equations was.fails equations parity_cell equation cell_number rows sum_over sums_cell cells columns
  broken_as i stripe = count (equations s) (λ q. any s.cell (λ t. not (eqb (bytes_as i stripe (parity_cell s q) t) (sum_over s q (λ c. bytes_as i stripe c t)))))

  pub named_as : named s ≡ was.named (full s)
  unfolding named was.named
  named_as i numbers c = any (length numbers) (λ k. eqb (cells_as i (get_or numbers k 0)) c)

  pub lost_as : callers_columns s ≡ was.callers_columns (full s)
  unfolding in_columns rows
  lost_as i a b = in_columns s (columns_as i a) (columns_as i b)

  -- ---- refusals

  -- no fault has a number that document 01 doesn't have
  abbrev Known : List Fault → Type 0
  Known faults = (applies faults 14 ≡ false) × (applies faults 15 ≡ false)

  -- 14 among the faults and in the order counts for nothing, nor does 15: 14 doesn't apply, or 2 goes before it; and no fault that follows has their numbers
  refused : {faults faults' : List Fault} → faults ≡ faults' → Known faults'
      → refusal (code_faults s ++ faults) ≡ was.refusal (was.code_faults (full s) ++ faults')
  unfolding refusal first_of applies order was.refusal was.order
  refused path e = (λ i. refusal (code_faults s ++ path i)) ∙ rw (past s.code w.known) (by_test (listed s.p) (λ h. rw (h, w.right h, e.0, e.1) refl) (λ h. rw h refl))

  -- those of a call on a lent stripe of so many bytes that has more faults
  stripe_more : {more more' : List Fault} (bytes : ℕ) → more ≡ more' → Known more'
      → refusal (stripe_faults s bytes ++ more) ≡ was.refusal (was.stripe_faults (full s) bytes ++ more')
  unfolding stripe_faults shape_faults was.stripe_faults was.shape_faults applies
  stripe_more bytes path e = refused (λ i. size_faults s ++ other_length bytes (length_as i) ∷ path i) e

  pub stripe_refused : (bytes : ℕ) → refusal (stripe_faults s bytes) ≡ was.refusal (was.stripe_faults (full s) bytes)
  unfolding stripe_faults shape_faults was.stripe_faults was.shape_faults applies
  stripe_refused bytes = refused (λ i. size_faults s ++ other_length bytes (length_as i) ∷ []) (refl, refl)

  pub write_refused : (bytes row column new : ℕ) → refusal (write_faults s bytes row column new) ≡ was.refusal (was.write_faults (full s) bytes row column new)
  unfolding write_faults was.write_faults applies rows columns is_parity equations parity_cell equation cell_number
  write_refused bytes row column new =
      stripe_more bytes
      (λ i. outside row (rows s) ∷ outside column (disks_all i) ∷ fault 7 (is_parity s (cell_number s row (columns_as i column))) ∷ fault 8 (not (eqb new s.cell)) ∷ [])
      (refl, refl)

  pub cells_refused : (bytes : ℕ) (numbers : List ℕ) → refusal (cells_faults s bytes numbers) ≡ was.refusal (was.cells_faults (full s) bytes numbers)
  unfolding cells_faults was.cells_faults applies cells columns rows
  cells_refused bytes numbers = stripe_more bytes (λ i. fault 6 (any (length numbers) (λ k. leb (existing_all i) (get_or numbers k 0))) ∷ []) (refl, refl)

  pub columns_refused : (bytes a b : ℕ) → refusal (columns_faults s bytes a b) ≡ was.refusal (was.columns_faults (full s) bytes a b)
  unfolding columns_faults was.columns_faults applies columns
  columns_refused bytes a b = stripe_more bytes (λ i. outside a (disks_all i) ∷ outside b (disks_all i) ∷ []) (refl, refl)

  -- those of a call for RDP alone, and on a lent stripe and a lent spare
  pub plan_refused : (k : ℕ) → refusal (plan_faults s k) ≡ was.refusal (was.plan_faults (full s) k)
  unfolding plan_faults was.plan_faults applies columns
  plan_refused k = refused (λ i. not_rdp s ∷ size_faults s ++ outside k (disks_all i) ∷ []) (refl, refl)

  spare_more : {more more' : List Fault} (bytes spare : ℕ) → more ≡ more' → Known more'
      → refusal (spare_faults s bytes spare ++ more) ≡ was.refusal (was.spare_faults (full s) bytes spare ++ more')
  unfolding spare_faults was.spare_faults applies rows
  spare_more bytes spare path e = refused (λ i. not_rdp s ∷ size_faults s ++ other_length bytes (length_as i) ∷ other_length spare (rows s * s.cell) ∷ path i) e

  pub run_refused_lem : (bytes spare k plan first : ℕ) → refusal (run_faults s bytes spare k plan first) ≡ was.refusal (was.run_faults (full s) bytes spare k plan first)
  unfolding run_faults was.run_faults applies columns is_accepted rows
  run_refused_lem bytes spare k plan first =
      spare_more bytes spare (λ i. outside k (disks_all i) ∷ outside first s.p ∷ fault 9 (not (is_accepted s (columns_as i k) plan)) ∷ []) (refl, refl)

  pub show_refused : (bytes spare k done row column : ℕ) → refusal (show_faults s bytes spare k done row column) ≡ was.refusal (was.show_faults (full s) bytes spare k done row column)
  unfolding show_faults was.show_faults applies rows columns
  show_refused bytes spare k done row column =
      spare_more bytes spare
      (λ i. outside row (rows s) ∷ outside column (disks_all i) ∷ outside k (disks_all i) ∷ outside done s.p ∷ fault 10 (eqb column k && leb done row) ∷ [])
      (refl, refl)

  -- ---- plans and runs

  pub reads_as : cells_read s ≡ was.cells_read (full s)
  unfolding cells_read reads_cell cell_there was.cells_read was.reads_cell cells columns rows holds parity_cell sums_cell equation cell_number chosen diagonal
  reads_as i k plan = count (cells s) (λ c. all_there i (c / rows s) && any (rows s) (λ r. holds s (chosen s k plan r) c && not (eqb c (cell_number s r k))))

  pub rebuilt_as : rebuilt_byte s ≡ was.rebuilt_byte (full s)
  unfolding rebuilt_byte was.rebuilt_byte others chosen diagonal holds parity_cell sums_cell equation cells columns cell_number rows
  rebuilt_as i k plan stripe r t = others s (chosen s k plan r) (cell_number s r k) (λ c. bytes_as i stripe c t)
