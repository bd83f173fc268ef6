-- Document 01's definitions as they stood before a number of data columns could be given, and before the fourth code, word for word: those that were moved,
-- and those that stand on them, but for what stands on the code of a stripe: of its three codes that is the code of today (`codes_as`), and other codes are
-- refused. What was not moved is taken from where it stands. Of a shape they know the code, the prime and the cell size.
use mathlib.Core.Path.{◌≡◌}
use mathlib.Core.Logic.{◌≢◌, ◌⊎◌}
use mathlib.Core.List.{List, [], ◌∷◌, ◌++◌}
use mathlib.Core.Bool.{Bool, false, cond, not, ◌&&◌}
use Prim.Native.Nat.{ℕ, ◌+◌, ◌*◌, ◌/◌, ◌%◌, ◌≤◌, ◌<◌}
use lib.Dec.{eqb, leb, ltb}
use lib.ListN.{length, get_or}
use Rattle.xor.specs.Xor.{◌⊕◌}
use Rattle.xor.specs.Sets.{any, count}
use Rattle.codes.specs.declared.Shape.{Shape}
use Rattle.codes.specs.Shape.{listed, rows, columns, cells, equations, cell_number}
use Rattle.codes.specs.Equations.{Code, rdp, hcode, xcode}
use Rattle.codes.specs.Encoded.{parity_cell, sum_over, is_parity}
use Rattle.codes.specs.Holders.{holds}
use Rattle.codes.specs.Agree.{in_columns}
use Rattle.std.specs.Prelude.{Result, Ok, Err}
use Rattle.refusals.specs.declared.reason.Refusal.{Refusal}
use Rattle.refusals.specs.Number.{number_of}
use Rattle.refusals.specs.Refusals.{Fault, first_of, fault, size_faults, other_length, outside}
use Rattle.stripe.specs.Write.{Depending}
use Rattle.bad.specs.declared.BadColumn.{BadColumn}
use Rattle.bad.specs.declared.BadColumn.TheVariants.{Clean, Column, Unexplained}
use Rattle.plan.specs.declared.ReadPlan.{ReadPlan}
use Rattle.plan.specs.Plan.{chosen, ByRule, is_accepted}
use Rattle.plan.specs.Refusals.{not_rdp}
use Rattle.spare.specs.Run.{others, spare_byte, rows_run}
use Rattle.show.specs.declared.ShownAt.{ShownAt}
use Rattle.show.specs.declared.ShownAt.TheVariants.{Stripe, Spare}
use Rattle.show.specs.Show.{Lent, PartOf}

-- ---- the three codes

-- codes are numbered from 1 to this
abbrev pub last_code : ℕ
last_code = 3

-- the code of a stripe: 1 is RDP, 2 is H-Code, 3 is X-Code
abbrev pub code_of : Shape → Code
code_of s = cond (eqb s.code 1) (rdp s.p) (cond (eqb s.code 2) (hcode s.p) (xcode s.p))

-- ---- the lent stripe

-- the length of a stripe in bytes
unfoldable pub stripe_length : Shape → ℕ
stripe_length s = cells s * s.cell

-- the column, as the equations number it, that lies at place d
unfoldable pub column_of : Shape → ℕ → ℕ
column_of s d = d

-- where column j, as the equations number it, lies
unfoldable pub lies_at : Shape → ℕ → ℕ
lies_at s j = j

-- the cell in a row and in the column that a caller calls d
abbrev pub cell_at : Shape → ℕ → ℕ → ℕ
cell_at s row d = cell_number s row (column_of s d)

-- the equations' number of the cell that a caller calls c
unfoldable pub cell_of : Shape → ℕ → ℕ
cell_of s c = cell_at s (c % rows s) (c / rows s)

-- what a caller calls cell c
unfoldable pub callers_cell : Shape → ℕ → ℕ
callers_cell s c = cell_number s (c % rows s) (lies_at s (c / rows s))

-- where in the buffer cell c starts
unfoldable pub place : Shape → ℕ → ℕ
place s c = callers_cell s c * s.cell

-- ---- encoded

-- byte t of cell c
unfoldable pub byte_at : Shape → List ℕ → ℕ → ℕ → ℕ
byte_at s stripe c t = get_or stripe (place s c + t) 0

-- the XOR of byte t of the cells that equation q sums
abbrev pub parity_byte : Shape → List ℕ → ℕ → ℕ → ℕ
parity_byte s stripe q t = sum_over s q (λ c. byte_at s stripe c t)

-- a stripe is encoded when every equation holds in every byte
pub record Encoded (s : Shape) (stripe : List ℕ) : Type 0 where
  pub holds : (q : ℕ) → q < equations s → (t : ℕ) → t < s.cell → byte_at s stripe (parity_cell s q) t ≡ parity_byte s stripe q t

-- whether equation q fails in at least one byte
unfoldable pub fails : Shape → List ℕ → ℕ → Bool
fails s stripe q = any s.cell (λ t. not (eqb (byte_at s stripe (parity_cell s q) t) (parity_byte s stripe q t)))

-- how many equations fail in at least one byte
unfoldable pub broken_equations : Shape → List ℕ → ℕ
broken_equations s stripe = count (equations s) (fails s stripe)

-- a and b agree on every cell but those that pass the test
pub record Agree (s : Shape) (but : ℕ → Bool) (a b : List ℕ) : Type 0 where
  pub same : (c : ℕ) → c < cells s → but c ≡ false → (t : ℕ) → t < s.cell → byte_at s a c t ≡ byte_at s b c t

-- whether cell c lies in the columns that a caller calls a and b
abbrev pub callers_columns : Shape → ℕ → ℕ → ℕ → Bool
callers_columns s a b = in_columns s (column_of s a) (column_of s b)

-- ---- refusals

-- the refusal numbers in the order in which they go before each other
unfoldable pub order : List ℕ
order = 13 ∷ 1 ∷ 2 ∷ 3 ∷ 4 ∷ 5 ∷ 6 ∷ 7 ∷ 8 ∷ 9 ∷ 10 ∷ 11 ∷ 12 ∷ []

-- the refusal that is given: the first in order that applies; 0 where none does
unfoldable pub refusal : List Fault → ℕ
refusal faults = first_of order faults

-- the refusals of a code and a prime
abbrev pub code_faults : Shape → List Fault
code_faults s = fault 1 (eqb s.code 0) ∷ fault 1 (ltb last_code s.code) ∷ fault 2 (not (listed s.p)) ∷ []

-- the refusals of every call that is told the shape of a stripe
unfoldable pub shape_faults : Shape → List Fault
shape_faults s = code_faults s ++ size_faults s

-- the refusals of every call on a lent stripe of so many bytes
unfoldable pub stripe_faults : Shape → ℕ → List Fault
stripe_faults s bytes = shape_faults s ++ other_length bytes (stripe_length s) ∷ []

-- the refusals of a small write of so many new bytes to a row and a column
unfoldable pub write_faults : Shape → ℕ → ℕ → ℕ → ℕ → List Fault
write_faults s bytes row column new =
    stripe_faults s bytes
    ++ outside row (rows s) ∷ outside column (columns s) ∷ fault 7 (is_parity s (cell_at s row column)) ∷ fault 8 (not (eqb new s.cell)) ∷ []

-- the refusals of a rebuild of the cells that a list names
unfoldable pub cells_faults : Shape → ℕ → List ℕ → List Fault
cells_faults s bytes numbers = stripe_faults s bytes ++ fault 6 (any (length numbers) (λ k. leb (cells s) (get_or numbers k 0))) ∷ []

-- the refusals of a rebuild of two columns
unfoldable pub columns_faults : Shape → ℕ → ℕ → ℕ → List Fault
columns_faults s bytes a b = stripe_faults s bytes ++ outside a (columns s) ∷ outside b (columns s) ∷ []

-- the refusals of a shape that must be RDP's
abbrev pub rdp_faults : Shape → List Fault
rdp_faults s = code_faults s ++ not_rdp s ∷ size_faults s

-- the refusals of a plan for the column at place k
unfoldable pub plan_faults : Shape → ℕ → List Fault
plan_faults s k = rdp_faults s ++ outside k (columns s) ∷ []

-- the refusals of every call on a lent stripe and a lent spare of so many bytes
unfoldable pub spare_faults : Shape → ℕ → ℕ → List Fault
spare_faults s bytes spare = rdp_faults s ++ other_length bytes (stripe_length s) ∷ other_length spare (rows s * s.cell) ∷ []

-- the refusals of a run for the column at place k by a plan from a first row on; first row p-1 is inside
unfoldable pub run_faults : Shape → ℕ → ℕ → ℕ → ℕ → ℕ → List Fault
run_faults s bytes spare k plan first =
    spare_faults s bytes spare ++ outside k (columns s) ∷ outside first s.p ∷ fault 9 (not (is_accepted s (column_of s k) plan)) ∷ []

-- the refusals of a show of a row and a column while the one at place k is being rebuilt; rows done p-1 is inside
unfoldable pub show_faults : Shape → ℕ → ℕ → ℕ → ℕ → ℕ → ℕ → List Fault
show_faults s bytes spare k done row column =
    spare_faults s bytes spare
    ++ outside row (rows s) ∷ outside column (columns s) ∷ outside k (columns s) ∷ outside done s.p ∷ fault 10 (eqb column k && leb done row) ∷ []

-- the answer of a call with these faults that writes nothing: what it gives, of which P holds, or the refusal
abbrev pub Tells : {A : Type 0} → List Fault → (A → Type 0) → Result A Refusal → Type 0
Tells faults P (Ok given) = (0 ≡ refusal faults) × P given
Tells faults P (Err why) = number_of why ≡ refusal faults

-- the answer of a call with these faults, which finds the bytes old and leaves new. Document 01's number of what is given is 0, and P holds of it;
-- that of a refusal is the refusal, and every byte is as it was
abbrev pub Answers : {A : Type 0} → List Fault → List ℕ → List ℕ → (A → Type 0) → Result A Refusal → Type 0
Answers faults old new P (Ok given) = (0 ≡ refusal faults) × P given
Answers faults old new P (Err why) = (number_of why ≡ refusal faults) × (new ≡ old)

-- ---- encode, broken and small write

-- new is the encoded stripe with the data cells of old
pub record EncodingOf (s : Shape) (old new : List ℕ) : Type 0 where
  pub long : length new ≡ length old
  pub kept : Agree s (is_parity s) new old
  pub encoded : Encoded s new

-- encode answers 0 and leaves the encoded stripe with the same data cells, or it answers the refusal and leaves every byte
pub record Encodes (s : Shape) (old : List ℕ) (answer : ℕ) (new : List ℕ) : Type 0 where
  pub number : answer ≡ refusal (stripe_faults s (length old))
  pub refused : answer ≢ 0 → new ≡ old
  pub done : answer ≡ 0 → EncodingOf s old new

-- broken answers how many equations fail in at least one byte, or the refusal
abbrev pub Counts : Shape → List ℕ → Result ℕ Refusal → Type 0
Counts s stripe = Answers (stripe_faults s (length stripe)) stripe stripe (λ n. n ≡ broken_equations s stripe)

-- d is the difference of the old bytes of cell c and the new ones, put alone into a stripe of zero data, and encoded
pub record Difference (s : Shape) (c : ℕ) (old bytes d : List ℕ) : Type 0 where
  pub long : length d ≡ stripe_length s
  pub own : (t : ℕ) → t < s.cell → byte_at s d c t ≡ byte_at s old c t ⊕ get_or bytes t 0
  pub zeros : (k : ℕ) → k < cells s → is_parity s k ≡ false → k ≢ c → (t : ℕ) → t < s.cell → byte_at s d k t ≡ 0
  pub encoded : Encoded s d

-- new is the XOR of old with that stripe
pub record Written (s : Shape) (c : ℕ) (old bytes new : List ℕ) : Type 0 where
  pub long : length new ≡ length old
  pub difference : List ℕ
  pub alone : Difference s c old bytes difference
  pub sum : (k : ℕ) → k < cells s → (t : ℕ) → t < s.cell → byte_at s new k t ≡ byte_at s old k t ⊕ byte_at s difference k t

-- a small write leaves the stripe so written and answers how many parity cells depend on the position, or it answers the refusal and leaves every byte
abbrev pub Writes : Shape → ℕ → ℕ → List ℕ → List ℕ → List ℕ → Result ℕ Refusal → Type 0
Writes s row column bytes old new =
    Answers (write_faults s (length old) row column (length bytes)) old new
    (λ n. Written s (cell_at s row column) old bytes new × Depending s (cell_at s row column) n)

-- ---- rebuild of cells and of columns, and bad column

-- whether a caller's list names cell c
unfoldable pub named : Shape → List ℕ → ℕ → Bool
named s numbers c = any (length numbers) (λ k. eqb (cell_of s (get_or numbers k 0)) c)

-- x is an encoded stripe: bytes, as many as the shape says, in which every equation holds
pub record EncodedStripe (s : Shape) (x : List ℕ) : Type 0 where
  pub long : length x ≡ stripe_length s
  pub bytes : (i : ℕ) → get_or x i 0 < 256
  pub encoded : Encoded s x

-- undetermined: two different encoded stripes agree with each other on every cell that isn't lost
pub record Undetermined (s : Shape) (lost : ℕ → Bool) : Type 0 where
  pub one : List ℕ
  pub other : List ℕ
  pub one_is : EncodedStripe s one
  pub other_is : EncodedStripe s other
  pub agree : Agree s lost one other
  pub differ : one ≢ other

-- x is an encoded stripe that agrees with every survivor of old
pub record Restores (s : Shape) (lost : ℕ → Bool) (old x : List ℕ) : Type 0 where
  pub is : EncodedStripe s x
  pub agree : Agree s lost old x

-- demand 3, where the numbers are right: the lost cells are undetermined, the survivors disagree, or the stripe is restored
pub data Decides (s : Shape) (lost : ℕ → Bool) (old : List ℕ) (answer : ℕ) (new : List ℕ) : Type 0 where
  -- two different encoded stripes agree with each other on every cell that isn't lost: 11
  undetermined : Undetermined s lost → answer ≡ 11 → new ≡ old → Decides s lost old answer new
  -- otherwise no encoded stripe agrees with every cell that isn't lost: 12
  disagree : (Undetermined s lost → ⊥) → ((x : List ℕ) → Restores s lost old x → ⊥) → answer ≡ 12 → new ≡ old → Decides s lost old answer new
  -- otherwise one does, and is handed back: 0
  restored : (Undetermined s lost → ⊥) → Restores s lost old new → answer ≡ 0 → Decides s lost old answer new

-- what is wrong with the numbers comes first, and leaves every byte
pub record Rebuilds (s : Shape) (lost : ℕ → Bool) (wrong : ℕ) (old : List ℕ) (answer : ℕ) (new : List ℕ) : Type 0 where
  pub refused : wrong ≢ 0 → (answer ≡ wrong) × (new ≡ old)
  pub decides : wrong ≡ 0 → Decides s lost old answer new

-- rebuild of the cells that a list names
abbrev pub RebuildsCells : Shape → List ℕ → List ℕ → ℕ → List ℕ → Type 0
RebuildsCells s numbers old answer new = Rebuilds s (named s numbers) (refusal (cells_faults s (length old) numbers)) old answer new

-- rebuild of the columns that a caller calls a and b: as of all cells in them, and never refused as undetermined
pub record RebuildsColumns (s : Shape) (a b : ℕ) (old : List ℕ) (answer : ℕ) (new : List ℕ) : Type 0 where
  pub rebuilds : Rebuilds s (callers_columns s a b) (refusal (columns_faults s (length old) a b)) old answer new
  pub never : answer ≢ 11

-- the replacement of the column that a caller calls c alone makes the stripe encoded
pub record Replaceable (s : Shape) (stripe : List ℕ) (c : ℕ) : Type 0 where
  pub inside : c < columns s
  pub replaced : List ℕ
  pub restores : Restores s (callers_columns s c c) stripe replaced

-- what a finding says of the stripe
abbrev pub Finding : Shape → List ℕ → BadColumn → Type 0
Finding s stripe Clean = Encoded s stripe
Finding s stripe (Column c) = (Encoded s stripe → ⊥) × Replaceable s stripe c
Finding s stripe Unexplained = (Encoded s stripe → ⊥) × ((c : ℕ) → Replaceable s stripe c → ⊥)

-- bad column answers a finding that is so, or the refusal
abbrev pub Finds : Shape → List ℕ → Result BadColumn Refusal → Type 0
Finds s stripe = Tells (stripe_faults s (length stripe)) (Finding s stripe)

-- ---- plan, run by plan and show

-- whether the plan for column k reads cell c: it is another cell of the equation by which some row is taken
unfoldable pub reads_cell : Shape → ℕ → ℕ → ℕ → Bool
reads_cell s k plan c = any (rows s) (λ i. holds s (chosen s k plan i) c && not (eqb c (cell_number s i k)))

-- the number of distinct cells read
unfoldable pub cells_read : Shape → ℕ → ℕ → ℕ
cells_read s k plan = count (cells s) (reads_cell s k plan)

-- the plan by the rule for column k, as the equations number it, and how many distinct cells it reads
pub record GivesPlan (s : Shape) (k : ℕ) (plan : ReadPlan) : Type 0 where
  pub rule : ByRule s k plan.rows
  pub reads : plan.reads ≡ cells_read s k plan.rows

-- plan answers the plan by the rule for the column at place k with its reads, or the refusal
abbrev pub Plans : Shape → ℕ → Result ReadPlan Refusal → Type 0
Plans s k = Tells (plan_faults s k) (GivesPlan s (column_of s k))

-- byte t of row i of column k, by a plan: the XOR of the other cells of the equation by which the row is taken
unfoldable pub rebuilt_byte : Shape → ℕ → ℕ → List ℕ → ℕ → ℕ → ℕ
rebuilt_byte s k plan stripe i t = others s (chosen s k plan i) (cell_number s i k) (λ c. byte_at s stripe c t)

-- new is the spare with n rows of column k rebuilt from the first on, and no other byte changed
pub record RowsRebuilt (s : Shape) (k plan first n : ℕ) (stripe old new : List ℕ) : Type 0 where
  pub long : length new ≡ length old
  pub rebuilt : (i : ℕ) → first ≤ i → i < first + n → (t : ℕ) → t < s.cell → spare_byte s new i t ≡ rebuilt_byte s k plan stripe i t
  pub kept : (i : ℕ) → (i < first) ⊎ (first + n ≤ i) → (t : ℕ) → t < s.cell → spare_byte s new i t ≡ spare_byte s old i t

-- a run rebuilds so many rows of the column at place k from the first on and reports how many, or it answers the refusal and leaves every byte
abbrev pub RunsByPlan : Shape → ℕ → ℕ → ℕ → ℕ → List ℕ → List ℕ → List ℕ → Result ℕ Refusal → Type 0
RunsByPlan s k plan first budget stripe old new =
    Answers (run_faults s (length stripe) (length old) k plan first) old new
    (λ n. (n ≡ rows_run s first budget) × RowsRebuilt s (column_of s k) plan first (rows_run s first budget) stripe old new)

-- why a show from a lent stripe and a lent spare is refused; 0 where it is not
abbrev pub reason : Shape → ℕ → ℕ → ℕ → ℕ → Lent → Lent → ℕ
reason s k done row column stripe spare = refusal (show_faults s (length stripe.now) (length spare.now) k done row column)

-- where in the stripe the cell starts that callers call by a row and a column
abbrev pub shown_place : Shape → ℕ → ℕ → ℕ
shown_place s row column = place s (cell_number s row (column_of s column))

-- show gives the cell's part of the stripe, or for column k of the spare; where it is refused, the empty part at the start of the stripe
pub record Shows (s : Shape) (k done row column : ℕ) (stripe spare answer : Lent) : Type 0 where
  pub refused : reason s k done row column stripe spare ≢ 0 → PartOf stripe 0 0 answer
  pub other : reason s k done row column stripe spare ≡ 0 → column ≢ k → PartOf stripe (shown_place s row column) s.cell answer
  pub ready : reason s k done row column stripe spare ≡ 0 → column ≡ k → PartOf spare (row * s.cell) s.cell answer

-- in which buffer the cell lies, and at which byte of it
pub record LiesAt (s : Shape) (k row column : ℕ) (at : ShownAt) : Type 0 where
  pub other : column ≢ k → at ≡ Stripe (shown_place s row column)
  pub ready : column ≡ k → at ≡ Spare (row * s.cell)

-- the answer says where the cell lies, or it gives the refusal
abbrev pub Shown : Shape → ℕ → ℕ → ℕ → ℕ → ℕ → ℕ → Result ShownAt Refusal → Type 0
Shown s bytes spare k done row column = Tells (show_faults s bytes spare k done row column) (LiesAt s k row column)
