-- The examples that document 01 marks P, as one table, and such of shelves with fewer disks, of EVENODD and of balanced plans. Each row claims
-- something in the words of the contracts.
use Rattle.std.specs.Prelude.{◌≡◌, List, [], ◌∷◌, ◌++◌, ℕ, ◌*◌, length, replicate, Option, None, Some, Result, Ok, Err}
use Rattle.codes.specs.declared.Shape.{Shape}
use Rattle.codes.specs.Shape.{rows, cell_number, stripe_length, WellFormed}
use Rattle.codes.specs.Geometry.{column_of}
use Rattle.codes.specs.Encoded.{Encoded}
use Rattle.refusals.specs.declared.reason.Refusal.{Refusal}
use Rattle.refusals.specs.Number.{number_of}
use Rattle.stripe.specs.Broken.{Counts}
use Rattle.stripe.specs.Write.{Writes}
use Rattle.rebuild.specs.Rebuild.{RebuildsCells}
use Rattle.bad.specs.declared.BadColumn.{BadColumn}
use Rattle.bad.specs.declared.BadColumn.TheVariants.{Column, Unexplained}
use Rattle.bad.specs.Bad.{Finds}
use Rattle.plan.specs.Plan.{column_reads}
use Rattle.plan.specs.Plans.{Plans}
use Rattle.balance.specs.Balances.{Balances}
use Rattle.spare.specs.Run.{RunsByPlan}

-- what a row claims of a stripe
pub data Claim : Type 0 where
  -- that it is encoded
  encoded : Claim
  -- that broken answers so many
  broken : (count : ℕ) → Claim
  -- that a small write of some bytes to a row and a column leaves another stripe, and answers so many
  written : (row column : ℕ) (bytes new : List ℕ) (count : ℕ) → Claim
  -- that a rebuild of the cells that a list names is refused by a number; that it is not, and leaves another stripe
  rebuild_refused : (lost : List ℕ) (number : ℕ) → Claim
  rebuilt : (lost new : List ℕ) → Claim
  -- that bad column answers so
  found : (finding : BadColumn) → Claim
  -- that the plan for column k takes these rows by diagonal, with so many reads; that a run for column k by a plan is refused so
  planned : (k rows reads : ℕ) → Claim
  run_refused : (k plan number : ℕ) → Claim
  -- that the balanced plan for column k takes these rows by diagonal, with so many reads; that it is refused so
  balanced : (k rows reads : ℕ) → Claim
  balance_refused : (k number : ℕ) → Claim
  -- that a plan for column k reads so many cells of a column
  read_from : (k plan column count : ℕ) → Claim

-- a row: the number behind P or of a request, a stripe, and what is claimed of it
pub record Example : Type 0 where
  pub number : ℕ
  pub shape : Shape
  pub stripe : List ℕ
  pub claim : Claim

-- RDP, H-Code, X-Code and EVENODD with p = 3 and cells of one byte
abbrev pub small : ℕ → Shape
small code = record { code = code; p = 3; cell = 1; width = None }

-- RDP with p = 5 and cells of one byte
abbrev pub five : Shape
five = record { code = 1; p = 5; cell = 1; width = None }

-- the number of its cell (row, column)
abbrev pub at : ℕ → ℕ → ℕ
at = cell_number five

-- a stripe of it: zeros, which is encoded
abbrev pub zeros : List ℕ
zeros = replicate 24 0

-- the same with other bytes found in its cells (0, 0), (0, 4) and (1, 5)
abbrev pub damaged : List ℕ
damaged = 0xEE ∷ replicate 15 0 ++ 0xEE ∷ replicate 4 0 ++ 0xEE ∷ replicate 2 0

-- a list that names each cell three times: nine names of three cells, where there are eight equations
abbrev pub thrice : List ℕ → List ℕ
thrice cells = cells ++ cells ++ cells

-- the table
unfoldable pub table : List Example
table =
    record { number = 1; shape = small 1; claim = encoded; stripe = 0x01 ∷ 0x04 ∷ 0x02 ∷ 0x08 ∷ 0x03 ∷ 0x0C ∷ 0x0D ∷ 0x06 ∷ [] }
    ∷ record { number = 2; shape = small 2; claim = encoded; stripe = 0x01 ∷ 0x02 ∷ 0x0A ∷ 0x04 ∷ 0x08 ∷ 0x05 ∷ 0x09 ∷ 0x06 ∷ [] }
    ∷ record { number = 3; shape = small 3; claim = encoded; stripe = 0x01 ∷ 0x04 ∷ 0x02 ∷ 0x02 ∷ 0x01 ∷ 0x04 ∷ 0x04 ∷ 0x02 ∷ 0x01 ∷ [] }
    ∷ record { number = 4; shape = small 1; claim = written 0 0 (0x05 ∷ []) (0x05 ∷ 0x04 ∷ 0x02 ∷ 0x08 ∷ 0x07 ∷ 0x0C ∷ 0x09 ∷ 0x06 ∷ []) 2; stripe = 0x01 ∷ 0x04 ∷ 0x02 ∷ 0x08 ∷ 0x03 ∷ 0x0C ∷ 0x0D ∷ 0x06 ∷ [] }
    ∷ record { number = 5; shape = small 1; claim = written 1 0 (0x00 ∷ []) (0x01 ∷ 0x00 ∷ 0x02 ∷ 0x08 ∷ 0x03 ∷ 0x08 ∷ 0x09 ∷ 0x02 ∷ []) 3; stripe = 0x01 ∷ 0x04 ∷ 0x02 ∷ 0x08 ∷ 0x03 ∷ 0x0C ∷ 0x0D ∷ 0x06 ∷ [] }
    ∷ record { number = 6; shape = five; claim = rebuild_refused (at 1 1 ∷ at 1 4 ∷ at 2 5 ∷ at 0 5 ∷ []) 11; stripe = zeros }
    ∷ record { number = 7; shape = five; claim = rebuild_refused (at 0 0 ∷ at 0 4 ∷ at 0 5 ∷ []) 11; stripe = zeros }
    ∷ record { number = 7; shape = five; claim = rebuilt (at 0 0 ∷ at 0 4 ∷ at 1 5 ∷ []) zeros; stripe = damaged }
    ∷ record { number = 7; shape = five; claim = rebuilt (thrice (at 0 0 ∷ at 0 4 ∷ at 1 5 ∷ [])) zeros; stripe = damaged }
    ∷ record { number = 8; shape = five; claim = planned 1 3 12; stripe = zeros }
    ∷ record { number = 8; shape = five; claim = run_refused 1 8 9; stripe = zeros }
    ∷ record { number = 8; shape = five; claim = run_refused 1 16 9; stripe = zeros }
    ∷ record { number = 8; shape = five; claim = planned 5 15 16; stripe = zeros }
    ∷ record { number = 8; shape = five; claim = run_refused 5 7 9; stripe = zeros }
    ∷ record { number = 9; shape = small 1; claim = found (Column 3); stripe = 0x00 ∷ 0x04 ∷ 0x03 ∷ 0x08 ∷ 0x03 ∷ 0x0C ∷ 0x0D ∷ 0x06 ∷ [] }
    ∷ record { number = 10; shape = small 1; claim = found Unexplained; stripe = 0x00 ∷ 0x04 ∷ 0x02 ∷ 0x0A ∷ 0x03 ∷ 0x0C ∷ 0x0D ∷ 0x06 ∷ [] }
    ∷ record { number = 10; shape = small 1; claim = broken 3; stripe = 0x00 ∷ 0x04 ∷ 0x02 ∷ 0x0A ∷ 0x03 ∷ 0x0C ∷ 0x0D ∷ 0x06 ∷ [] }
    ∷ []

-- RDP with p = 5, two data columns and cells of one byte: four disks
abbrev pub shelf : Shape
shelf = record { code = 1; p = 5; cell = 1; width = Some 2 }

-- a stripe of it, and one with another byte found in its first cell
abbrev pub on_shelf : ℕ → List ℕ
on_shelf byte = byte ∷ 0x02 ∷ 0x04 ∷ 0x08 ∷ 0x10 ∷ 0x20 ∷ 0x40 ∷ 0x80 ∷ 0x11 ∷ 0x22 ∷ 0x44 ∷ 0x88 ∷ 0x23 ∷ 0x56 ∷ 0xAC ∷ 0x48 ∷ []

-- the same of shelves with fewer disks, for document 02, request 01: columns, cells and plans as callers number them
unfoldable pub shelves : List Example
shelves =
    record { number = 1; shape = shelf; claim = encoded; stripe = on_shelf 0x01 }
    ∷ record { number = 1; shape = shelf; claim = found (Column 0); stripe = on_shelf 0x00 }
    ∷ record { number = 1; shape = shelf; claim = rebuilt (0 ∷ 1 ∷ 2 ∷ 3 ∷ 12 ∷ 13 ∷ 14 ∷ 15 ∷ []) (on_shelf 0x01); stripe = on_shelf 0xEE }
    ∷ record { number = 1; shape = shelf; claim = planned 0 3 8; stripe = on_shelf 0x01 }
    ∷ record { number = 1; shape = shelf; claim = planned 1 3 7; stripe = on_shelf 0x01 }
    ∷ record { number = 1; shape = shelf; claim = planned 2 6 7; stripe = on_shelf 0x01 }
    ∷ record { number = 1; shape = shelf; claim = planned 3 15 10; stripe = on_shelf 0x01 }
    ∷ record { number = 1; shape = shelf; claim = run_refused 2 1 9; stripe = on_shelf 0x01 }
    ∷ []

-- a stripe of EVENODD, by the bytes of its columns 1, 3 and 4
abbrev pub evenodd_stripe : ℕ → ℕ → ℕ → ℕ → ℕ → ℕ → List ℕ
evenodd_stripe a b c d e f = 0x01 ∷ 0x02 ∷ a ∷ b ∷ 0x10 ∷ 0x20 ∷ c ∷ d ∷ e ∷ f ∷ []

-- the encoded one, and one with other bytes found in column 1
abbrev pub evenodd_right : List ℕ
evenodd_right = evenodd_stripe 0x04 0x08 0x15 0x2A 0x39 0x1E

abbrev pub evenodd_wrong : List ℕ
evenodd_wrong = evenodd_stripe 0xEE 0xEE 0x15 0x2A 0x39 0x1E

-- the same of EVENODD, for document 02, request 03: a write off S and one on it, what one cell of S breaks, column 1 found, columns 1 and 2 rebuilt, one lost
-- cell too many, and a run refused
unfoldable pub evenodds : List Example
evenodds =
    record { number = 3; shape = small 4; claim = encoded; stripe = evenodd_right }
    ∷ record { number = 3; shape = small 4; claim = written 0 1 (0x05 ∷ []) (evenodd_stripe 0x05 0x08 0x14 0x2A 0x39 0x1F) 2; stripe = evenodd_right }
    ∷ record { number = 3; shape = small 4; claim = written 1 1 (0x09 ∷ []) (evenodd_stripe 0x04 0x09 0x15 0x2B 0x38 0x1F) 3; stripe = evenodd_right }
    ∷ record { number = 3; shape = small 4; claim = broken 3; stripe = evenodd_stripe 0x04 0x09 0x15 0x2A 0x39 0x1E }
    ∷ record { number = 3; shape = small 4; claim = found (Column 1); stripe = evenodd_wrong }
    ∷ record { number = 3; shape = small 4; claim = rebuilt (2 ∷ 3 ∷ 4 ∷ 5 ∷ []) evenodd_right; stripe = evenodd_wrong }
    ∷ record { number = 3; shape = small 4; claim = rebuild_refused (2 ∷ 3 ∷ 4 ∷ 5 ∷ 0 ∷ []) 11; stripe = evenodd_wrong }
    ∷ record { number = 3; shape = small 4; claim = run_refused 0 0 3; stripe = evenodd_right }
    ∷ []

-- RDP with p = 7, cells of one byte and so many data columns, and a stripe of zeros
abbrev pub seven : Option ℕ → Claim → Example
seven width claim = record { number = 4; shape = record { code = 1; p = 7; cell = 1; width = width }; claim = claim; stripe = replicate 48 0 }

-- the same of balanced plans, for document 02, request 04: column 0 with its reads of each other column, balanced and by plan, and refusals
unfoldable pub balances : List Example
balances =
    seven None (balanced 0 22 27)
    ∷ seven None (read_from 0 22 1 4)
    ∷ seven None (read_from 0 22 2 4)
    ∷ seven None (read_from 0 22 3 4)
    ∷ seven None (read_from 0 22 4 4)
    ∷ seven None (read_from 0 22 5 4)
    ∷ seven None (read_from 0 22 6 4)
    ∷ seven None (read_from 0 22 7 3)
    ∷ seven None (planned 0 7 27)
    ∷ seven None (read_from 0 7 1 5)
    ∷ seven None (read_from 0 7 2 4)
    ∷ seven None (read_from 0 7 3 3)
    ∷ seven None (read_from 0 7 4 3)
    ∷ seven None (read_from 0 7 5 4)
    ∷ seven None (read_from 0 7 6 5)
    ∷ seven None (read_from 0 7 7 3)
    ∷ seven None (balanced 4 49 27)
    ∷ seven None (balance_refused 7 6)
    ∷ seven (Some 6) (balanced 0 22 27)
    ∷ record { number = 4; shape = five; claim = balance_refused 5 15; stripe = zeros }
    ∷ record { number = 4; shape = shelf; claim = balance_refused 0 14; stripe = on_shelf 0x01 }
    ∷ record { number = 4; shape = small 2; claim = balance_refused 0 3; stripe = replicate 8 0 }
    ∷ []

-- a spare for a stripe's column
abbrev pub empty_spare : Shape → List ℕ
empty_spare s = replicate (rows s * s.cell) 0

-- the refusal with a number is what a call may answer
abbrev pub RefusedBy : {A : Type 0} → ℕ → (Result A Refusal → Type 0) → Type 0
RefusedBy number Allowed = (why : Refusal) × (number_of why ≡ number) × Allowed (Err why)

-- what a claim says of a stripe: the calls' own contracts, with these answers
abbrev pub Claims : Shape → List ℕ → Claim → Type 0
Claims s stripe encoded = Encoded s stripe
Claims s stripe (broken n) = Counts s stripe (Ok n)
Claims s stripe (written row column bytes new n) = Writes s row column bytes stripe new (Ok n)
Claims s stripe (rebuild_refused lost number) = RebuildsCells s lost stripe number stripe
Claims s stripe (rebuilt lost new) = RebuildsCells s lost stripe 0 new
Claims s stripe (found finding) = Finds s stripe (Ok finding)
Claims s stripe (planned k taken reads) = Plans s k (Ok (record { rows = taken; reads = reads }))
Claims s stripe (balanced k taken reads) = Balances s k (Ok (record { rows = taken; reads = reads }))
Claims s stripe (balance_refused k number) = RefusedBy number (Balances s k)
Claims s stripe (read_from k plan column count) = column_reads s (column_of s k) plan (column_of s column) ≡ count
Claims s stripe (run_refused k plan number) = RefusedBy number (RunsByPlan s k plan 0 1 stripe (empty_spare s) (empty_spare s))

-- a row holds: its stripe is well formed, and what is claimed of it is so
pub record Holds (e : Example) : Type 0 where
  pub formed : WellFormed e.shape
  pub long : length e.stripe ≡ stripe_length e.shape
  pub so : Claims e.shape e.stripe e.claim

-- every row of a list holds
abbrev pub AllHold : List Example → Type 0
AllHold [] = Unit {0}
AllHold (e ∷ rows) = Holds e × AllHold rows
