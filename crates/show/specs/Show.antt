-- What show promises: document 01, "What each call gives".
use Rattle.std.specs.Prelude.{◌≡◌, ◌≢◌, Result, List, ℕ, ◌+◌, ◌*◌, length, take, drop}
use Rattle.std.specs.Borrow.{Bor}
use Rattle.codes.specs.declared.Shape.{Shape}
use Rattle.codes.specs.Shape.{cell_number}
use Rattle.codes.specs.Geometry.{column_of, place}
use Rattle.refusals.specs.declared.reason.Refusal.{Refusal}
use Rattle.refusals.specs.Refusals.{refusal}
use Rattle.refusals.specs.Answer.{Tells}
use Rattle.show.specs.declared.ShownAt.{ShownAt}
use Rattle.show.specs.declared.ShownAt.TheVariants.{Stripe, Spare}
use Rattle.show.specs.Refusals.{show_faults}

-- bytes that a caller lent or is lent: a block of memory, the place in it where they start, and the bytes
abbrev pub Lent : Type 0
Lent = Bor (List ℕ)

-- the answer is that very part of a lent buffer: n bytes from byte `at` on, where they lie in memory
pub record PartOf (whole : Lent) (at n : ℕ) (answer : Lent) : Type 0 where
  pub block : answer.ref_ptr.0 ≡ whole.ref_ptr.0
  pub offset : answer.ref_ptr.1 ≡ whole.ref_ptr.1 + at
  pub bytes : answer.now ≡ take n (drop at whole.now)

-- why a show from a lent stripe and a lent spare is refused; 0 where it is not
abbrev pub reason : Shape → ℕ → ℕ → ℕ → ℕ → Lent → Lent → ℕ
reason s k done row column stripe spare = refusal (show_faults s (length stripe.now) (length spare.now) k done row column)

-- two parts are the same: they lie at the same place in memory and have the same bytes
pub record SamePart (a b : Lent) : Type 0 where
  pub place : a.ref_ptr ≡ b.ref_ptr
  pub bytes : a.now ≡ b.now

-- where in the stripe the cell starts that callers call by a row and a column
abbrev pub shown_place : Shape → ℕ → ℕ → ℕ
shown_place s row column = place s (cell_number s row (column_of s column))

-- show gives the cell's part of the stripe, or for column k of the spare; where it is refused, the empty part at the start of the stripe
pub record Shows (s : Shape) (k done row column : ℕ) (stripe spare answer : Lent) : Type 0 where
  pub refused : reason s k done row column stripe spare ≢ 0 → PartOf stripe 0 0 answer
  pub other : reason s k done row column stripe spare ≡ 0 → column ≢ k → PartOf stripe (shown_place s row column) s.cell answer
  pub ready : reason s k done row column stripe spare ≡ 0 → column ≡ k → PartOf spare (row * s.cell) s.cell answer

-- in which buffer the cell lies, and at which byte of it
pub record LiesAt (s : Shape) (k row column : ℕ) (at : ShownAt) : Type 0 where
  pub other : column ≢ k → at ≡ Stripe (shown_place s row column)
  pub ready : column ≡ k → at ≡ Spare (row * s.cell)

-- the answer says where the cell lies, or it gives the refusal
abbrev pub Shown : Shape → ℕ → ℕ → ℕ → ℕ → ℕ → ℕ → Result ShownAt Refusal → Type 0
Shown s bytes spare k done row column = Tells (show_faults s bytes spare k done row column) (LiesAt s k row column)
