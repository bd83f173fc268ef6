-- Facts of show: any two answers that its contract allows are the same part of the same buffer, the bytes shown are the cell's, and the part is
-- empty exactly where the reason is not 0.
use mathlib.Core.Path.{◌≡◌, sym, ap, ap₂, ◌∙◌}
use mathlib.Core.Logic.{◌≢◌}
use Prim.Native.Nat.{ℕ, ◌+◌, ◌*◌, ◌≤◌, ◌<◌}
use native.Mathlib.Omega.{arith}
use lib.ListN.{length, get_or}
use Rattle.xor.proofs.Cases.{by_equal}
use Rattle.xor.proofs.Runs.{part_long, part_byte}
use Rattle.codes.specs.declared.Shape.{Shape}
use Rattle.codes.specs.Shape.{cell_number}
use Rattle.codes.specs.Geometry.{column_of}
use Rattle.codes.specs.Encoded.{byte_at}
use Rattle.codes.proofs.Geometry.{byte_there}
use Rattle.std.specs.Prelude.{Option, Result}
use Rattle.refusals.specs.declared.reason.Refusal.{Refusal}
use Rattle.refusals.specs.Number.{number_if}
use Rattle.refusals.proofs.Answer.{same_reason, one_told}
use Rattle.show.specs.Refusals.{show_faults}
use Rattle.show.specs.declared.ShownAt.{ShownAt}
use Rattle.spare.specs.Run.{spare_byte}
use Rattle.show.specs.Show.{Lent, PartOf, SamePart, reason, shown_place, Shows, LiesAt, Shown}
use Rattle.show.proofs.Refused.{show_accepted}
use Rattle.show.proofs.Showing.{there, in_stripe, in_spare}

-- ---- a part of a buffer

module _ (whole : Lent) (at n : ℕ) where
  part_one : (a b : Lent) → PartOf whole at n a → PartOf whole at n b → SamePart a b
  part_one a b p q = record { place = ap₂ (λ (x y : ℕ). (x, y)) (p.block ∙ sym q.block) (p.offset ∙ sym q.offset); bytes = p.bytes ∙ sym q.bytes }

  module _ (answer : Lent) (p : PartOf whole at n answer) where
    shown_byte : (t : ℕ) → t < n → get_or answer.now t 0 ≡ get_or whole.now (at + t) 0
    shown_byte t l = ap (λ x. get_or x t 0) p.bytes ∙ part_byte whole.now at n t l

    shown_long : at + n ≤ length whole.now → length answer.now ≡ n
    shown_long l = ap length p.bytes ∙ part_long whole.now at n l

-- ---- one answer

module _ (s : Shape) (k done row column : ℕ) (stripe spare : Lent) where
  pub show_one : (a b : Lent) → Shows s k done row column stripe spare a → Shows s k done row column stripe spare b → SamePart a b
  show_one a b x y =
      by_equal (reason s k done row column stripe spare) 0
      (λ none. by_equal column k
      (λ e. part_one spare (row * s.cell) s.cell a b (x.ready none e) (y.ready none e))
      (λ n. part_one stripe (shown_place s row column) s.cell a b (x.other none n) (y.other none n)))
      (λ n. part_one stripe 0 0 a b (x.refused n) (y.refused n))

  pub reason_one : (a b : Option Refusal) → number_if a ≡ reason s k done row column stripe spare → number_if b ≡ reason s k done row column stripe spare → a ≡ b
  reason_one a b x y = same_reason a b (x ∙ sym y)

-- an answer of the call that says where
module _ (s : Shape) (bytes spare k done row column : ℕ) where
  pub shown_one : (a b : Result ShownAt Refusal) → Shown s bytes spare k done row column a → Shown s bytes spare k done row column b → a ≡ b
  shown_one = one_told (show_faults s bytes spare k done row column) (LiesAt s k row column)
      (λ z a b x y. by_equal column k (λ e. x.ready e ∙ sym (y.ready e)) (λ n. x.other n ∙ sym (y.other n)))

-- ---- what is shown

module _ (s : Shape) (k done row column : ℕ) (stripe spare answer : Lent) (h : Shows s k done row column stripe spare answer) where
  module _ (none : reason s k done row column stripe spare ≡ 0) where
    -- the bytes of a cell of another column are the stripe's
    pub shown_is_cell : column ≢ k → (t : ℕ) → t < s.cell → get_or answer.now t 0 ≡ byte_at s stripe.now (cell_number s row (column_of s column)) t
    shown_is_cell n t lt =
        let right = show_accepted s (length stripe.now) (length spare.now) k done row column none in
        let w = right.buffers.of.formed in
        shown_byte stripe (shown_place s row column) s.cell answer (h.other none n) t lt
        ∙ sym (byte_there s w stripe.now (cell_number s row (column_of s column)) t (there s w row column right.low))

    -- those of a cell of column k are the spare's, of the same row
    pub shown_is_spare : column ≡ k → (t : ℕ) → t < s.cell → get_or answer.now t 0 ≡ spare_byte s spare.now row t
    unfolding spare_byte
    shown_is_spare e = shown_byte spare (row * s.cell) s.cell answer (h.ready none e)

    -- it is a whole cell
    pub shown_whole : length answer.now ≡ s.cell
    shown_whole =
        let right = show_accepted s (length stripe.now) (length spare.now) k done row column none in
        by_equal column k
        (λ e. shown_long spare (row * s.cell) s.cell answer (h.ready none e) (in_spare s (length stripe.now) (length spare.now) k done row column right))
        (λ n. shown_long stripe (shown_place s row column) s.cell answer (h.other none n) (in_stripe s (length stripe.now) (length spare.now) k done row column right))

  -- the part is empty exactly where the reason is not 0
  pub empty_where_refused : reason s k done row column stripe spare ≢ 0 → length answer.now ≡ 0
  empty_where_refused n = shown_long stripe 0 0 answer (h.refused n) (omega arith)

  pub refused_where_empty : length answer.now ≡ 0 → reason s k done row column stripe spare ≢ 0
  refused_where_empty e none =
      let right = show_accepted s (length stripe.now) (length spare.now) k done row column none in
      omega (arith, shown_whole none, right.buffers.of.formed.cell_low)
