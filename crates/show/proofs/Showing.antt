-- Laws of show: where the cell is, from the tests; what the answer that says where gives away; and the part that is made of it.
use mathlib.Core.Path.{◌≡◌, refl, sym, ap, ◌∙◌, subst}
use mathlib.Core.Logic.{◌≢◌}
use mathlib.Core.Bool.{true}
use Prim.Native.Nat.{ℕ, ◌+◌, ◌-◌, ◌*◌, ◌≤◌, ◌<◌}
use native.Mathlib.Omega.{arith}
use lib.ListN.{length, take, drop}
use Rattle.xor.proofs.Cases.{by_equal}
use Rattle.codes.specs.declared.Shape.{Shape}
use Rattle.codes.specs.Shape.{rows, cell_number, WellFormed}
use Rattle.codes.specs.Geometry.{cell_there, column_of, place}
use Rattle.std.specs.Prelude.{Result, Ok, Err}
use Rattle.refusals.specs.declared.reason.Refusal.{Refusal}
use Rattle.refusals.specs.Refusals.{refusal}
use Rattle.refusals.proofs.Answer.{not_none}
use Rattle.codes.proofs.Geometry.{column_there, is_there_lem, cell_there_at, place_inside}
use Rattle.codes.proofs.Positions.{cell_inside}
use Rattle.codes.proofs.Shapes.{most_bytes, length_high}
use Rattle.show.specs.declared.ShownAt.{ShownAt}
use Rattle.show.specs.declared.ShownAt.TheVariants.{Stripe, Spare}
use Rattle.show.specs.Refusals.{show_faults}
use Rattle.show.specs.Show.{Lent, PartOf, reason, shown_place, Shows, Shown}
use Rattle.spare.proofs.Column.{row_ends, row_small}
use Rattle.show.proofs.Refused.{ShowRight, show_accepted}

-- ---- where a cell ends that is shown

-- a cell that callers name exists
pub there : (s : Shape) → WellFormed s → (row column : ℕ) → row < rows s → cell_there s (cell_number s row (column_of s column)) ≡ true
there s w row column l = cell_there_at s w row (column_of s column) l ∙ is_there_lem s w column

module _ (s : Shape) (bytes spare k done row column : ℕ) (r : ShowRight s bytes spare k done row column) where
  pub in_stripe : shown_place s row column + s.cell ≤ bytes
  in_stripe =
      let formed = r.buffers.of.formed in
      omega (arith, r.buffers.long, place_inside s formed (cell_number s row (column_of s column)) (cell_inside s formed row (column_of s column) r.low (column_there s formed column r.right)) (there s formed row column r.low))

  pub in_spare : row * s.cell + s.cell ≤ spare
  in_spare = row_ends s spare r.buffers.whole row r.low

-- ---- the answer that says where

module _ (s : Shape) (bytes spare k done row column : ℕ) where
  module _ (none : refusal (show_faults s bytes spare k done row column) ≡ 0) where
    pub shown_spare : column ≡ k → Shown s bytes spare k done row column (Ok (Spare (row * s.cell)))
    shown_spare e = (sym none, record { other = λ n. absurd (n e); ready = λ _. refl })

    pub shown_stripe : (at j : ℕ) → j ≡ column_of s column → at ≡ place s (cell_number s row j) → column ≢ k → Shown s bytes spare k done row column (Ok (Stripe at))
    shown_stripe at j lies p n = (sym none, record { other = λ _. ap Stripe (p ∙ ap (λ (x : ℕ). place s (cell_number s row x)) lies); ready = λ e. absurd (n e) })

-- which buffer an answer names, and where in it
which : ShownAt → ℕ
which (Stripe at) = 0
which (Spare at) = 1

where_in : ShownAt → ℕ
where_in (Stripe at) = at
where_in (Spare at) = at

-- two answers that name two buffers differ
differ : {A : Type 0} {x y : ShownAt} → x ≡ y → which x ≢ which y → A
differ e n = absurd (n (ap which e))

-- ---- the part of the buffer that the answer names

-- a part from byte `at` to byte at + n, in the same block
pub part_made : (whole : Lent) (at n : ℕ) (answer : Lent) → answer.ref_ptr.0 ≡ whole.ref_ptr.0 → answer.ref_ptr.1 ≡ at + whole.ref_ptr.1
    → answer.now ≡ take (at + n - at) (drop at whole.now) → PartOf whole at n answer
part_made whole at n answer block offset bytes =
    let same : at + n - at ≡ n = omega arith in
    record { block = block; offset = omega arith; bytes = bytes ∙ ap (λ (m : ℕ). take m (drop at whole.now)) same }

module _ (s : Shape) (k done row column : ℕ) (stripe spare : Lent) (said : Result ShownAt Refusal) (h : Shown s (length stripe.now) (length spare.now) k done row column said) where
  right_of : reason s k done row column stripe spare ≡ 0 → ShowRight s (length stripe.now) (length spare.now) k done row column
  right_of = show_accepted s (length stripe.now) (length spare.now) k done row column

  module _ (at : ℕ) (e : said ≡ Ok (Stripe at)) where
    stripe_told : Shown s (length stripe.now) (length spare.now) k done row column (Ok (Stripe at))
    stripe_told = subst (Shown s (length stripe.now) (length spare.now) k done row column) e h

    stripe_none : reason s k done row column stripe spare ≡ 0
    stripe_none = sym stripe_told.0

    another : column ≢ k
    unfolding which
    another same = differ (stripe_told.1.ready same) (λ (two : ◌≡◌ {A = ℕ} 0 1). omega arith)

    stripe_place : at ≡ shown_place s row column
    unfolding where_in
    stripe_place = ap where_in (stripe_told.1.other another)

    pub stripe_ends : at + s.cell ≤ length stripe.now
    stripe_ends = omega (arith, stripe_place, in_stripe s (length stripe.now) (length spare.now) k done row column (right_of stripe_none))

    pub stripe_small : at + s.cell ≤ most_bytes
    stripe_small = let r = right_of stripe_none in omega (arith, stripe_ends, r.buffers.long, length_high s r.buffers.of.formed)

    pub from_stripe : (answer : Lent) → PartOf stripe at s.cell answer → Shows s k done row column stripe spare answer
    from_stripe answer p =
        record { refused = λ n. absurd (n stripe_none); other = λ _ _. rw (sym stripe_place) p; ready = λ _ same. absurd (another same) }

  module _ (at : ℕ) (e : said ≡ Ok (Spare at)) where
    spare_told : Shown s (length stripe.now) (length spare.now) k done row column (Ok (Spare at))
    spare_told = subst (Shown s (length stripe.now) (length spare.now) k done row column) e h

    spare_none : reason s k done row column stripe spare ≡ 0
    spare_none = sym spare_told.0

    lost_one : column ≡ k
    unfolding which
    lost_one = by_equal column k (λ same. same) (λ n. differ (spare_told.1.other n) (λ (two : ◌≡◌ {A = ℕ} 1 0). omega arith))

    spare_place : at ≡ row * s.cell
    unfolding where_in
    spare_place = ap where_in (spare_told.1.ready lost_one)

    pub spare_ends : at + s.cell ≤ length spare.now
    spare_ends = omega (arith, spare_place, in_spare s (length stripe.now) (length spare.now) k done row column (right_of spare_none))

    pub spare_small : at + s.cell ≤ 126976
    spare_small = let r = right_of spare_none in omega (arith, spare_place, row_small s r.buffers.of.formed row r.low)

    pub from_spare : (answer : Lent) → PartOf spare at s.cell answer → Shows s k done row column stripe spare answer
    from_spare answer p =
        record { refused = λ n. absurd (n spare_none); other = λ _ n. absurd (n lost_one); ready = λ _ _. rw (sym spare_place) p }

  module _ (why : Refusal) (e : said ≡ Err why) where
    pub refused_some : reason s k done row column stripe spare ≢ 0
    refused_some none = not_none why (subst (Shown s (length stripe.now) (length spare.now) k done row column) e h ∙ none)
