-- Runs that cover all rows leave the lost column in the spare, whatever their plans, their budgets and their order, and whatever bytes each of them
-- finds in the lost column of its stripe. A run's count is that of the rows that it takes.
use mathlib.Core.Path.{◌≡◌, refl, sym, ap, ap₂, ◌∙◌, subst}
use mathlib.Core.Logic.{◌⊎◌, inl, inr, ⊎_elim}
use mathlib.Core.List.{List, [], ◌∷◌}
use mathlib.Core.Bool.{Bool, true, ◌&&◌}
use Prim.Native.Nat.{ℕ, ◌+◌, ◌-◌, ◌*◌, ◌/◌, ◌≤◌, ◌<◌, min}
use native.Mathlib.Nat.{zero-add, add-mul, one-mul}
use native.Mathlib.Omega.{arith}
use lib.Dec.{eqb, leb, ltb}
use lib.ListN.{length, get_or, take, drop}
use borrow.Author.Tests.{leb-true, le-leb, lt-leb, ltb-true, lt-ltb, eqb-true, not-false}
use Rattle.xor.specs.Xor.{◌⊕◌}
use Rattle.xor.proofs.Algebra.{zero_⊕}
use Rattle.xor.proofs.Runs.{part_long, part_byte}
use Rattle.xor.specs.Sets.{count}
use Rattle.xor.proofs.Cases.{by_less, clash, and_left, and_right, and_both, either, not_passed, same_test}
use Rattle.xor.proofs.Sets.{count_same, count_never, count_all, count_parts, count_lowest}
use Rattle.codes.specs.declared.Shape.{Shape}
use Rattle.std.specs.Prelude.{Ok}
use Rattle.codes.specs.Shape.{rows, cell_number, stripe_length, WellFormed}
use Rattle.codes.specs.Geometry.{cell_there, column_of, cell_at, place}
use Rattle.codes.specs.Agree.{Agree, in_columns, callers_columns}
use Rattle.codes.specs.Encoded.{byte_at, Encoded}
use Rattle.codes.proofs.Geometry.{cell_there_at, byte_there, place_down, place_inside}
use Rattle.codes.proofs.Positions.{cell_inside}
use Rattle.codes.proofs.Shapes.{rows_low}
use Rattle.codes.proofs.Solutions.{total_zero}
use Rattle.plan.specs.Plan.{chosen, reads_cell}
use Rattle.spare.specs.Right.{RunRight}
use Rattle.spare.specs.Run.{takes_row, rows_run, rebuilt_byte, spare_byte, RunsByPlan}
use Rattle.spare.specs.Places.{starts}
use Rattle.spare.specs.Runs.{Turn, Ran, Runs, AllAgree, covers}
use Rattle.spare.proofs.Refused.{run_accepted}
use Rattle.spare.proofs.Slots.{Held, others_are}
use Rattle.spare.proofs.Choice.{chosen_held}
use Rattle.spare.proofs.Column.{row_ends, same_rows}
use Rattle.plan.proofs.Column.{last_row}
use Rattle.plan.proofs.PlanFacts.{lost_not_read}
use Rattle.spare.proofs.SameReads.{unread, row_same}

module _ (s : Shape) (k : ℕ) where
  -- the lost column: the one that lies at place k
  abbrev lost : ℕ
  lost = column_of s k

  -- a run that was not refused had its numbers right
  ran_right : (turn : Turn) (old new : List ℕ) → Ran s k turn old new → RunRight s (length turn.stripe) (length old) lost turn.plan turn.first
  ran_right turn old new h = run_accepted s (length turn.stripe) (length old) k turn.plan turn.first (sym h.runs.0)

  -- an encoded stripe
  module _ (x : List ℕ) (encoded : Encoded s x) where
    -- row i of the spare is that of its lost column
    abbrev Restored : ℕ → List ℕ → Type 0
    Restored i spare = (t : ℕ) → t < s.cell → spare_byte s spare i t ≡ byte_at s x (cell_number s i lost) t

    -- one run, from a stripe that agrees with the encoded one beside the lost column
    module _ (turn : Turn) (agree : Agree s (callers_columns s k k) turn.stripe x) (old new : List ℕ) (h : Ran s k turn old new) where
      right : RunRight s (length turn.stripe) (length old) lost turn.plan turn.first
      right = ran_right turn old new h

      -- a rebuilt row is the same from both stripes, and of the encoded one the other cells of the equation have the lost cell as their sum
      rebuilt_is : (i : ℕ) → i < rows s → (t : ℕ) → t < s.cell → rebuilt_byte s lost turn.plan turn.stripe i t ≡ byte_at s x (cell_number s i lost) t
      unfolding rebuilt_byte in_columns
      rebuilt_is i li t lt =
          row_same s lost turn.plan turn.stripe x read i li t lt
          ∙ others_are s (chosen s lost turn.plan i) (cell_number s i lost) held (λ c. byte_at s x c t)
          ∙ ap (λ (y : ℕ). y ⊕ byte_at s x (cell_number s i lost) t) (total_zero s (chosen s lost turn.plan i) (λ c. byte_at s x c t) (encoded.holds (chosen s lost turn.plan i) held.equation t lt))
          ∙ zero_⊕ (byte_at s x (cell_number s i lost) t)
        where
          read : Agree s (unread s lost turn.plan) turn.stripe x
          read = record {
            same = λ c lc p. agree.same c lc (not_passed (λ q.
                clash (not-false (reads_cell s lost turn.plan c) p)
                (lost_not_read s lost turn.plan right.buffers.of right.accepted c lc (eqb-true (c / rows s) lost (either (eqb (c / rows s) lost) _ q (λ e. e) (λ e. e))))));
          }

          held : Held s (chosen s lost turn.plan i) (cell_number s i lost)
          held = chosen_held s lost turn.plan i (record { of = right.buffers.of; accepted = right.accepted; row = li })

      -- a row that the run takes, or that was right before it, is right after it
      turn_restores : (i : ℕ) → i < rows s → (takes_row turn.first turn.budget i ≡ true) ⊎ Restored i old → Restored i new
      unfolding takes_row rows_run
      turn_restores i li side t lt =
          by_less i turn.first (λ l. kept (inl l))
          (λ lo. by_less i (turn.first + rows_run s turn.first turn.budget) (λ hi. h.runs.1.1.rebuilt i lo hi t lt ∙ rebuilt_is i li t lt) (λ l. kept (inr l)))
        where
          kept : (i < turn.first) ⊎ (turn.first + rows_run s turn.first turn.budget ≤ i) → spare_byte s new i t ≡ byte_at s x (cell_number s i lost) t
          kept off =
              h.runs.1.1.kept i off t lt
              ∙ ⊎_elim (λ p. let lo = leb-true turn.first i (and_left (leb turn.first i) _ p) in
              let hi = ltb-true i (turn.first + turn.budget) (and_right (leb turn.first i) _ p) in
              absurd (⊎_elim (λ a. omega arith) (λ a. omega arith) off)) (λ r. r t lt) side

    -- a row that some run takes, or that was right before the first, is right after the last
    runs_restore : (turns : List Turn) (old new : List ℕ) → AllAgree s k turns x → Runs s k turns old new
        → (i : ℕ) → i < rows s → (covers turns i ≡ true) ⊎ Restored i old → Restored i new
    unfolding covers
    runs_restore [] old new agree h i li side = subst (Restored i) (sym h) (⊎_elim (λ p. clash p refl) (λ r. r) side)
    runs_restore (turn ∷ turns) old new agree h i li side =
        runs_restore turns h.0 new agree.1 h.2 i li
        (⊎_elim
        (λ p. either (takes_row turn.first turn.budget i) (covers turns i) p (λ q. inr (turn_restores turn agree.0 old h.0 h.1 i li (inl q))) (λ q. inl q))
        (λ r. inr (turn_restores turn agree.0 old h.0 h.1 i li (inr r))) side)

    -- a row that some run takes is the lost column's
    pub row_comes_back : (turns : List Turn) (old new : List ℕ) → AllAgree s k turns x → Runs s k turns old new → (i : ℕ) → i < rows s → covers turns i ≡ true
        → (t : ℕ) → t < s.cell → spare_byte s new i t ≡ byte_at s x (cell_number s i lost) t
    row_comes_back turns old new agree h i li p = runs_restore turns old new agree h i li (inl p)

    -- runs leave the spare as long as it was, and that is a column's length
    runs_long : (turns : List Turn) (old new : List ℕ) → Runs s k turns old new → length new ≡ length old
    runs_long [] old new h = ap (λ (l : List ℕ). length l) h
    runs_long (turn ∷ turns) old new h = runs_long turns h.0 new h.2 ∙ h.1.runs.1.1.long

    -- runs that cover all rows leave the lost column of the encoded stripe in the spare
    pub column_comes_back : (turn : Turn) (turns : List Turn) (old new : List ℕ) → length x ≡ stripe_length s → AllAgree s k (turn ∷ turns) x → Runs s k (turn ∷ turns) old new
        → ((i : ℕ) → i < rows s → covers (turn ∷ turns) i ≡ true) → new ≡ take (rows s * s.cell) (drop (place s (cell_at s 0 k)) x)
    unfolding spare_byte
    column_comes_back turn turns old new long agree h all =
        same_rows s w new (take (rows s * s.cell) (drop (starts s lost) x)) (runs_long (turn ∷ turns) old new h ∙ first.buffers.whole)
        (part_long x (starts s lost) (rows s * s.cell) (omega (arith, long, ends)))
        (λ i li t lt. row_comes_back (turn ∷ turns) old new agree h i li (all i li) t lt ∙ byte_there s w x (cell_number s i lost) t (there i li) ∙ ap (λ (y : ℕ). get_or x y 0) (down i li t)
        ∙ sym (part_byte x (starts s lost) (rows s * s.cell) (i * s.cell + t) (omega (arith, row_ends s (rows s * s.cell) refl i li))))
      where
        first : RunRight s (length turn.stripe) (length old) lost turn.plan turn.first
        first = ran_right turn old h.0 h.1

        w : WellFormed s
        w = first.buffers.of.formed

        there : (i : ℕ) → i < rows s → cell_there s (cell_number s i lost) ≡ true
        there i li = cell_there_at s w i lost li ∙ first.buffers.of.there

        down : (i : ℕ) → i < rows s → (t : ℕ) → place s (cell_number s i lost) + t ≡ starts s lost + (i * s.cell + t)
        down i li t = omega (arith, place_down s w i lost (starts s lost) li refl)

        -- the column ends inside the stripe, where its last row does
        ends : starts s lost + rows s * s.cell ≤ stripe_length s
        ends =
            let last = rows s - 1 in
            let li : last < rows s = omega (arith, rows_low s w) in
            let whole : last + 1 ≡ rows s = omega arith in
            omega (
              arith,
              down last li 0,
              place_inside s w (cell_number s last lost) (cell_inside s w last lost li first.buffers.of.column) (there last li),
              add-mul last 1 s.cell,
              one-mul s.cell,
              ap (λ (n : ℕ). n * s.cell) whole,
            )

-- ---- the count of a run is the size of the set of rows that it takes

-- so many numbers below n are below m
below : (n m : ℕ) → count n (λ i. ltb i m) ≡ min m n
below n m =
    count_same n (λ i. ltb i m) (λ i. true && ltb (count i (λ j. true)) m) (λ i l. ap (λ (k : ℕ). ltb k m) (sym (all i)))
    ∙ count_lowest n m (λ i. true)
    ∙ omega (arith, all n)
  where
    all : (i : ℕ) → count i (λ j. true) ≡ i
    all i = count_all i (λ j. true) (λ j l. refl)

rows_taken : (n first budget : ℕ) → first ≤ n → count n (takes_row first budget) ≡ min budget (n - first)
unfolding takes_row
rows_taken n first budget l =
    ap (λ (m : ℕ). count m (takes_row first budget)) (let whole : n ≡ first + (n - first) = omega arith in whole)
    ∙ count_parts first (n - first) (takes_row first budget)
    ∙ ap₂ ◌+◌ (count_never first (takes_row first budget) (λ i li. ap (λ (b : Bool). b && ltb i (first + budget)) (lt-leb first i li)))
    (count_same (n - first) (λ i. takes_row first budget (first + i)) (λ i. ltb i budget) (λ i li. from i) ∙ below (n - first) budget)
    ∙ zero-add (min budget (n - first))
  where
    from : (i : ℕ) → takes_row first budget (first + i) ≡ ltb i budget
    from i =
        same_test
        (λ p. lt-ltb i budget (let l = ltb-true (first + i) (first + budget) (and_right (leb first (first + i)) _ p) in omega arith))
        (λ p. and_both (le-leb first (first + i) (omega arith)) (lt-ltb (first + i) (first + budget) (let l = ltb-true i budget p in omega arith)))

-- rows rebuilt: those that the run takes
pub run_counts : (s : Shape) (k plan first budget : ℕ) (stripe old new : List ℕ) (n : ℕ) → RunsByPlan s k plan first budget stripe old new (Ok n)
    → n ≡ count (rows s) (takes_row first budget)
unfolding rows_run
run_counts s k plan first budget stripe old new n h =
    let right = run_accepted s (length stripe) (length old) k plan first (sym h.0) in
    h.1.0 ∙ sym (rows_taken (rows s) first budget (omega (arith, right.start, last_row s (column_of s k) right.buffers.of)))
