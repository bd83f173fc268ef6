-- What a run leaves and answers is decided by its numbers, the spare and the cells that the plan reads.
use mathlib.Core.Path.{◌≡◌, refl, sym, ap, ◌∙◌}
use mathlib.Core.Logic.{◌⊎◌, inl, inr, ⊎_elim}
use mathlib.Core.List.{List}
use mathlib.Core.Bool.{Bool, true, cond, not, ◌&&◌}
use Prim.Native.Nat.{ℕ, ◌+◌, ◌-◌, ◌*◌, ◌≤◌, ◌<◌, min}
use native.Mathlib.Nat.{zero-min, min-zero}
use native.Mathlib.Omega.{arith}
use lib.Dec.{eqb}
use lib.ListN.{length}
use Rattle.xor.proofs.Cases.{by_test, by_less, and_both}
use Rattle.xor.proofs.Sums.{xors_same}
use Rattle.xor.proofs.Sets.{any_at}
use Rattle.codes.specs.declared.Shape.{Shape}
use Rattle.std.specs.Prelude.{Result, Ok}
use Rattle.refusals.specs.declared.reason.Refusal.{Refusal}
use Rattle.codes.specs.Shape.{rows, cells, cell_number, WellFormed}
use Rattle.codes.specs.Geometry.{cell_there, column_of}
use Rattle.codes.specs.Agree.{Agree}
use Rattle.codes.specs.Encoded.{byte_at}
use Rattle.codes.specs.Holders.{holds}
use Rattle.refusals.specs.Refusals.{refusal}
use Rattle.refusals.proofs.Answer.{one_answer}
use Rattle.plan.specs.Plan.{chosen, reads_cell}
use Rattle.spare.specs.Refusals.{run_faults}
use Rattle.spare.specs.Run.{rows_run, rebuilt_byte, others, spare_byte, RowsRebuilt, RunsByPlan}
use Rattle.spare.proofs.Column.{same_rows}
use Rattle.spare.proofs.Refused.{run_accepted}
use Rattle.plan.proofs.Column.{last_row}

-- whether a plan for column k leaves cell c unread
abbrev pub unread : Shape → ℕ → ℕ → ℕ → Bool
unread s k plan c = not (reads_cell s k plan c)

-- a row of column k that is rebuilt from stripes that agree on the cells the plan reads is the same
pub row_same : (s : Shape) (k plan : ℕ) (stripe stripe' : List ℕ) → Agree s (unread s k plan) stripe stripe'
    → (i : ℕ) → i < rows s → (t : ℕ) → t < s.cell → rebuilt_byte s k plan stripe i t ≡ rebuilt_byte s k plan stripe' i t
unfolding rebuilt_byte others reads_cell byte_at
row_same s k plan stripe stripe' agree i li t lt =
    xors_same (cells s) (λ c. cond (read i c) (byte_at s stripe c t) 0) (λ c. cond (read i c) (byte_at s stripe' c t) 0)
    (λ c lc. by_test (read i c) (λ p. ap (λ (x : ℕ). cond (read i c) x 0) (by_test (cell_there s c) (found c lc p) (λ h. rw h refl))) (λ p. rw p refl))
  where
    read : ℕ → ℕ → Bool
    read j c = holds s (chosen s k plan j) c && not (eqb c (cell_number s j k))

    -- a cell that exists is read
    found : (c : ℕ) → c < cells s → read i c ≡ true → cell_there s c ≡ true → byte_at s stripe c t ≡ byte_at s stripe' c t
    found c lc p h = agree.same c lc (ap not (and_both h (any_at (rows s) (λ j. read j c) i li p))) t lt

-- rows rebuilt from such stripes into equal spares
rows_same : (s : Shape) → WellFormed s → (k plan first n : ℕ) (stripe stripe' old x y : List ℕ) → Agree s (unread s k plan) stripe stripe' → length old ≡ rows s * s.cell
    → RowsRebuilt s k plan first n stripe old x → RowsRebuilt s k plan first n stripe' old y → x ≡ y
rows_same s w k plan first n stripe stripe' old x y agree whole hx hy =
    same_rows s w x y (hx.long ∙ whole) (hy.long ∙ whole)
    (λ i li t lt. by_less i first (λ l. other i t lt (inl l))
    (λ lo. by_less i (first + n) (λ hi. hx.rebuilt i lo hi t lt ∙ row_same s k plan stripe stripe' agree i li t lt ∙ sym (hy.rebuilt i lo hi t lt)) (λ l. other i t lt (inr l))))
  where
    other : (i t : ℕ) → t < s.cell → (i < first) ⊎ (first + n ≤ i) → spare_byte s x i t ≡ spare_byte s y i t
    other i t lt side = hx.kept i side t lt ∙ sym (hy.kept i side t lt)

module _ (s : Shape) (k plan first budget : ℕ) where
  -- two stripes that agree on the cells the plan reads, run with equal numbers from equal spares: the same answer and the same spare
  pub same_reads : (stripe stripe' old : List ℕ) (x y : List ℕ) (a b : Result ℕ Refusal) → length stripe ≡ length stripe' → Agree s (unread s (column_of s k) plan) stripe stripe'
      → RunsByPlan s k plan first budget stripe old x a → RunsByPlan s k plan first budget stripe' old y b → (a ≡ b) × (x ≡ y)
  same_reads stripe stripe' old x y a b long agree =
      one_answer (run_faults s (length stripe) (length old) k plan first) (run_faults s (length stripe') (length old) k plan first) old x y (done stripe x) (done stripe' y)
      (ap (λ (n : ℕ). refusal (run_faults s n (length old) k plan first)) long)
      (λ z m n hm hn.
      let right = run_accepted s (length stripe) (length old) k plan first z in
      (hm.0 ∙ sym hn.0, rows_same s right.buffers.of.formed (column_of s k) plan first (rows_run s first budget) stripe stripe' old x y agree right.buffers.whole hm.1 hn.1))
      a b
    where
      done : List ℕ → List ℕ → ℕ → Type 0
      done from new n = (n ≡ rows_run s first budget) × RowsRebuilt s (column_of s k) plan first (rows_run s first budget) from old new

  module _ (stripe old : List ℕ) where
    -- any two results that the contract allows are equal
    pub run_one : (x y : List ℕ) (a b : Result ℕ Refusal) → RunsByPlan s k plan first budget stripe old x a → RunsByPlan s k plan first budget stripe old y b → (a ≡ b) × (x ≡ y)
    run_one x y a b = same_reads stripe stripe old x y a b refl (record { same = λ c lc p t lt. refl })

    -- a run with budget 0, or from past the last row, rebuilds nothing
    pub run_nothing : (budget ≡ 0) ⊎ (first ≡ s.p - 1) → (n : ℕ) (x : List ℕ) → RunsByPlan s k plan first budget stripe old x (Ok n) → (n ≡ 0) × (x ≡ old)
    unfolding rows_run
    run_nothing side n x h =
        let right = run_accepted s (length stripe) (length old) k plan first (sym h.0) in
        let none = ⊎_elim no_budget (λ e. no_row (e ∙ last_row s (column_of s k) right.buffers.of)) side in
        let done = h.1 in (
          done.0 ∙ none,
          same_rows s right.buffers.of.formed x old (done.1.long ∙ right.buffers.whole) right.buffers.whole
              (λ i li t lt. done.1.kept i (by_less i first (λ l. inl l) (λ l. inr (omega (arith, none)))) t lt),
        )
      where
        no_budget : budget ≡ 0 → rows_run s first budget ≡ 0
        no_budget e = ap (λ (b : ℕ). min b (rows s - first)) e ∙ zero-min (rows s - first)

        no_row : first ≡ rows s → rows_run s first budget ≡ 0
        no_row e = ap (λ (n : ℕ). min budget n) (let exact : rows s - first ≡ 0 = omega arith in exact) ∙ min-zero budget
