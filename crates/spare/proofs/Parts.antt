-- Rows of the spare: what is set in a row's part of it, and one row after the other.
use mathlib.Core.Path.{◌≡◌, refl, sym, ap, ◌∙◌, subst}
use mathlib.Core.Logic.{◌≢◌, inl, inr, ⊎_elim}
use mathlib.Core.List.{List, ◌++◌}
use Prim.Native.Nat.{ℕ, ◌+◌, ◌-◌, ◌*◌, ◌≤◌, ◌<◌}
use native.Mathlib.Nat.{zero-add}
use native.Mathlib.Omega.{arith}
use lib.ListN.{length, get_or, take, get_or-append}
use lib.Seq.{length-take-le, get_or-take, get_or-drop, get_or-append-add}
use borrow.Rule.Slice.PartMut.{mid_of, post_of, put_mid, mid_len, same_len_mid, Post-is}
use Rattle.xor.specs.Runs.{sum_at, Inside, Put}
use Rattle.xor.proofs.Cases.{by_equal}
use Rattle.xor.proofs.Runs.{shorter, put_end}
use Rattle.codes.specs.declared.Shape.{Shape}
use Rattle.codes.specs.Shape.{cell_number, stripe_length, WellFormed}
use Rattle.codes.proofs.Places.{cells_apart}
use Rattle.plan.specs.Plan.{chosen}
use Rattle.spare.specs.Run.{rebuilt_byte, spare_byte, RowsRebuilt}
use Rattle.spare.specs.Places.{OthersAt}

-- ---- the other cells of the chosen equation lie inside the stripe

pub others_inside : (s : Shape) (q own at bytes part : ℕ) (places : List ℕ) → bytes ≡ stripe_length s → part ≡ s.cell → OthersAt s q own at places → Inside bytes places (at + part)
others_inside s q own at bytes part places e whole h = shorter (stripe_length s) bytes (at + s.cell) (at + part) places h.inside e (omega arith)

-- ---- the sum of the other cells of the chosen equation, set in the row's part, is the row rebuilt

pub row_put : (s : Shape) (k plan i at part : ℕ) (places stripe old new : List ℕ) → part ≡ s.cell → OthersAt s (chosen s k plan i) (cell_number s i k) at places
    → Put old 0 part (λ t. sum_at stripe places (at + t)) new → Put old 0 s.cell (rebuilt_byte s k plan stripe i) new
unfolding rebuilt_byte
row_put s k plan i at part places stripe old new whole h put =
    let all = put_end old new 0 s.cell part (λ t. sum_at stripe places (at + t)) put whole in
    record { long = all.long; inner = λ t l. all.inner t l ∙ h.sum stripe t; outer = all.outer }

-- ---- a part in the middle: what is set in it is set in the whole

pub part_long : (xs : List ℕ) (a n : ℕ) → a + n ≤ length xs → length (mid_of a (a + n - a) xs) ≡ n
part_long xs a n l = mid_len a (a + n) xs l ∙ (let exact : a + n - a ≡ n = omega arith in exact)

put_part : (xs ys : List ℕ) (a e n : ℕ) (f : ℕ → ℕ) → e ≡ a + n → e ≤ length xs → Put (mid_of a (e - a) xs) 0 n f ys → Put xs a n f (put_mid a (e - a) xs ys)
put_part xs ys a e n f same le h = record {
  long = same_len_mid a (e - a) xs ys h.long;
  inner = λ t l. past t ∙ get_or-append ys (post_of a (e - a) xs) 0 t (omega (arith, whole)) ∙ ap (λ (x : ℕ). get_or ys x 0) (sym (zero-add t)) ∙ h.inner t l;
  outer = λ i side. ⊎_elim (before i) (after i) side;
}
  where
    whole : length ys ≡ n
    whole = h.long ∙ mid_len a e xs le ∙ (let exact : e - a ≡ n = omega arith in exact)

    start : length (take a xs) ≡ a
    start = length-take-le a xs (omega arith)

    past : (x : ℕ) → get_or (put_mid a (e - a) xs ys) (a + x) 0 ≡ get_or (ys ++ post_of a (e - a) xs) x 0
    past x = ap (λ (m : ℕ). get_or (put_mid a (e - a) xs ys) (m + x) 0) (sym start) ∙ get_or-append-add (take a xs) (ys ++ post_of a (e - a) xs) x 0

    before : (i : ℕ) → i < a → get_or (put_mid a (e - a) xs ys) i 0 ≡ get_or xs i 0
    before i l = get_or-append (take a xs) (ys ++ post_of a (e - a) xs) 0 i (omega (arith, start)) ∙ get_or-take a xs i 0 l

    after : (i : ℕ) → a + n ≤ i → get_or (put_mid a (e - a) xs ys) i 0 ≡ get_or xs i 0
    after i l =
        subst (λ (m : ℕ). get_or (put_mid a (e - a) xs ys) m 0 ≡ get_or xs m 0) (let exact : a + (length ys + (i - e)) ≡ i = omega (arith, whole) in exact)
        (past (length ys + (i - e)) ∙ get_or-append-add ys (post_of a (e - a) xs) (i - e) 0 ∙ ap (λ (l : List ℕ). get_or l (i - e) 0) (Post-is a e xs (omega arith))
        ∙ get_or-drop e xs (i - e) 0 ∙ ap (λ (m : ℕ). get_or xs m 0) (let exact : e + (i - e) ≡ a + (length ys + (i - e)) = omega (arith, whole) in exact))

-- ---- one row after the other

-- a row that a run comes to is one of the column's
pub below : (first n i : ℕ) {rows : ℕ} → first + n ≤ rows → i < first + n → i < rows
below first n i l less = omega arith

module _ (s : Shape) (w : WellFormed s) (k plan first : ℕ) (stripe old : List ℕ) where
  pub rows_none : RowsRebuilt s k plan first (first - first) stripe old old
  rows_none = record { long = refl; rebuilt = λ i lo hi t l. absurd (omega arith); kept = λ i side t l. refl }

  put_more : (mid new : List ℕ) (i : ℕ) → first ≤ i → RowsRebuilt s k plan first (i - first) stripe old mid
      → Put mid (i * s.cell) s.cell (rebuilt_byte s k plan stripe i) new → RowsRebuilt s k plan first (i + 1 - first) stripe old new
  unfolding spare_byte
  put_more mid new i l h put = record {
    long = put.long ∙ h.long;
    rebuilt = λ j lo hi t lt. by_equal j i
        (λ e. ap (λ (r : ℕ). get_or new (r * s.cell + t) 0) e ∙ put.inner t lt ∙ ap (λ (r : ℕ). rebuilt_byte s k plan stripe r t) (sym e))
        (λ n. other j t n lt ∙ h.rebuilt j lo (omega arith) t lt);
    kept = λ j side t lt. other j t (λ e. ⊎_elim (λ a. omega arith) (λ a. omega arith) side) lt
        ∙ h.kept j (⊎_elim (λ a. inl a) (λ a. inr (omega arith)) side) t lt;
  }
    where
      other : (j t : ℕ) → j ≢ i → t < s.cell → get_or new (j * s.cell + t) 0 ≡ get_or mid (j * s.cell + t) 0
      other j t n lt = put.outer (j * s.cell + t) (⊎_elim (λ a. inl (omega arith)) (λ a. inr (omega arith)) (cells_apart s w j i n))

  -- a row is set in its part, and the part is put back
  pub rows_more : (mid part : List ℕ) (i : ℕ) → first ≤ i → RowsRebuilt s k plan first (i - first) stripe old mid → i * s.cell + s.cell ≤ length mid
      → Put (mid_of (i * s.cell) (i * s.cell + s.cell - i * s.cell) mid) 0 s.cell (rebuilt_byte s k plan stripe i) part
      → RowsRebuilt s k plan first (i + 1 - first) stripe old (put_mid (i * s.cell) (i * s.cell + s.cell - i * s.cell) mid part)
  rows_more mid part i l h ends put = put_more mid _ i l h (put_part mid part (i * s.cell) (i * s.cell + s.cell) s.cell (rebuilt_byte s k plan stripe i) refl ends put)

  pub rows_end : (n i : ℕ) (new : List ℕ) → i ≡ first + n → RowsRebuilt s k plan first (i - first) stripe old new → RowsRebuilt s k plan first n stripe old new
  rows_end n i new e h = subst (λ (m : ℕ). RowsRebuilt s k plan first m stripe old new) (let exact : i - first ≡ n = omega arith in exact) h

  -- the last row after the others
  pub rows_last : (n : ℕ) (mid part : List ℕ) → 1 ≤ n → RowsRebuilt s k plan first (n - 1) stripe old mid → (first + (n - 1)) * s.cell + s.cell ≤ length mid
      → Put (mid_of ((first + (n - 1)) * s.cell) ((first + (n - 1)) * s.cell + s.cell - (first + (n - 1)) * s.cell) mid) 0 s.cell (rebuilt_byte s k plan stripe (first + (n - 1))) part
      → RowsRebuilt s k plan first n stripe old (put_mid ((first + (n - 1)) * s.cell) ((first + (n - 1)) * s.cell + s.cell - (first + (n - 1)) * s.cell) mid part)
  rows_last n mid part some h ends put =
      let before : n - 1 ≡ first + (n - 1) - first = omega arith in
      rows_end n (first + (n - 1) + 1) _ (omega arith)
      (rows_more mid part (first + (n - 1)) (omega arith) (subst (λ (m : ℕ). RowsRebuilt s k plan first m stripe old mid) before h) ends put)
