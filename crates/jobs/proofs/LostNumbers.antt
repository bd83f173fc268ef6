-- Laws of the numbers of the lost cells, two bytes each: one more is read.
use mathlib.Core.Path.{◌≡◌, refl, sym, ap, ap₂, ◌∙◌}
use mathlib.Core.List.{List, [], ◌∷◌, ◌++◌}
use Prim.Native.Nat.{ℕ, ◌+◌, ◌<◌}
use native.Mathlib.Numerals.{add-one}
use lib.ListN.{length, get_or, set, take}
use lib.Seq.{take-suc, take-suc-set, take-length}
use Rattle.std.specs.List.{concat}
use Rattle.std.proofs.lemmas.List.Folds.{concat-append}
use Rattle.format.specs.Format.{two_bytes_of, numbers}

numbers_both : (xs ys : List ℕ) → numbers (xs ++ ys) ≡ numbers xs ++ numbers ys
unfolding numbers two_bytes_of
numbers_both [] ys = refl
numbers_both (x ∷ xs) ys = ap (λ (r : List ℕ). two_bytes_of x ++ r) (numbers_both xs ys)

-- the number at place k is read
pub listed_more : (pairs : List (List ℕ)) (list : List ℕ) (k n : ℕ) → k < length pairs → k < length list → numbers (take k list) ≡ concat (take k pairs) → two_bytes_of n ≡ get_or pairs k []
    → numbers (take (k + 1) (set list k n)) ≡ concat (take (k + 1) pairs)
unfolding numbers
listed_more pairs list k n lp ll before here =
    ap (λ m. numbers (take m (set list k n))) (add-one k)
    ∙ ap numbers (take-suc-set list k n ll)
    ∙ numbers_both (take k list) (n ∷ [])
    ∙ ap₂ ◌++◌ before (ap (λ (b : List ℕ). b ++ []) here)
    ∙ sym (concat-append (take k pairs) (get_or pairs k [] ∷ []))
    ∙ ap concat (sym (take-suc pairs k [] lp))
    ∙ ap (λ m. concat (take m pairs)) (sym (add-one k))

-- none is read at first, and all are at last
pub listed_none : numbers [] ≡ []
unfolding numbers
listed_none = refl

pub listed_all : (pairs : List (List ℕ)) (list : List ℕ) (k : ℕ) → k ≡ length pairs → numbers (take k list) ≡ concat (take k pairs) → numbers (take (length pairs) list) ≡ concat pairs
listed_all pairs list k all says =
    ap (λ (m : ℕ). numbers (take m list)) (sym all) ∙ says ∙ ap concat (ap (λ (m : ℕ). take m pairs) all ∙ take-length pairs)
