-- Bytes in lost cells have no effect; and whether lost cells are undetermined is no matter of bytes.
use mathlib.Core.Path.{◌≡◌, sym, subst}
use mathlib.Core.List.{List}
use mathlib.Core.Bool.{Bool}
use Prim.Native.Nat.{ℕ}
use lib.ListN.{length}
use Rattle.xor.proofs.Cases.{by_equal}
use Rattle.codes.specs.declared.Shape.{Shape}
use Rattle.refusals.specs.Refusals.{refusal, cells_faults, columns_faults}
use Rattle.refusals.proofs.Refused.{cells_accepted, columns_accepted}
use Rattle.codes.specs.Agree.{Agree, callers_columns}
use Rattle.decide.specs.Survivors.{named}
use Rattle.rebuild.specs.Rebuild.{Decides, Rebuilds, RebuildsCells, RebuildsColumns}
use Rattle.rebuild.proofs.Deciding.{eleven, determined}
use Rattle.rebuild.proofs.OneAnswer.{rebuilds_alike}

-- the two calls on stripes of the same length that differ in lost cells only
pub cells_lost_bytes : (s : Shape) (numbers old old' : List ℕ) → length old ≡ length old' → Agree s (named s numbers) old old' → (a a' : ℕ) (new new' : List ℕ)
    → RebuildsCells s numbers old a new → RebuildsCells s numbers old' a' new' → (a ≡ a') × (a ≡ 0 → new ≡ new')
cells_lost_bytes s numbers old old' long agree a a' new new' h h' =
    rebuilds_alike s (named s numbers) old old' agree a a' new new' (refusal (cells_faults s (length old) numbers)) (λ e. (cells_accepted s (length old) numbers e).0) h
    (subst (λ (n : ℕ). Rebuilds s (named s numbers) (refusal (cells_faults s n numbers)) old' a' new') (sym long) h')

pub columns_lost_bytes : (s : Shape) (i j : ℕ) (old old' : List ℕ) → length old ≡ length old' → Agree s (callers_columns s i j) old old' → (a a' : ℕ) (new new' : List ℕ)
    → RebuildsColumns s i j old a new → RebuildsColumns s i j old' a' new' → (a ≡ a') × (a ≡ 0 → new ≡ new')
columns_lost_bytes s i j old old' long agree a a' new new' h h' =
    rebuilds_alike s (callers_columns s i j) old old' agree a a' new new' (refusal (columns_faults s (length old) i j)) (λ e. (columns_accepted s (length old) i j e).0) h.rebuilds
    (subst (λ (n : ℕ). Rebuilds s (callers_columns s i j) (refusal (columns_faults s n i j)) old' a' new') (sym long) h'.rebuilds)

-- 11 for one stripe, 11 for any other with the same cells lost
undetermined_too : (s : Shape) (lost : ℕ → Bool) (old old' : List ℕ) (a a' : ℕ) (new new' : List ℕ) → Decides s lost old a new → Decides s lost old' a' new' → a ≡ 11 → a' ≡ 11
undetermined_too s lost old old' a a' new new' h h' e = by_equal a' 11 (λ z. z) (λ n. absurd (determined s lost old' a' new' h' n (eleven s lost old a new h e)))

pub eleven_only : (s : Shape) (lost : ℕ → Bool) (wrong wrong' : ℕ) → wrong ≡ 0 → wrong' ≡ 0 → (old old' : List ℕ) (a a' : ℕ) (new new' : List ℕ)
    → Rebuilds s lost wrong old a new → Rebuilds s lost wrong' old' a' new' → (a ≡ 11 → a' ≡ 11) × (a' ≡ 11 → a ≡ 11)
eleven_only s lost wrong wrong' right right' old old' a a' new new' h h' =
    (undetermined_too s lost old old' a a' new new' (h.decides right) (h'.decides right'), undetermined_too s lost old' old a' a new' new (h'.decides right') (h.decides right))
