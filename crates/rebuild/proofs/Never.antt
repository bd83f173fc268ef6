-- Two columns come back from the others, in each code and for every p: a rebuild of columns is never undetermined.
use mathlib.Core.Path.{◌≡◌, refl, sym, ap, ◌∙◌, subst}
use mathlib.Core.Logic.{◌≢◌}
use mathlib.Core.List.{List, [], ◌∷◌}
use mathlib.Core.Bool.{Bool, true, cond}
use Prim.Native.Nat.{ℕ}
use native.Mathlib.Omega.{arith}
use lib.ListN.{length}
use Rattle.xor.proofs.Cases.{by_test, by_equal, clash}
use Rattle.codes.specs.declared.Shape.{Shape}
use Rattle.refusals.specs.Refusals.{Fault, order, applies, first_of, refusal, shape_faults, stripe_faults, columns_faults}
use Rattle.refusals.proofs.Refused.{columns_accepted}
use Rattle.codes.specs.Agree.{callers_columns}
use Rattle.decide.specs.Survivors.{Restores}
use Rattle.rebuild.specs.Rebuild.{Rebuilds, RebuildsColumns}
use Rattle.codes.specs.Geometry.{column_of}
use Rattle.codes.proofs.Geometry.{column_there}
use Rattle.decide.proofs.Determined.{columns_determined}
use Rattle.rebuild.proofs.Deciding.{eleven, twelve, done}

-- a refusal that is given applies
given_applies : (numbers : List ℕ) (faults : List Fault) (n : ℕ) → first_of numbers faults ≡ n → n ≢ 0 → applies faults n ≡ true
unfolding first_of
given_applies [] faults n e k = absurd (k (sym e))
given_applies (m ∷ numbers) faults n e k =
    by_test (applies faults m)
    (λ p. subst (λ (x : ℕ). applies faults x ≡ true) (sym (ap (λ (b : Bool). cond b m (first_of numbers faults)) p) ∙ e) p)
    (λ p. given_applies numbers faults n (sym (ap (λ (b : Bool). cond b m (first_of numbers faults)) p) ∙ e) k)

-- no number that is wrong makes it 11
no_eleven : (s : Shape) (bytes a b : ℕ) → refusal (columns_faults s bytes a b) ≢ 11
unfolding refusal columns_faults stripe_faults shape_faults applies
no_eleven s bytes a b e = clash (given_applies order (columns_faults s bytes a b) 11 e (λ z. omega arith)) refl

-- a rebuild of columns never answers 11
pub columns_never : (s : Shape) (a b : ℕ) (old : List ℕ) (answer : ℕ) (new : List ℕ) → Rebuilds s (callers_columns s a b) (refusal (columns_faults s (length old) a b)) old answer new → answer ≢ 11
columns_never s a b old answer new h e =
    by_equal (refusal (columns_faults s (length old) a b)) 0
    (λ z. let right = columns_accepted s (length old) a b z in columns_determined s right.0 (column_of s a) (column_of s b) (column_there s right.0 a right.2) (column_there s right.0 b right.3) (eleven s (callers_columns s a b) old answer new (h.decides z) e))
    (λ n. no_eleven s (length old) a b (sym (h.refused n).0 ∙ e))

-- a rebuild of columns with the right numbers answers 12 exactly when no encoded stripe agrees with the survivors
pub twelve_only : (s : Shape) (a b : ℕ) (old : List ℕ) → refusal (columns_faults s (length old) a b) ≡ 0 → (answer : ℕ) (new : List ℕ) → RebuildsColumns s a b old answer new
    → (answer ≡ 12 → (x : List ℕ) → Restores s (callers_columns s a b) old x → ⊥) × (((x : List ℕ) → Restores s (callers_columns s a b) old x → ⊥) → answer ≡ 12)
twelve_only s a b old right answer new h =
    let decides = h.rebuilds.decides right in
    (twelve s (callers_columns s a b) old answer new decides, λ none. by_equal answer 12 (λ e. e) (λ n. absurd (none new (done s (callers_columns s a b) old answer new decides h.never n).1)))
