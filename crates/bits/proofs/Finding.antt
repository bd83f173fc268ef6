-- The search among the members of a set by a closure: what it asks, and what it finds.
use mathlib.Core.Path.{◌≡◌, refl, sym, ap, ap₂, ◌∙◌, subst}
use mathlib.Core.Logic.{◌≢◌}
use mathlib.Core.List.{List, [], ◌∷◌}
use mathlib.Core.Bool.{Bool, true, false, not, ◌&&◌, and-true, and-false}
use Prim.Native.Nat.{ℕ}
use native.Mathlib.Omega.{arith}
use lib.Dec.{eqb}
use borrow.Author.Tests.{eq-eqb, ne_eqb}
use denote.Ref.{Bor}
use denote.Param.Members.{Mut}
use Rattle.std.specs.Prelude.{Option, Some, None}
use Rattle.std.specs.Fn.{CalledAt, TakesAt}
use Rattle.std.specs.List.{FoldsTo}
use Rattle.std.specs.Iterator.{Yields, CallableWhileAt, FindsItem}
use Rattle.std.proofs.lemmas.Fn.{serves_by}
use Rattle.xor.proofs.Cases.{by_test, by_equal, clash, and_left, and_both}
use Rattle.bits.specs.Bit.{bit, TakesLowest, FindsLowest}
use Rattle.bits.proofs.Bits.{bit_zero}
use Rattle.bits.proofs.Masks.{clear_lowest}

-- ---- the set `left` is `set` without its lowest member q
module _ (set q left : ℕ) (took : TakesLowest set (Some q) left) where
  left_is : (k : ℕ) → bit k left ≡ (bit k set && not (eqb k q))
  left_is k = ap (bit k) took.2 ∙ clear_lowest 64 set q took.1 took.0 k

  pub taken_is : bit q set ≡ true
  taken_is = took.1.passes took.0

  pub left_within : (k : ℕ) → bit k left ≡ true → bit k set ≡ true
  left_within k p = and_left (bit k set) (not (eqb k q)) (sym (left_is k) ∙ p)

  pub left_without : (k : ℕ) → k ≡ q → bit k left ≡ false
  left_without k e = left_is k ∙ ap (λ (b : Bool). bit k set && not b) (eq-eqb k q e) ∙ and-false (bit k set)

  pub left_others : (k : ℕ) → k ≢ q → bit k left ≡ bit k set
  left_others k n = left_is k ∙ ap (λ (b : Bool). bit k set && not b) (ne_eqb k q n) ∙ and-true (bit k set)

module _ {S F : Type 0} (rest : S → ℕ) (g : Mut F (Bor ℕ × Unit {0}) Bool) (f : F) (keeps : (x : ℕ) (b : Bool) (f' : F) → CalledAt g f x b f' → f' ≡ f) where
  abbrev steps : S → Option ℕ → S → Type 0
  steps s r t = TakesLowest (rest s) r (rest t)

  abbrev calls : F → ℕ → F → Type 0
  calls p x q = CalledAt g p x false q

  keeps_at : (p : F) (x : ℕ) (b : Bool) (q : F) → p ≡ f → CalledAt g p x b q → q ≡ f
  keeps_at p x b q e call = keeps x b q (subst (λ (h : F). CalledAt g h x b q) e call)

  -- what is still to come was a member at first
  still : (xs : List ℕ) (s t : S) → Yields steps s xs t → (k : ℕ) → bit k (rest t) ≡ true → bit k (rest s) ≡ true
  still [] s t y k p = ap (λ (u : S). bit k (rest u)) y ∙ p
  still (x ∷ xs) s t y k p = left_within (rest s) x (rest y.0) y.1 k (still xs y.0 t y.2 k p)

  unchanged : (xs : List ℕ) (p q : F) → p ≡ f → FoldsTo calls p xs q → q ≡ f
  unchanged [] p q e folds = sym folds ∙ e
  unchanged (x ∷ xs) p q e folds = unchanged xs folds.0 q (keeps_at p x false folds.0 e folds.1) folds.2

  -- it may be called at each member
  pub find_asks : (s : S) → ((x : ℕ) → bit x (rest s) ≡ true → TakesAt g f x) → CallableWhileAt steps g false s f
  find_asks s takes =
      serves_by calls (λ xs q. q ≡ f) (λ xs q x v e call. keeps_at q x false v e call) steps (λ p x. TakesAt g p x) s f refl
      (λ xs t q x u y step e. subst (λ (p : F). TakesAt g p x) (sym e) (takes x (still xs s t y x (taken_is (rest t) x (rest u) step))))

  -- where each call answers by a test
  module _ (test : ℕ → Bool) (says : (x : ℕ) (b : Bool) (f' : F) → CalledAt g f x b f' → b ≡ test x) where
    says_at : (p : F) (x : ℕ) (b : Bool) (q : F) → p ≡ f → CalledAt g p x b q → b ≡ test x
    says_at p x b q e call = says x b q (subst (λ (h : F). CalledAt g h x b q) e call)

    -- what came failed the test
    failed : (xs : List ℕ) (s t : S) (p q : F) → p ≡ f → Yields steps s xs t → FoldsTo calls p xs q → (k : ℕ) → bit k (rest s) ≡ true → bit k (rest t) ≡ false → test k ≡ false
    failed [] s t p q e y folds k has hasNot = clash has (ap (λ (u : S). bit k (rest u)) y ∙ hasNot)
    failed (x ∷ xs) s t p q e y folds k has hasNot =
        by_equal k x (λ same. ap test same ∙ sym (says_at p x false folds.0 e folds.1))
        (λ other. failed xs y.0 t folds.0 q (keeps_at p x false folds.0 e folds.1) y.2 folds.2 k (left_others (rest s) x (rest y.0) y.1 k other ∙ has) hasNot)

    -- the first that passes is the lowest
    pub find_gives : (s : S) (r : Option ℕ) (u : S) → FindsItem steps g s f r u → FindsLowest (λ k. bit k (rest s) && test k) r
    find_gives s None u h = record {
      most = omega arith;
      passes = λ l. absurd (omega arith);
      before = λ k l. by_test (bit k (rest s))
          (λ has. ap₂ ◌&&◌ has (failed h.0 s h.2.0 f h.1 refl h.2.1 h.3 k has (ap (bit k) h.2.2.0 ∙ bit_zero k)))
          (λ hasNot. ap (λ (b : Bool). b && test k) hasNot);
    }
    find_gives s (Some x) u h =
        let step = h.2.2 in (
          step.0,
          record {
            most = omega (arith, step.0);
            passes = λ l. and_both (still h.0 s h.2.0 h.2.1 x (step.1.passes step.0)) (sym (says_at h.1 x true h.4.0 (unchanged h.0 f h.1 refl h.3) h.4.1));
            before = λ k l. by_test (bit k (rest s))
                (λ has. ap₂ ◌&&◌ has (failed h.0 s h.2.0 f h.1 refl h.2.1 h.3 k has (step.1.before k l)))
                (λ hasNot. ap (λ (b : Bool). b && test k) hasNot);
          },
        )
