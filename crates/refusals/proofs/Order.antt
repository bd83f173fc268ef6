-- The law of the order: faults that are listed in the order of their refusals give the number of the first that applies. Whether a list stands in that
-- order is a test on its numbers alone. A call whose own faults come after others has what those give, or else the first of its own.
use mathlib.Core.Path.{◌≡◌, refl, sym, ap, ◌∙◌}
use mathlib.Core.Logic.{◌≢◌}
use mathlib.Core.List.{List, [], ◌∷◌, ◌++◌}
use mathlib.Core.Bool.{Bool, true, false, cond, not, ◌&&◌, ◌||◌, and-false}
use Prim.Native.Nat.{ℕ, zero, suc, ◌≤◌, ◌<◌}
use native.Mathlib.Omega.{arith}
use lib.Dec.{eqb, leb, ltb}
use borrow.Author.Tests.{le-leb, lt-leb, ltb-true, eqb-true, not-true}
use Rattle.xor.proofs.Cases.{by_test, by_equal, clash, and_left, and_right, or_left}
use Rattle.refusals.specs.Refusals.{Fault, fault, order, applies, first_of, refusal}

-- whether a fault has number n
abbrev pub among : ℕ → List Fault → Bool
among n [] = false
among n (f ∷ faults) = eqb f.number n || among n faults

-- whether number m is listed, and no fault has a number that is listed before it
abbrev pub leads : List ℕ → ℕ → List Fault → Bool
leads [] m faults = false
leads (n ∷ numbers) m faults = eqb m n || (not (among n faults) && leads numbers m faults)

-- whether faults are listed in the order of their refusals
abbrev pub is_in_order : List Fault → Bool
is_in_order [] = true
is_in_order (f ∷ faults) = ltb 0 f.number && (leads order f.number faults && is_in_order faults)

-- the number of the first fault that applies; 0 where none does
abbrev pub first : List Fault → ℕ
first [] = 0
first (f ∷ faults) = cond f.applies f.number (first faults)

-- no fault applies
abbrev pub None : List Fault → Type 0
None [] = Unit {0}
None (f ∷ faults) = (f.applies ≡ false) × None faults

-- ---- faults in order give the first that applies

not_among : (n : ℕ) (faults : List Fault) → among n faults ≡ false → applies faults n ≡ false
unfolding applies
not_among n [] e = refl
not_among n (f ∷ faults) e =
    by_test (eqb f.number n) (λ same. clash (or_left (among n faults) same) e) (λ other. rw other (not_among n faults (rw other at e)))

-- a fault that does not apply counts for nothing
left_out : (numbers : List ℕ) (f : Fault) (faults : List Fault) → f.applies ≡ false → first_of numbers (f ∷ faults) ≡ first_of numbers faults
unfolding first_of applies
left_out [] f faults off = refl
left_out (n ∷ numbers) f faults off = rw (left_out numbers f faults off, off, and-false (eqb f.number n)) refl

-- one that applies is given where no other has a number before its own
is_given : (numbers : List ℕ) (f : Fault) (faults : List Fault) → leads numbers f.number faults ≡ true → f.applies ≡ true → first_of numbers (f ∷ faults) ≡ f.number
unfolding first_of applies
is_given [] f faults h on = clash h refl
is_given (n ∷ numbers) f faults h on =
    by_test (eqb f.number n)
    (λ e. rw (on, e) (sym (eqb-true f.number n e)))
    (λ e. let later : (not (among n faults) && leads numbers f.number faults) ≡ true = rw e at h in
    rw (e, not_among n faults (not-true (among n faults) (and_left (not (among n faults)) (leads numbers f.number faults) later)))
    (is_given numbers f faults (and_right (not (among n faults)) (leads numbers f.number faults) later) on))

module _ (f : Fault) (faults : List Fault) (h : is_in_order (f ∷ faults) ≡ true) where
  listed_right : (0 < f.number) × (leads order f.number faults ≡ true) × (is_in_order faults ≡ true)
  listed_right =
      let rest = and_right (ltb 0 f.number) (leads order f.number faults && is_in_order faults) h in
      (ltb-true 0 f.number (and_left (ltb 0 f.number) (leads order f.number faults && is_in_order faults) h), and_left (leads order f.number faults) (is_in_order faults) rest, and_right (leads order f.number faults) (is_in_order faults) rest)

pub in_order : (faults : List Fault) → is_in_order faults ≡ true → refusal faults ≡ first faults
unfolding refusal first_of order applies
in_order [] h = refl
in_order (f ∷ faults) h =
    by_test f.applies
    (λ on. is_given order f faults (listed_right f faults h).1 on ∙ rw on refl)
    (λ off. left_out order f faults off ∙ in_order faults (listed_right f faults h).2 ∙ rw off refl)

-- where nothing is given none applies
none_applies : (faults : List Fault) → is_in_order faults ≡ true → first faults ≡ 0 → None faults
none_applies [] h e = tt
none_applies (f ∷ faults) h e =
    by_test f.applies
    (λ on. let zero-given : f.number ≡ 0 = rw on at e in absurd (omega (arith, (listed_right f faults h).0)))
    (λ off. (off, none_applies faults (listed_right f faults h).2 (rw off at e)))

-- ---- a call with faults of its own after others

-- what the first give, or else the others
or_else : ℕ → ℕ → ℕ
or_else zero x = x
or_else (suc n) x = suc n

some_first : (n x : ℕ) → n ≢ 0 → or_else n x ≡ n
unfolding or_else
some_first zero x k = absurd (k refl)
some_first (suc n) x k = refl

first_append : (early late : List Fault) → is_in_order early ≡ true → first (early ++ late) ≡ or_else (first early) (first late)
unfolding or_else
first_append [] late h = refl
first_append (f ∷ early) late h =
    by_test f.applies
    (λ on. rw (on, some_first f.number (first late) (λ z. omega (arith, (listed_right f early h).0))) refl)
    (λ off. rw off (first_append early late (listed_right f early h).2))

-- number r is that of the first fault that applies
pub record Gives (faults : List Fault) (r : ℕ) : Type 0 where
  pub given : r ≡ first faults

-- a list that a call has by itself
module _ (faults : List Fault) (h : is_in_order faults ≡ true) where
  pub alone : {r : ℕ} → Gives faults r → r ≡ refusal faults
  alone g = g.given ∙ sym (in_order faults h)

  pub gives : {r : ℕ} → r ≡ refusal faults → Gives faults r
  gives e = record { given = e ∙ in_order faults h }

  pub none_of : refusal faults ≡ 0 → None faults
  none_of e = none_applies faults h (sym (in_order faults h) ∙ e)

-- what comes after others where none of those apply
none_late : (early late : List Fault) → None (early ++ late) → None late
none_late [] late n = n
none_late (f ∷ early) late n = none_late early late n.1

-- the refusals of a call that has faults of its own after others
pub record After (early late all : List Fault) : Type 0 where
  pub earlier : {r : ℕ} → r ≡ refusal early → r ≢ 0 → r ≡ refusal all
  pub own : {r : ℕ} → refusal early ≡ 0 → Gives late r → r ≡ refusal all
  pub none : refusal all ≡ 0 → (refusal early ≡ 0) × None late

pub after : (early late : List Fault) → is_in_order early ≡ true → is_in_order (early ++ late) ≡ true → After early late (early ++ late)
unfolding or_else
after early late h h' =
    record {
      earlier = λ e k. sym (whole ∙ ap (λ (x : ℕ). or_else x (first late)) (sym e) ∙ some_first _ (first late) k);
      own = λ right e. e.given ∙ sym (whole ∙ ap (λ (x : ℕ). or_else x (first late)) right);
      none = λ e. (
        by_equal (refusal early) 0 (λ z. z) (λ k. absurd (k (sym (whole ∙ some_first (refusal early) (first late) k) ∙ e))),
        none_late early late (none_of (early ++ late) h' e),
      );
    }
  where
    whole : refusal (early ++ late) ≡ or_else (refusal early) (first late)
    whole = in_order (early ++ late) h' ∙ first_append early late h ∙ ap (λ (x : ℕ). or_else x (first late)) (sym (in_order early h))

-- a call's first own fault: it applies, or the next decide
module _ {n : ℕ} {applies : Bool} {late : List Fault} where
  pub hit : applies ≡ true → Gives (fault n applies ∷ late) n
  hit on = record { given = rw on refl }

  pub miss : {r : ℕ} → applies ≡ false → Gives late r → Gives (fault n applies ∷ late) r
  miss off g = record { given = rw off g.given }

-- faults that stand between: they decide where one of them applies, and else the next
module _ (early late : List Fault) (h : is_in_order early ≡ true) where
  pub decides : {r : ℕ} → Gives early r → r ≢ 0 → Gives (early ++ late) r
  decides g k = record { given = sym (first_append early late h ∙ ap (λ (x : ℕ). or_else x (first late)) (sym g.given) ∙ some_first _ (first late) k) }

  pub passes : {r : ℕ} → Gives early 0 → Gives late r → Gives (early ++ late) r
  unfolding or_else
  passes none g = record { given = g.given ∙ sym (first_append early late h ∙ ap (λ (x : ℕ). or_else x (first late)) (sym none.given)) }

pub right : Gives [] 0
right = record { given = refl }

-- a number that is held to a counted bound
module _ {counted bound n : ℕ} (e : counted ≡ bound) where
  pub beyond : counted ≤ n → leb bound n ≡ true
  beyond l = le-leb bound n (omega arith)

  pub inside : n < counted → leb bound n ≡ false
  inside l = lt-leb bound n (omega arith)
