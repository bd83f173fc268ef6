-- Laws of a decision about lost cells: it depends on which cells are lost, and on what the survivors have.
use mathlib.Core.Path.{◌≡◌, sym, ◌∙◌}
use mathlib.Core.Logic.{◌≢◌}
use mathlib.Core.List.{List}
use mathlib.Core.Bool.{Bool}
use Prim.Native.Nat.{ℕ, ◌<◌}
use native.Mathlib.Omega.{arith}
use Rattle.codes.specs.declared.Shape.{Shape}
use Rattle.codes.specs.Shape.{cells}
use Rattle.codes.specs.Agree.{Agree}
use Rattle.decide.specs.Survivors.{Undetermined, Restores}
use Rattle.rebuild.specs.Rebuild.{Decides, undetermined, disagree, restored}

-- ---- survivors

module _ (s : Shape) (lost : ℕ → Bool) where
  pub agree_sym : (a b : List ℕ) → Agree s lost a b → Agree s lost b a
  agree_sym a b h = record { same = λ c l e t lt. sym (h.same c l e t lt) }

  pub agree_trans : (a b c : List ℕ) → Agree s lost a b → Agree s lost b c → Agree s lost a c
  agree_trans a b c h k = record { same = λ d l e t lt. h.same d l e t lt ∙ k.same d l e t lt }

  -- what restores a stripe restores any other with the same survivors
  pub restores_also : (old old' x : List ℕ) → Agree s lost old old' → Restores s lost old x → Restores s lost old' x
  restores_also old old' x h r = record { is = r.is; agree = agree_trans old' old x (agree_sym old old' h) r.agree }

  -- what an answer says
  module _ (old : List ℕ) (answer : ℕ) (new : List ℕ) where
    pub eleven : Decides s lost old answer new → answer ≡ 11 → Undetermined s lost
    eleven (undetermined u a k) e = u
    eleven (disagree d n a k) e = absurd (omega arith)
    eleven (restored d r a) e = absurd (omega arith)

    pub determined : Decides s lost old answer new → answer ≢ 11 → Undetermined s lost → ⊥
    determined (undetermined u a k) n = absurd (n a)
    determined (disagree d n' a k) n = d
    determined (restored d r a) n = d

    pub twelve : Decides s lost old answer new → answer ≡ 12 → (x : List ℕ) → Restores s lost old x → ⊥
    twelve (undetermined u a k) e = absurd (omega arith)
    twelve (disagree d n a k) e = n
    twelve (restored d r a) e = absurd (omega arith)

    pub done : Decides s lost old answer new → answer ≢ 11 → answer ≢ 12 → (answer ≡ 0) × Restores s lost old new
    done (undetermined u a k) n m = absurd (n a)
    done (disagree d n' a k) n m = absurd (m a)
    done (restored d r a) n m = (a, r)

    -- any other answer than 0 leaves every byte
    pub kept : Decides s lost old answer new → answer ≢ 0 → new ≡ old
    kept (undetermined u a k) n = k
    kept (disagree d n' a k) n = k
    kept (restored d r a) n = absurd (n a)

    pub zero_done : Decides s lost old answer new → answer ≡ 0 → (Undetermined s lost → ⊥) × Restores s lost old new
    zero_done h z = (determined h (λ e. omega arith), (done h (λ e. omega arith) (λ e. omega arith)).1)

-- ---- the same cells lost

module _ (s : Shape) where
  agree_same : (lost lost' : ℕ → Bool) → ((c : ℕ) → c < cells s → lost c ≡ lost' c) → (a b : List ℕ) → Agree s lost a b → Agree s lost' a b
  agree_same lost lost' same a b h = record { same = λ c l e. h.same c l (same c l ∙ e) }

  restores_same : (lost lost' : ℕ → Bool) → ((c : ℕ) → c < cells s → lost c ≡ lost' c) → (old x : List ℕ) → Restores s lost old x → Restores s lost' old x
  restores_same lost lost' same old x r = record { is = r.is; agree = agree_same lost lost' same old x r.agree }

  pub undetermined_same : (lost lost' : ℕ → Bool) → ((c : ℕ) → c < cells s → lost c ≡ lost' c) → Undetermined s lost → Undetermined s lost'
  undetermined_same lost lost' same u = record {
    one = u.one;
    other = u.other;
    one_is = u.one_is;
    other_is = u.other_is;
    agree = agree_same lost lost' same u.one u.other u.agree;
    differ = u.differ;
  }

  -- the same decision for a map that tells the same cells
  pub lost_same : (lost lost' : ℕ → Bool) → ((c : ℕ) → c < cells s → lost c ≡ lost' c) → (old : List ℕ) (answer : ℕ) (new : List ℕ)
      → Decides s lost old answer new → Decides s lost' old answer new
  lost_same lost lost' same old answer new (undetermined u a k) = undetermined (undetermined_same lost lost' same u) a k
  lost_same lost lost' same old answer new (disagree d n a k) =
      disagree (λ u. d (undetermined_same lost' lost (λ c l. sym (same c l)) u)) (λ x r. n x (restores_same lost' lost (λ c l. sym (same c l)) old x r)) a k
  lost_same lost lost' same old answer new (restored d r a) = restored (λ u. d (undetermined_same lost' lost (λ c l. sym (same c l)) u)) (restores_same lost lost' same old new r) a
