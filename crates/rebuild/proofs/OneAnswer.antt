-- Any two results that a call's contract allows are equal: the answer, and every lent byte.
use mathlib.Core.Path.{◌≡◌, refl, sym, ap, ◌∙◌}
use mathlib.Core.Logic.{◌≢◌}
use mathlib.Core.List.{List}
use mathlib.Core.Bool.{Bool}
use Prim.Native.Nat.{ℕ}
use lib.ListN.{length}
use Rattle.xor.proofs.Cases.{by_equal}
use Rattle.codes.specs.declared.Shape.{Shape}
use Rattle.codes.specs.Shape.{WellFormed}
use Rattle.codes.specs.Encoded.{byte_at}
use Rattle.std.specs.Prelude.{Result}
use Rattle.refusals.specs.declared.reason.Refusal.{Refusal}
use Rattle.refusals.specs.Number.{number}
use Rattle.refusals.specs.Refusals.{refusal, cells_faults, columns_faults}
use Rattle.refusals.proofs.Answer.{same_answer}
use Rattle.refusals.proofs.Refused.{cells_accepted, columns_accepted}
use Rattle.codes.proofs.Parity.{same_bytes}
use Rattle.codes.specs.Agree.{Agree, callers_columns}
use Rattle.decide.specs.Survivors.{Undetermined, Restores, named}
use Rattle.rebuild.specs.Rebuild.{Decides, undetermined, disagree, restored, Rebuilds, RebuildsCells, RebuildsColumns}
use Rattle.rebuild.proofs.Deciding.{agree_sym, agree_trans, restores_also, eleven, determined, twelve, done, kept, zero_done}

-- ---- rebuild

-- at most one encoded stripe agrees with the survivors
pub restored_one : (s : Shape) → WellFormed s → (lost : ℕ → Bool) → (Undetermined s lost → ⊥) → (old x y : List ℕ) → Restores s lost old x → Restores s lost old y → x ≡ y
restored_one s w lost determined old x y hx hy = same_bytes s w x y hx.is.long hy.is.long (λ c l t lt. by_equal (byte_at s x c t) (byte_at s y c t) (λ e. e) (other c t))
  where
    other : (c t : ℕ) → byte_at s x c t ≢ byte_at s y c t → byte_at s x c t ≡ byte_at s y c t
    other c t n = absurd (determined (record {
      one = x;
      other = y;
      one_is = hx.is;
      other_is = hy.is;
      agree = agree_trans s lost x old y (agree_sym s lost old x hx.agree) hy.agree;
      differ = λ e. n (ap (λ (z : List ℕ). byte_at s z c t) e);
    }))

-- decisions on two stripes with the same survivors
module _ (s : Shape) (lost : ℕ → Bool) (old old' : List ℕ) (agree : Agree s lost old old') (a b : ℕ) (x y : List ℕ) where
  answers_same : Decides s lost old a x → Decides s lost old' b y → a ≡ b
  answers_same (undetermined u e k) hb = e ∙ sym (by_equal b 11 (λ z. z) (λ n. absurd (determined s lost old' b y hb n u)))
  answers_same (disagree d n e k) hb =
      e ∙ sym (by_equal b 12 (λ z. z) (λ m. absurd (n y (restores_also s lost old' old y (agree_sym s lost old old' agree) (done s lost old' b y hb (λ z. d (eleven s lost old' b y hb z)) m).1))))
  answers_same (restored d r e) hb =
      e ∙ sym (done s lost old' b y hb (λ z. d (eleven s lost old' b y hb z)) (λ z. twelve s lost old' b y hb z x (restores_also s lost old old' x agree r))).0

  -- the same numbers, and the same survivors: the same answer, and where it is 0 the same bytes
  pub rebuilds_alike : (wrong : ℕ) → (wrong ≡ 0 → WellFormed s) → Rebuilds s lost wrong old a x → Rebuilds s lost wrong old' b y → (a ≡ b) × (a ≡ 0 → x ≡ y)
  rebuilds_alike wrong formed ha hb = by_equal wrong 0 right (λ n. ((ha.refused n).0 ∙ sym (hb.refused n).0, λ z. absurd (n (sym (ha.refused n).0 ∙ z))))
    where
      right : wrong ≡ 0 → (a ≡ b) × (a ≡ 0 → x ≡ y)
      right e =
          let same = answers_same (ha.decides e) (hb.decides e) in (
            same,
            λ z. let first = zero_done s lost old a x (ha.decides e) z in
                let second = zero_done s lost old' b y (hb.decides e) (sym same ∙ z) in
                restored_one s (formed e) lost first.0 old x y first.1 (restores_also s lost old' old y (agree_sym s lost old old' agree) second.1),
          )

-- a refusal leaves every byte
rebuilds_kept : (s : Shape) (lost : ℕ → Bool) (wrong : ℕ) (old : List ℕ) (answer : ℕ) (new : List ℕ) → Rebuilds s lost wrong old answer new → answer ≢ 0 → new ≡ old
rebuilds_kept s lost wrong old answer new h n = by_equal wrong 0 (λ z. kept s lost old answer new (h.decides z) n) (λ k. (h.refused k).1)

rebuilds_one : (s : Shape) (lost : ℕ → Bool) (wrong : ℕ) (old : List ℕ) → (wrong ≡ 0 → WellFormed s) → (a b : ℕ) (x y : List ℕ)
    → Rebuilds s lost wrong old a x → Rebuilds s lost wrong old b y → (a ≡ b) × (x ≡ y)
rebuilds_one s lost wrong old formed a b x y ha hb =
    let alike = rebuilds_alike s lost old old (record { same = λ c l e t lt. refl }) a b x y wrong formed ha hb in
    (alike.0, by_equal a 0 alike.1 (λ n. rebuilds_kept s lost wrong old a x ha n ∙ sym (rebuilds_kept s lost wrong old b y hb (λ z. n (alike.0 ∙ z)))))

pub cells_one : (s : Shape) (numbers old : List ℕ) (a b : ℕ) (x y : List ℕ) → RebuildsCells s numbers old a x → RebuildsCells s numbers old b y → (a ≡ b) × (x ≡ y)
cells_one s numbers old = rebuilds_one s (named s numbers) (refusal (cells_faults s (length old) numbers)) old (λ e. (cells_accepted s (length old) numbers e).0)

pub columns_one : (s : Shape) (i j : ℕ) (old : List ℕ) (a b : ℕ) (x y : List ℕ) → RebuildsColumns s i j old a x → RebuildsColumns s i j old b y → (a ≡ b) × (x ≡ y)
columns_one s i j old a b x y ha hb =
    rebuilds_one s (callers_columns s i j) (refusal (columns_faults s (length old) i j)) old (λ e. (columns_accepted s (length old) i j e).0) a b x y ha.rebuilds hb.rebuilds

-- ---- of what the calls answer, whose numbers the contracts speak of

pub cells_told : (s : Shape) (numbers old : List ℕ) (a b : Result (Unit {0}) Refusal) (x y : List ℕ) → RebuildsCells s numbers old (number a) x → RebuildsCells s numbers old (number b) y → (a ≡ b) × (x ≡ y)
cells_told s numbers old a b x y ha hb = let both = cells_one s numbers old (number a) (number b) x y ha hb in (same_answer a b both.0, both.1)

pub columns_told : (s : Shape) (i j : ℕ) (old : List ℕ) (a b : Result (Unit {0}) Refusal) (x y : List ℕ) → RebuildsColumns s i j old (number a) x → RebuildsColumns s i j old (number b) y → (a ≡ b) × (x ≡ y)
columns_told s i j old a b x y ha hb = let both = columns_one s i j old (number a) (number b) x y ha hb in (same_answer a b both.0, both.1)
