-- The calls: what is wrong with the numbers comes first, and then what is decided of the map of lost cells.
use mathlib.Core.Path.{◌≡◌, refl, sym, ap, ◌∙◌}
use mathlib.Core.Logic.{◌≢◌}
use mathlib.Core.List.{List}
use mathlib.Core.Bool.{Bool}
use Prim.Native.Nat.{ℕ, ◌<◌}
use lib.ListN.{length}
use Rattle.xor.proofs.Cases.{by_equal}
use Rattle.codes.specs.declared.Shape.{Shape}
use Rattle.codes.specs.Shape.{cells, stripe_length}
use Rattle.refusals.specs.Refusals.{refusal, columns_faults}
use Rattle.codes.specs.Agree.{callers_columns}
use Rattle.rebuild.specs.Rebuild.{Decides, Rebuilds, RebuildsColumns}
use Rattle.rebuild.proofs.Deciding.{kept, zero_done, lost_same}
use Rattle.rebuild.proofs.Never.{columns_never}

pub rebuilds_refused : (s : Shape) (lost : ℕ → Bool) (wrong : ℕ) (old : List ℕ) (answer : ℕ) → answer ≡ wrong → answer ≢ 0 → Rebuilds s lost wrong old answer old
rebuilds_refused s lost wrong old answer e n = record { refused = λ _. (e, refl); decides = λ z. absurd (n (e ∙ z)) }

pub rebuilds_decided : (s : Shape) (lost lost' : ℕ → Bool) (wrong : ℕ) (old : List ℕ) (answer : ℕ) (new : List ℕ) → wrong ≡ 0 → ((c : ℕ) → c < cells s → lost c ≡ lost' c)
    → Decides s lost old answer new → Rebuilds s lost' wrong old answer new
rebuilds_decided s lost lost' wrong old answer new z same h = record {
  refused = λ n. absurd (n z);
  decides = λ _. lost_same s lost lost' same old answer new h;
}

-- of columns, which are never undetermined
pub rebuilds_columns : (s : Shape) (a b : ℕ) (old : List ℕ) (answer : ℕ) (new : List ℕ) → Rebuilds s (callers_columns s a b) (refusal (columns_faults s (length old) a b)) old answer new
    → RebuildsColumns s a b old answer new
rebuilds_columns s a b old answer new h = record { rebuilds = h; never = columns_never s a b old answer new h }

-- the stripe keeps its length
pub decided_long : (s : Shape) (lost : ℕ → Bool) (old : List ℕ) (answer : ℕ) (new : List ℕ) → length old ≡ stripe_length s → Decides s lost old answer new → length new ≡ length old
decided_long s lost old answer new long h = by_equal answer 0 (λ z. (zero_done s lost old answer new h z).1.is.long ∙ sym long) (λ n. ap length (kept s lost old answer new h n))
