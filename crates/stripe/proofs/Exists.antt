-- For every stripe there is exactly one encoded stripe with the same data cells, and its bytes are bytes.
use mathlib.Core.Path.{◌≡◌, refl, sym, ◌∙◌, subst}
use mathlib.Core.Logic.{◌≢◌}
use mathlib.Core.Bool.{true, false, cond}
use mathlib.Core.List.{List}
use Prim.Native.Nat.{ℕ, zero, suc, ◌/◌, ◌%◌, ◌<◌}
use native.Mathlib.Nat.{le_refl}
use native.Mathlib.Omega.{arith}
use lib.Dec.{eqb}
use lib.ListN.{length, get_or, get_or-eq_default}
use borrow.Author.Tests.{eq-eqb, ne_eqb}
use Rattle.xor.specs.Xor.{◌⊕◌}
use Rattle.xor.proofs.Cases.{by_test, by_less}
use Rattle.codes.specs.declared.Shape.{Shape}
use Rattle.codes.specs.Shape.{cells, equations, stripe_length, WellFormed}
use Rattle.codes.specs.Geometry.{cell_there, cell_of}
use Rattle.codes.specs.Encoded.{parity_cell, byte_at, is_parity, Solves}
use Rattle.codes.proofs.Ordered.{ordered}
use Rattle.codes.proofs.Parity.{sum_same, sum_byte}
use Rattle.stripe.specs.Encode.{EncodingOf}
use Rattle.stripe.specs.Write.{Written, Alone}
use Rattle.codes.proofs.Geometry.{byte_missing, byte_small, missing_plain}
use Rattle.codes.proofs.Built.{built, Blank, built_long, built_at, built_byte}
use Rattle.stripe.proofs.Encoding.{settled, holds, stays, one_encoding}
use Rattle.stripe.proofs.Writing.{written_by}

-- parity cells that are set to sums of bytes are bytes
settled_byte : (s : Shape) (q : ℕ) (f : ℕ → ℕ) → ((c : ℕ) → f c < 256) → (c : ℕ) → settled s q f c < 256
unfolding settled
settled_byte s zero f h c = h c
settled_byte s (suc q) f h c =
    by_test (eqb c (parity_cell s q)) (λ p. rw p (sum_byte s q (settled s q f) (λ d l. settled_byte s q f h d))) (λ p. rw p (settled_byte s q f h c))

module _ (s : Shape) (w : WellFormed s) (old : List ℕ) (long : length old ≡ stripe_length s) where
  -- byte t of cell c, with every parity cell set
  final : ℕ → ℕ → ℕ
  final t c = settled s (equations s) (λ d. byte_at s old d t) c

  -- 0 in the cells that don't exist, which are no parity cells
  blank : Blank s final
  unfolding final
  blank t lt c lc none = stays s w (λ d. byte_at s old d t) c (missing_plain s w c none) (equations s) (le_refl (equations s)) ∙ byte_missing s w old c t none

  encoding : List ℕ
  encoding = built s final

  encoding_at : (c : ℕ) → c < cells s → (t : ℕ) → t < s.cell → byte_at s encoding c t ≡ final t c
  unfolding encoding
  encoding_at = built_at s w final blank

  encodes : EncodingOf s old encoding
  unfolding encoding final
  encodes = record {
    long = built_long s final ∙ sym long;
    kept = record { same = λ c lc d t lt. encoding_at c lc t lt ∙ stays s w (λ k. byte_at s old k t) c d (equations s) (le_refl (equations s)) };
    encoded = record {
      holds = λ q lq t lt.
          encoding_at (parity_cell s q) ((ordered s w).inside q lq) t lt
          ∙ holds s w (λ k. byte_at s old k t) (equations s) (le_refl (equations s)) q lq
          ∙ sym (sum_same s q (λ c. byte_at s encoding c t) (final t) (λ c lc p. encoding_at c lc t lt));
    };
  }

  encoding_byte : ((i : ℕ) → get_or old i 0 < 256) → (i : ℕ) → get_or encoding i 0 < 256
  unfolding encoding final
  encoding_byte h i =
      by_less i (stripe_length s)
      (λ l. subst (λ (x : ℕ). x < 256) (sym (built_byte s final i l))
      (settled_byte s (equations s) (λ d. byte_at s old d (i % s.cell)) (λ d. byte_small s w old h d (i % s.cell)) (cell_of s (i / s.cell))))
      (λ l. subst (λ (x : ℕ). x < 256) (sym (get_or-eq_default encoding 0 (omega (arith, built_long s final)))) (omega arith))

  -- exactly one
  pub exactly_one : ((i : ℕ) → get_or old i 0 < 256)
      → (new : List ℕ) × EncodingOf s old new × ((i : ℕ) → get_or new i 0 < 256) × ((other : List ℕ) → EncodingOf s old other → other ≡ new)
  exactly_one h = (encoding, encodes, encoding_byte h, λ other e. one_encoding s w old other encoding long e encodes)

-- ---- the same of a small write: the difference alone, encoded, and the unit

-- x in cell c, and 0 elsewhere
abbrev pub point : ℕ → ℕ → ℕ → ℕ
point c x k = cond (eqb k c) x 0

module _ (s : Shape) (w : WellFormed s) (c : ℕ) (inside : c < cells s) (there : cell_there s c ≡ true) (plain : is_parity s c ≡ false) where
  -- x at cell c alone, encoded
  abbrev alone : ℕ → ℕ → ℕ
  alone x = settled s (equations s) (point c x)

  alone_own : (x : ℕ) → alone x c ≡ x
  alone_own x = stays s w (point c x) c plain (equations s) (le_refl (equations s)) ∙ rw (eq-eqb c c refl) refl

  alone_data : (x k : ℕ) → is_parity s k ≡ false → k ≢ c → alone x k ≡ 0
  alone_data x k p n = stays s w (point c x) k p (equations s) (le_refl (equations s)) ∙ rw (ne_eqb k c n) refl

  alone_solves : (x : ℕ) → Solves s (alone x)
  alone_solves x = holds s w (point c x) (equations s) (le_refl (equations s))

  pub unit_exists : Alone s c (alone 1)
  unit_exists = record { own = alone_own 1; zeros = λ k lk p n. alone_data 1 k p n; holds = alone_solves 1 }

  -- what is the XOR with it is written
  pub written_alone : (old bytes new : List ℕ) → length new ≡ length old
      → ((k : ℕ) → k < cells s → (t : ℕ) → t < s.cell → byte_at s new k t ≡ byte_at s old k t ⊕ alone (byte_at s old c t ⊕ get_or bytes t 0) k) → Written s c old bytes new
  written_alone old bytes =
      written_by s w c inside there old bytes (λ t. alone (byte_at s old c t ⊕ get_or bytes t 0))
      (λ t. alone_own (byte_at s old c t ⊕ get_or bytes t 0))
      (λ t. alone_data (byte_at s old c t ⊕ get_or bytes t 0))
      (λ t. alone_solves (byte_at s old c t ⊕ get_or bytes t 0))
