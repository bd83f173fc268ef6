-- Bytes that begin with a field: the byte of its tag, the number of its length, its content and what follows.
use mathlib.Core.Path.{◌≡◌, sym, ap, ap₂, ◌∙◌, subst}
use mathlib.Core.List.{List, [], ◌∷◌, ◌++◌}
use Prim.Native.Nat.{ℕ, ◌+◌, ◌≤◌, ◌<◌}
use native.Mathlib.Omega.{arith}
use lib.ListN.{length, get_or, drop, length-append, take-append-drop, get_or-append, get_or-eq_default}
use lib.Seq.{get_or-append-add}
use Rattle.std.specs.Borrow.{Bor}
use Rattle.xor.proofs.Cases.{by_less}
use Rattle.std.specs.Prelude.{Option, Some, None, MatchOption}
use Rattle.std.specs.List.{IsSplitAt}
use Rattle.format.specs.Format.{two_bytes_of, field}
use Rattle.format.specs.Parts.{FieldFirst, NoField}
use Rattle.format.proofs.Bytes.{same_two}

-- the head of a field: its tag, and its length in two bytes
pub record Head (bytes : List ℕ) (tag size : ℕ) (after : List ℕ) : Type 0 where
  pub long : 3 ≤ length bytes
  pub tag_is : get_or bytes 0 0 ≡ tag
  pub size_is : two_bytes_of size ≡ get_or bytes 1 0 ∷ get_or bytes 2 0 ∷ []
  pub after_is : drop 3 bytes ≡ after

-- bytes that begin with a field have its head
pub head_there : (bytes : List ℕ) (tag : ℕ) (content rest : List ℕ) → FieldFirst bytes tag content rest → Head bytes tag (length content) (content ++ rest)
unfolding field two_bytes_of
head_there bytes tag content rest e = record {
  long = omega (arith, ap length e);
  tag_is = ap (λ (b : List ℕ). get_or b 0 0) e;
  size_is = ap (λ (b : List ℕ). get_or b 1 0 ∷ get_or b 2 0 ∷ []) (sym e);
  after_is = ap (drop 3) e;
}

-- bytes that have the head of a field begin with it
field_there : (bytes : List ℕ) (tag : ℕ) (content rest : List ℕ) → Head bytes tag (length content) (content ++ rest) → FieldFirst bytes tag content rest
unfolding field two_bytes_of
field_there [] tag content rest h = absurd (omega (arith, h.long))
field_there (t ∷ []) tag content rest h = absurd (omega (arith, h.long))
field_there (t ∷ high ∷ []) tag content rest h = absurd (omega (arith, h.long))
field_there (t ∷ high ∷ low ∷ others) tag content rest h = λ i. h.tag_is i ∷ (sym h.size_is i ++ h.after_is i)

-- the field that the head tells of lies in the bytes, or they are too few
pub field_split : (bytes others : List ℕ) (tag size most : ℕ) → Head bytes tag size others → size ≤ most → (r : Option (Bor (List ℕ) × Bor (List ℕ)))
    → MatchOption r (length others < size) (λ p. IsSplitAt others size p.0.now p.1.now)
    → MatchOption r (NoField bytes tag most) (λ p. FieldFirst bytes tag p.0.now p.1.now × (length p.0.now ≤ most))
field_split bytes others tag size most head short None few = λ content rest l f.
    let h = head_there bytes tag content rest f in
    let same = same_two (length content) size (h.size_is ∙ sym head.size_is) in
    omega (arith, same, ap length (sym head.after_is ∙ h.after_is), length-append content rest, few)
field_split bytes others tag size most head short (Some p) parts = (
  field_there bytes tag p.0.now p.1.now (record {
    long = head.long;
    tag_is = head.tag_is;
    size_is = ap two_bytes_of parts.3 ∙ head.size_is;
    after_is = head.after_is ∙ sym (take-append-drop size others) ∙ ap₂ ◌++◌ (sym parts.1) (sym parts.2);
  }),
  omega (arith, parts.3),
)

-- ---- the content of a field of bytes, and what follows it, are bytes

abbrev pub Small : List ℕ → Type 0
Small bytes = (i : ℕ) → get_or bytes i 0 < 256

front_small : (a b : List ℕ) → Small (a ++ b) → Small a
front_small a b small i =
    by_less i (length a) (λ l. rw (← get_or-append a b 0 i l) (small i)) (λ l. rw (get_or-eq_default a 0 l) (omega arith))

pub back_small : (a b : List ℕ) → Small (a ++ b) → Small b
back_small a b small i = rw (← get_or-append-add a b i 0) (small (length a + i))

pub content_small : (bytes content rest : List ℕ) (tag : ℕ) → Small bytes → FieldFirst bytes tag content rest → Small content
unfolding field two_bytes_of
content_small bytes content rest tag small e i =
    front_small content rest (back_small (tag ∷ two_bytes_of (length content)) (content ++ rest) (subst Small e small)) i

pub rest_small : (bytes content rest : List ℕ) (tag : ℕ) → Small bytes → FieldFirst bytes tag content rest → Small rest
rest_small bytes content rest tag small e = back_small (field tag content) rest (subst Small e small)
