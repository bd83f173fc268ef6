-- Reading a job: what follows each of its fields is known, and what the reading finds makes up a job.
use mathlib.Core.Path.{◌≡◌, refl, sym, ap, ap₂, ◌∙◌}
use mathlib.Core.List.{List, [], ◌∷◌, ◌++◌, append-nil}
use Prim.Native.Nat.{ℕ, zero, suc, ◌*◌, ◌/◌, ◌%◌, ◌≤◌}
use Rattle.std.specs.Simd.{first_chunks}
use Rattle.std.specs.List.{concat}
use Rattle.std.specs.Prelude.{None}
use native.Mathlib.Omega.{arith}
use lib.ListN.{length, get_or}
use Rattle.codes.specs.declared.Shape.{Shape}
use Rattle.format.specs.declared.Fields.{Fields}
use Rattle.format.specs.Format.{most_lost, most_stripe, absent_cell, two_bytes_of, field, numbers, CellSize, absent, given, Job, cell_field, job_bytes, Fits}
use Rattle.format.specs.Parts.{FieldFirst, NoSized, Begins, Ends}
use Rattle.format.specs.Reading.{Holds}
use Rattle.format.proofs.Parts.{Small, content_small, rest_small, back_small}
use Rattle.format.proofs.Bytes.{same_field, length_numbers, even_numbers, length_two}

-- fields 04 and 05 of a job
abbrev long_fields : Job → List ℕ
long_fields j = field 4 (numbers j.lost) ++ field 5 j.stripe

-- content of one byte is that byte
one_byte : (content : List ℕ) → length content ≡ 1 → content ≡ get_or content 0 0 ∷ []
one_byte [] l = absurd (omega arith)
one_byte (b ∷ []) l = refl
one_byte (b ∷ c ∷ more) l = absurd (omega arith)

-- bytes in chunks of two are all there
chunks_all : (k : ℕ) (b : List ℕ) → length b ≡ 2 * k → concat (first_chunks 2 k b) ≡ b
chunks_all zero [] l = refl
chunks_all zero (x ∷ b) l = absurd (omega arith)
chunks_all (suc k) [] l = absurd (omega arith)
chunks_all (suc k) (x ∷ []) l = absurd (omega arith)
chunks_all (suc k) (x ∷ y ∷ b) l = ap (λ (r : List ℕ). x ∷ y ∷ r) (chunks_all k b (omega arith))

no_more : (b : List ℕ) → length b ≡ 0 → b ≡ []
no_more [] l = refl
no_more (x ∷ b) l = absurd (omega arith)

module _ (input : List ℕ) (j : Job) (e : job_bytes j ≡ input) where
  -- a job begins with its code
  pub code_first : FieldFirst input 1 (j.code ∷ []) (field 2 (j.p ∷ []) ++ (cell_field j.cell ++ long_fields j))
  unfolding job_bytes
  code_first = sym e

  module _ (code after_code : List ℕ) (first : FieldFirst input 1 code after_code) where
    -- p follows it
    pub p_first : FieldFirst after_code 2 (j.p ∷ []) (cell_field j.cell ++ long_fields j)
    p_first = (same_field 1 1 code (j.code ∷ []) after_code _ (sym first ∙ code_first)).2

    -- and the cell size or what follows it after that
    after_p : (p rest : List ℕ) → FieldFirst after_code 2 p rest → rest ≡ cell_field j.cell ++ long_fields j
    after_p p rest second = (same_field 2 2 p (j.p ∷ []) rest _ (sym second ∙ p_first)).2

-- what follows a cell size that is given
after_given : (rest size others : List ℕ) → FieldFirst rest 3 size others → (c : CellSize) (a x : List ℕ) → rest ≡ cell_field c ++ (field 4 a ++ x) → others ≡ field 4 a ++ x
after_given rest size others f absent a x e = absurd (omega (arith, (same_field 3 4 size a others x (sym f ∙ e)).0))
after_given rest size others f (given n) a x e = (same_field 3 3 size (two_bytes_of n) others _ (sym f ∙ e)).2

-- what follows a cell size that is absent
after_absent : (rest : List ℕ) → NoSized rest 3 2 → (c : CellSize) (a x : List ℕ) → rest ≡ cell_field c ++ (field 4 a ++ x) → rest ≡ field 4 a ++ x
after_absent rest none absent a x e = e
after_absent rest none (given n) a x e = absurd (none (two_bytes_of n) (field 4 a ++ x) (length_two n) e)

module _ (input code after_code p rest : List ℕ) (first : FieldFirst input 1 code after_code) (second : FieldFirst after_code 2 p rest) (one : length code ≡ 1) (other : length p ≡ 1) where
  -- the input begins with the code and p
  begin : input ≡ field 1 (get_or code 0 0 ∷ []) ++ (field 2 (get_or p 0 0 ∷ []) ++ rest)
  begin = first ∙ ap₂ (λ (c x : List ℕ). field 1 c ++ x) (one_byte code one) (second ∙ ap (λ (c : List ℕ). field 2 c ++ rest) (one_byte p other))

  pub begins_given : (size others : List ℕ) → FieldFirst rest 3 size others → (cell : ℕ) → two_bytes_of cell ≡ size
      → Begins input (record { code = get_or code 0 0; p = get_or p 0 0; cell = cell; width = None }) others
  begins_given size others third cell e = record {
    size = given cell;
    cell = refl;
    full = refl;
    is = begin ∙ ap (λ (b : List ℕ). field 1 (get_or code 0 0 ∷ []) ++ (field 2 (get_or p 0 0 ∷ []) ++ b)) (third ∙ ap (λ (b : List ℕ). field 3 b ++ others) (sym e));
    only = λ j f. after_given rest size others third j.cell _ _ (after_p input j f code after_code first p rest second);
  }

  pub begins_absent : NoSized rest 3 2 → Begins input (record { code = get_or code 0 0; p = get_or p 0 0; cell = absent_cell; width = None }) rest
  begins_absent none = record {
    size = absent;
    cell = refl;
    full = refl;
    is = begin;
    only = λ j f. after_absent rest none j.cell _ _ (after_p input j f code after_code first p rest second);
  }

module _ (bytes content rest : List ℕ) (found : FieldFirst bytes 4 content rest × (length content ≤ 2 * most_lost)) where
  -- the end of a job has the lost cell numbers that were found, its stripe after them, and nothing more
  pub same_lost : (l : List (List ℕ)) (s : List ℕ) → Ends bytes l s → content ≡ concat l
  same_lost l s e = (same_field 4 4 content (concat l) rest _ (sym found.0 ∙ e.is)).1

  pub stripe_first : (l : List (List ℕ)) (s : List ℕ) → Ends bytes l s → FieldFirst rest 5 s []
  stripe_first l s e = (same_field 4 4 content (concat l) rest _ (sym found.0 ∙ e.is)).2 ∙ sym (append-nil (field 5 s))

  module _ (stripe others : List ℕ) (last : FieldFirst rest 5 stripe others × (length stripe ≤ most_stripe)) where
    pub nothing_after : (l : List (List ℕ)) (s : List ℕ) → Ends bytes l s → others ≡ []
    nothing_after l s e = (same_field 5 5 stripe s others [] (sym last.0 ∙ stripe_first l s e)).2

    -- what was found makes up the end of a job
    pub ends : length others ≡ 0 → (lost : List (List ℕ)) → lost ≡ first_chunks 2 (length content / 2) content → length lost ≡ length content / 2 → length content % 2 ≡ 0 → Ends bytes lost stripe
    ends end lost pairs count even =
        let whole : concat lost ≡ content = ap concat pairs ∙ chunks_all (length content / 2) content (omega arith) in
        record {
          few = omega (arith, found.1);
          two = omega (arith, ap length whole);
          short = last.1;
          is = found.0 ∙ ap₂ (λ (c r : List ℕ). field 4 c ++ r) (sym whole) (last.0 ∙ ap (λ (o : List ℕ). field 5 stripe ++ o) (no_more others end) ∙ append-nil (field 5 stripe));
        }

-- numbers, two bytes each
pub pairs_of : List ℕ → List (List ℕ)
pairs_of [] = []
pairs_of (n ∷ rest) = two_bytes_of n ∷ pairs_of rest

pairs_numbers : (l : List ℕ) → concat (pairs_of l) ≡ numbers l
unfolding pairs_of numbers
pairs_numbers [] = refl
pairs_numbers (n ∷ rest) = ap (λ (x : List ℕ). two_bytes_of n ++ x) (pairs_numbers rest)

length_pairs : (l : List ℕ) → length (pairs_of l) ≡ length l
unfolding pairs_of
length_pairs [] = refl
length_pairs (n ∷ rest) = omega (arith, length_pairs rest)

module _ (input : List ℕ) (s : Shape) (rest : List ℕ) (begins : Begins input s rest) where
  -- a job with these bytes ends with its lost cell numbers and its stripe
  pub job_ends : (j : Job) → Fits j → job_bytes j ≡ input → Ends rest (pairs_of j.lost) j.stripe
  job_ends j f e =
      let bytes = pairs_numbers j.lost in
      record {
        few = omega (arith, length_pairs j.lost, f.few);
        two = omega (arith, ap length bytes, length_numbers j.lost, length_pairs j.lost);
        short = f.short;
        is = begins.only j e ∙ ap (λ (x : List ℕ). field 4 x ++ field 5 j.stripe) (sym bytes);
      }

  -- what was found makes up a job
  pub holds : (f : Fields) → f.shape ≡ s → Ends rest f.lost.now f.stripe.now → Small input → (j : Job) × (job_bytes j ≡ input) × Holds j f
  unfolding job_bytes
  holds f shape e small =
      let found = even_numbers (concat f.lost.now) (omega (arith, e.two)) (content_small rest _ _ 4 begins_small e.is) in
      let count : length found.0 ≡ length f.lost.now = omega (arith, length_numbers found.0, ap length found.1, e.two) in
      let front : List ℕ → List ℕ = λ x. field 1 (s.code ∷ []) ++ (field 2 (s.p ∷ []) ++ (cell_field begins.size ++ x)) in
      let last = ap (λ (x : List ℕ). field 4 x ++ field 5 f.stripe.now) found.1 ∙ sym e.is in (
        record { code = s.code; p = s.p; cell = begins.size; lost = found.0; stripe = f.stripe.now },
        ap front last ∙ sym begins.is,
        record {
          fits = record { few = omega (arith, count, e.few); short = e.short };
          shape = shape ∙ (λ i. record { code = s.code; p = s.p; cell = begins.cell i; width = begins.full i });
          lost = sym found.1;
          count = sym count;
          stripe = refl;
        },
      )
    where
      begins_small : Small rest
      begins_small = back_small (cell_field begins.size) rest (rest_small _ _ _ 2 (rest_small _ _ _ 1 small begins.is) refl)
