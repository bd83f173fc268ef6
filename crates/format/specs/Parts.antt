-- How bytes begin with a field, with a job's numbers, and how its last two fields end them.
use Rattle.std.specs.Prelude.{◌≡◌, List, [], ◌∷◌, ◌++◌, ℕ, ◌*◌, ◌≤◌, length, None}
use Rattle.std.specs.List.{concat}
use Rattle.codes.specs.declared.Shape.{Shape}
use Rattle.format.specs.declared.Tag.{Tag}
use Rattle.format.specs.declared.Tag.TheVariants.{Code, Prime, CellSize, Lost, Stripe, Answer}
use Rattle.format.specs.Format.{most_lost, most_stripe, field, numbers, Job, cell_field, cell_size, job_bytes}
use Rattle.format.specs.Format as format

-- the tag of each field
abbrev pub tag_number : Tag → ℕ
tag_number Code = 1
tag_number Prime = 2
tag_number CellSize = 3
tag_number Lost = 4
tag_number Stripe = 5
tag_number Answer = 6

-- the bytes begin with a field with this tag and this content, and the rest follows
abbrev pub FieldFirst : List ℕ → ℕ → List ℕ → List ℕ → Type 0
FieldFirst bytes tag content rest = bytes ≡ field tag content ++ rest

-- they begin with no field with this tag and at most so many bytes of content
abbrev pub NoField : List ℕ → ℕ → ℕ → Type 0
NoField bytes tag most = (content rest : List ℕ) → length content ≤ most → FieldFirst bytes tag content rest → ⊥

-- nor with one of just so many bytes
abbrev pub NoSized : List ℕ → ℕ → ℕ → Type 0
NoSized bytes tag n = (content rest : List ℕ) → length content ≡ n → FieldFirst bytes tag content rest → ⊥

-- the input begins with the numbers of a job whose stripe has this shape, and the rest follows, in any job with these bytes
pub record Begins (input : List ℕ) (s : Shape) (rest : List ℕ) : Type 0 where
  pub size : format.CellSize
  pub cell : s.cell ≡ cell_size size
  pub full : s.width ≡ None
  pub is : input ≡ field 1 (s.code ∷ []) ++ (field 2 (s.p ∷ []) ++ (cell_field size ++ rest))
  pub only : (j : Job) → job_bytes j ≡ input → rest ≡ field 4 (numbers j.lost) ++ field 5 j.stripe

-- the input is no job's
abbrev pub NoNumbers : List ℕ → Type 0
NoNumbers input = (j : Job) → job_bytes j ≡ input → ⊥

-- the bytes are fields 04 and 05, with these lost cell numbers in two bytes each and this stripe, within the limits
pub record Ends (bytes : List ℕ) (lost : List (List ℕ)) (stripe : List ℕ) : Type 0 where
  pub few : length lost ≤ most_lost
  pub two : length (concat lost) ≡ 2 * length lost
  pub short : length stripe ≤ most_stripe
  pub is : bytes ≡ field 4 (concat lost) ++ field 5 stripe

-- they are no end of a job
abbrev pub NoTail : List ℕ → Type 0
NoTail bytes = (lost : List (List ℕ)) (stripe : List ℕ) → Ends bytes lost stripe → ⊥
