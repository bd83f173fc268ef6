-- What the parts of carrying out a job promise: the lost cell numbers are listed, the cells rebuilt, the answer's fields stored.
use Rattle.std.specs.Prelude.{◌≡◌, List, ℕ, length, get_or, take}
use Rattle.std.specs.List.{concat}
use Rattle.xor.specs.Runs.{Put}
use Rattle.rebuild.specs.Rebuild.{RebuildsCells}
use Rattle.format.specs.declared.Fields.{Fields}
use Rattle.format.specs.Format.{most_lost, Job, numbers, shape_of}
use Rattle.format.specs.Reading.{Holds}

-- the list begins with the numbers that these pairs of bytes are
pub record Lists (pairs : List (List ℕ)) (list : List ℕ) : Type 0 where
  pub long : length list ≡ most_lost
  pub says : numbers (take (length pairs) list) ≡ concat pairs

-- what the rebuild of the lost cells answers for the job whose fields these are, and the stripe that it leaves
abbrev pub Rebuilt : Fields → ℕ → List ℕ → Type 0
Rebuilt f answer stripe = (j : Job) → Holds j f → RebuildsCells (shape_of j) j.lost j.stripe answer stripe

-- new is old with these bytes from `at` on
abbrev pub Stored : List ℕ → ℕ → List ℕ → List ℕ → Type 0
Stored old at bytes new = Put old at (length bytes) (λ t. get_or bytes t 0) new
