-- The numbers of refusals: document 01, "Refusal numbers", and document 02.
use Rattle.std.specs.Prelude.{ℕ, Option, None, Some, Result, Ok, Err}
use Rattle.refusals.specs.declared.reason.Refusal.{Refusal}
use Rattle.refusals.specs.declared.reason.Refusal.TheVariants.{Code, Prime, DataColumns, OtherCode, OtherPrime, CellSize, Length, Outside, ParityCell, NewLength, PlanNotAccepted, NotRebuilt, Undetermined, Disagree, NoJob}

-- the number of a refusal
abbrev pub number_of : Refusal → ℕ
number_of Code = 1
number_of Prime = 2
number_of OtherCode = 3
number_of CellSize = 4
number_of Length = 5
number_of Outside = 6
number_of ParityCell = 7
number_of NewLength = 8
number_of PlanNotAccepted = 9
number_of NotRebuilt = 10
number_of Undetermined = 11
number_of Disagree = 12
number_of NoJob = 13
number_of DataColumns = 14
number_of OtherPrime = 15

-- the number that an answer gives: 0 where it is no refusal
abbrev pub number : {A : Type 0} → Result A Refusal → ℕ
number (Ok given) = 0
number (Err refusal) = number_of refusal

-- the number of a refusal that may be none: then 0
abbrev pub number_if : Option Refusal → ℕ
number_if None = 0
number_if (Some refusal) = number_of refusal
