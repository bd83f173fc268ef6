-- What the exported functions promise where their answers differ in form from the Rattle calls': enums in numbers.
use Rattle.std.specs.Prelude.{◌≡◌, ℕ, cond, eqb, None, Some, Result, Ok, Err}
use Rattle.codes.specs.declared.Shape.{Shape}
use Rattle.refusals.specs.declared.reason.Refusal.{Refusal}
use Rattle.refusals.specs.Number.{number_of}
use Rattle.bad.specs.declared.BadColumn.{BadColumn}
use Rattle.bad.specs.declared.BadColumn.TheVariants.{Clean, Column, Unexplained}
use Rattle.plan.specs.declared.ReadPlan.{ReadPlan}
use Rattle.show.specs.declared.ShownAt.{ShownAt}
use Rattle.show.specs.declared.ShownAt.TheVariants.{Stripe, Spare}
use Rattle.zijraduf.specs.declared.ShapeNumbers.{ShapeNumbers}
use Rattle.zijraduf.specs.declared.Count.{Count}
use Rattle.zijraduf.specs.declared.Found.{Found}
use Rattle.zijraduf.specs.declared.Planned.{Planned}
use Rattle.zijraduf.specs.declared.Part.{Part}

-- the shape that numbers describe: a number m of data columns is given where `given` is not 0, and is not looked at where it is
abbrev pub shape_from : ShapeNumbers → Shape
shape_from n = record { code = n.code; p = n.p; cell = n.cell; width = cond (eqb n.given 0) None (Some n.m) }

-- what is promised of the shape that the numbers describe
pub record Told (numbers : ShapeNumbers) (P : Shape → Type 0) : Type 0 where
  pub shape : Shape
  pub is : shape ≡ shape_from numbers
  pub so : P shape

-- an exported function gives the numbers of an answer that the Rattle call may give
pub record InNumbers {A B : Type 0} (numbers : A → B) (Allowed : A → Type 0) (answer : B) : Type 0 where
  pub given : A
  pub allowed : Allowed given
  pub is : answer ≡ numbers given

-- a count or a refusal in two numbers: the refusal number, and the count, which is 0 where the call is refused
abbrev pub count_in_numbers : Result ℕ Refusal → Count
count_in_numbers (Ok n) = record { refusal = 0; count = n }
count_in_numbers (Err why) = record { refusal = number_of why; count = 0 }

-- bad column's answer in three numbers: the refusal number; 1 clean, 2 a column, 3 unexplained, 0 refused; the column
abbrev pub found_in_numbers : Result BadColumn Refusal → Found
found_in_numbers (Ok Clean) = record { refusal = 0; finding = 1; column = 0 }
found_in_numbers (Ok (Column c)) = record { refusal = 0; finding = 2; column = c }
found_in_numbers (Ok Unexplained) = record { refusal = 0; finding = 3; column = 0 }
found_in_numbers (Err why) = record { refusal = number_of why; finding = 0; column = 0 }

-- the answer of plan or balanced plan in three numbers: the refusal number, the mask of rows and the reads, which are 0 where the call is refused
abbrev pub plan_in_numbers : Result ReadPlan Refusal → Planned
plan_in_numbers (Ok plan) = record { refusal = 0; rows = plan.rows; reads = plan.reads }
plan_in_numbers (Err why) = record { refusal = number_of why; rows = 0; reads = 0 }

-- show's answer in four numbers: the refusal number; 1 the stripe, 2 the spare, 0 refused; where in it the cell starts; how long it is
abbrev pub shown_in_numbers : Shape → Result ShownAt Refusal → Part
shown_in_numbers s (Ok (Stripe at)) = record { refusal = 0; buffer = 1; offset = at; length = s.cell }
shown_in_numbers s (Ok (Spare at)) = record { refusal = 0; buffer = 2; offset = at; length = s.cell }
shown_in_numbers s (Err why) = record { refusal = number_of why; buffer = 0; offset = 0; length = 0 }
