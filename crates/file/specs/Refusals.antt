-- "Refusals, by place" and the requests after it: the number of each refusal.
use Rattle.std.specs.Prelude.{ℕ, Result, Ok, Err}
use Rattle.file.specs.declared.Refusal.{Refusal}
use Rattle.file.specs.declared.Refusal.TheVariants as Refusals

abbrev pub number : Refusal → ℕ
number Refusals.FileTooLong = 1
number Refusals.WorkTooShort = 2
number Refusals.Ends = 3
number Refusals.Count = 4
number Refusals.Kind = 5
number Refusals.NameByte = 6
number Refusals.Follows = 7
number Refusals.Number = 8
number Refusals.Child = 9
number Refusals.Repeat = 10
number Refusals.Depth = 11
number Refusals.Shared = 12
number Refusals.NotConstant = 13
number Refusals.Path = 14
number Refusals.PlanTooLong = 15
number Refusals.PlanEnds = 16
number Refusals.PlanByte = 17
number Refusals.PlanRule = 18
number Refusals.Literal = 19

-- the same result, with the refusal's number
abbrev pub numbered : {A : Type 0} → Result A Refusal → Result A ℕ
numbered (Ok x) = Ok x
numbered (Err r) = Err (number r)
