-- How a call ends, and what that says of its output.
use Rattle.std.specs.Prelude.{List, ℕ, ◌*◌, ◌≤◌, length, take, Result, Ok, Err}
use Rattle.rules.specs.Compile.{Outcome}

-- the written rules' outcome: a plan stands at the front of its buffer
unfoldable pub ending_outcome : Result ℕ ℕ → List ℕ → Outcome
ending_outcome (Ok n) plan = Outcome.planned (take n plan)
ending_outcome (Err n) plan = Outcome.refused n

abbrev pub answer_of : Result ℕ ℕ → ℕ
answer_of (Ok n) = n
answer_of (Err n) = n * 65536

-- a plan lies within its buffer
abbrev pub Within : Result ℕ ℕ → List ℕ → Type 0
Within (Ok n) plan = n ≤ length plan
Within (Err n) plan = Unit {0}
