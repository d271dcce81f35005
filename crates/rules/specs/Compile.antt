-- "Refusals, by place": the call. For any file, plan buffer and work area: the number returned and what the two buffers hold afterwards.
use Rattle.std.specs.Prelude.{true, false, List, ◌++◌, ℕ, ◌-◌, ◌*◌, min, length, replicate, leb, Option, None, Some}
use Rattle.rules.specs.Limits.{file_limit, work_limit, plan_limit}
use Rattle.rules.specs.File.{Tables}
use Rattle.rules.specs.Read.{Read, got, file}
use Rattle.rules.specs.Checks.{checks, fault}
use Rattle.rules.specs.Levels.{levels, any_mistyped}
use Rattle.rules.specs.Plan.{plan, plan_bytes}

-- one plan or one refusal
pub data Outcome : Type 0 where
  planned : List ℕ → Outcome
  refused : ℕ → Outcome

-- writing: 15, "plan longer than 16,384 bytes or than the plan buffer"
unfoldable pub written : ℕ → List ℕ → Outcome
written room bytes = elim (leb (length bytes) (min plan_limit room)) [ true ↦ Outcome.planned bytes | false ↦ Outcome.refused 15 ]

-- Request [7], between whole file and writing: 19, where any level's walk brings a constant to a type that gives it no bytes
unfoldable pub walked : ℕ → Tables → Outcome
walked room T = elim (any_mistyped (levels T)) [ true ↦ Outcome.refused 19 | false ↦ written room (plan_bytes (plan T)) ]

-- whole file, then its levels
unfoldable pub checked : ℕ → Tables → Option ℕ → Outcome
checked room T (Some n) = Outcome.refused n
checked room T None = walked room T

-- reading, then the whole file
unfoldable pub reading : ℕ → Read Tables → Outcome
reading room (Read.refused n) = Outcome.refused n
reading room (got T rest) = checked room T (fault checks T)

-- lent memory: 1, "file above 32,768 bytes", and 2, "work area below 65,536 bytes"; then reading
unfoldable pub outcome : List ℕ → ℕ → ℕ → Outcome
outcome bytes room area =
    elim (leb (length bytes) file_limit) [
      | false ↦ Outcome.refused 1
      | true ↦ elim (leb work_limit area) [
        | false ↦ Outcome.refused 2
        | true ↦ reading room (file bytes)
      ]
    ]

-- "it returns number × 65,536 + plan length, number 0 on acceptance, length 0 on refusal"
unfoldable pub returned : Outcome → ℕ
returned (Outcome.planned bytes) = length bytes
returned (Outcome.refused n) = n * 65536

-- "Afterwards the work area is all zero, and so is the plan buffer past the plan, or whole after a refusal."
unfoldable pub buffer : ℕ → Outcome → List ℕ
buffer room (Outcome.planned bytes) = bytes ++ replicate (room - length bytes) 0
buffer room (Outcome.refused n) = replicate room 0

pub record Compiled : Type 0 where
  pub result : ℕ
  pub plan : List ℕ
  pub work : List ℕ

unfoldable pub compiled : Outcome → ℕ → ℕ → Compiled
compiled o room area = record { result = returned o; plan = buffer room o; work = replicate area 0 }

-- the call on three slices
unfoldable pub compile : List ℕ → List ℕ → List ℕ → Compiled
compile bytes plan' work = compiled (outcome bytes (length plan') (length work)) (length plan') (length work)

unfoldable pub open_compile : Unit {0}
unfolding written walked checked reading outcome returned buffer compiled compile
open_compile = tt
