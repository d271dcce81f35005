-- The verdict on a call, and what it leaves in the plan buffer and the work area before they are zeroed.
use Rattle.std.specs.Prelude.{true, false, List, ℕ, leb, length, Result, Ok, Err}
use Rattle.rules.specs.Limits.{file_limit, work_limit}
use Rattle.rules.specs.File.{Tables}
use Rattle.rules.specs.Compile.{Outcome}
use Rattle.rules.specs.Literals.{levels_meet}
use Rattle.state.specs.Levels as StateLevels
use Rattle.checks.specs.Checked.{file_verdict}

-- "Refusals, by place": the verdict on a call before it writes: lent memory first, then the file
unfoldable pub call_verdict : List ℕ → ℕ → Result (Unit {0}) ℕ
call_verdict file area =
    elim (leb (length file) file_limit) [
      | false ↦ Err 1
      | true ↦ elim (leb work_limit area) [
        | false ↦ Err 2
        | true ↦ file_verdict file
      ]
    ]

-- the two buffers before they are zeroed
pub record Memory : Type 0 where
  pub work : List ℕ
  pub plan : List ℕ

abbrev pub memory : List ℕ → List ℕ → Memory
memory work plan = record { work = work; plan = plan }

-- request [7]: a file that passed its checks is refused by 19 before it is walked, or comes to what the compiler keeps (crate state)
unfoldable pub accepted_outcome : Tables → List ℕ → List ℕ → Outcome
accepted_outcome T work plan =
    elim (levels_meet T T.levels) [
      | true ↦ Outcome.refused 19
      | false ↦ StateLevels.written_outcome (StateLevels.compiled T work plan)
    ]

-- a file that was walked leaves what the compiler keeps, a refused one leaves both as they were
unfoldable pub accepted_memory : Tables → List ℕ → List ℕ → Memory
accepted_memory T work plan =
    elim (levels_meet T T.levels) [
      | true ↦ memory work plan
      | false ↦ memory (StateLevels.compiled T work plan).state.work (StateLevels.compiled T work plan).state.plan
    ]

unfoldable pub memory_by : Result (Unit {0}) ℕ → Tables → List ℕ → List ℕ → Memory
memory_by (Ok u) T work plan = accepted_memory T work plan
memory_by (Err n) T work plan = memory work plan
