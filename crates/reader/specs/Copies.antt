-- Request [1]: the numbers of 16 and 17, and what of a plan is written back.
use Rattle.std.specs.Prelude.{true, false, List, [], ℕ, eqb}
use Rattle.rules.specs.Compile.{Outcome}

-- 16 "when the plan ends early", 17 for every other fault of a plan's form
unfoldable pub number_of : ℕ → ℕ
number_of n = elim (eqb n 3) [ true ↦ 16 | false ↦ 17 ]

-- the bytes that an outcome has
abbrev pub bytes_of : Outcome → List ℕ
bytes_of (Outcome.planned bytes) = bytes
bytes_of (Outcome.refused n) = []
