-- The oracle's fixed list (docs/ORACLE.md, "The fixed list"): lines `FILE = LINE` in hex.
use Rattle.std.specs.Prelude.{Bool, true, false, List, ℕ, ◌+◌, leb, length, take, drop}
use Rattle.rules.specs.Limits.{plan_limit, work_limit}
use Rattle.rules.specs.Compile.{outcome}
use Rattle.tally.specs.Bytes.{index_of}
use Rattle.lines.specs.Lines.{line, unhex}
use Rattle.tally.specs.Tallies.{space, same}

-- the longest FILE that is compared: two digits for each byte of the longest rule file and one byte more
abbrev pub hex_limit : ℕ
hex_limit = 65538

-- the line that the written rules give for FILE is LINE
unfoldable pub agrees_at : ℕ → List ℕ → Bool
agrees_at e pair =
    elim (leb (e + 3) (length pair)) [
      | false ↦ false
      | true ↦ elim (leb e hex_limit) [
        | false ↦ false
        | true ↦ same (line (outcome (unhex (take e pair)) plan_limit work_limit)) (drop (e + 3) pair)
      ]
    ]

unfoldable pub agrees : List ℕ → Bool
agrees pair = agrees_at (index_of space pair) pair
