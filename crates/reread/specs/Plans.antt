-- The fixed list of plans (docs/ORACLE.md): lines `PLAN ROOM LINE`. PLAN is hex; ROOM, the output's length, is four hex digits, the high
-- byte first; LINE is what the call comes to, as program `plan` would print it.
use Rattle.std.specs.Prelude.{Bool, true, false, List, [], ◌∷◌, ℕ, ◌+◌, ◌*◌, leb, length, take, drop}
use Rattle.rules.specs.Limits.{plan_limit}
use Rattle.rules.specs.Compile.{buffer}
use Rattle.rules.specs.Reader as Reader
use Rattle.tally.specs.Bytes.{index_of}
use Rattle.lines.specs.Lines.{line, unhex}
use Rattle.tally.specs.Tallies.{space, same}

-- the longest PLAN that is compared: two digits for each byte of the longest plan and one byte more
abbrev pub hex_limit : ℕ
hex_limit = 32770

-- what stands in the output afterwards
abbrev pub output_of : List ℕ → ℕ → List ℕ
output_of plan room = buffer room (Reader.outcome plan room)

-- two bytes as a number, the high one first
unfoldable pub room_of : List ℕ → ℕ
room_of [] = 0
room_of (h ∷ []) = 0
room_of (h ∷ l ∷ rest) = h * 256 + l

-- the line that the written rules give for a plan is the one that is said
unfoldable pub comes_to : List ℕ → ℕ → List ℕ → Bool
comes_to plan room said = elim (leb room plan_limit) [ true ↦ same (line (Reader.outcome plan room)) said | false ↦ false ]

unfoldable pub agrees_at : ℕ → List ℕ → Bool
agrees_at e entry =
    elim (leb (e + 6) (length entry)) [
      | false ↦ false
      | true ↦ elim (leb e hex_limit) [
        | false ↦ false
        | true ↦ comes_to (unhex (take e entry)) (room_of (unhex (take 4 (drop (e + 1) entry)))) (drop (e + 6) entry)
      ]
    ]

unfoldable pub agrees : List ℕ → Bool
agrees entry = agrees_at (index_of space entry) entry
