-- Request [4]: names beyond seven bits, each a whole file and what the written rules give for it.
use Rattle.std.specs.Prelude.{List, [], ◌∷◌}
use Prim.Native.String.{String}
use Rattle.rules.specs.Compile.{Outcome}
use Rattle.doors.specs.Doors.{Row, row, plan}

-- a Str key of two, three and four bytes a character: the text is the name's raw bytes
abbrev pub accents : Row
accents =
    row
    ("0100 09 c3a9 e282ac f09f9880 0100 01 0100 0000ffff 0100 010000 0000 0000 0000 0000 0000 0100 000000000000" ∷ [])
    (plan "0100 0100 0000 0100 00 0b00 03c3a9e282acf09f988000 0000 00 0000 0000 0000 0000 0000 0000")

-- the same with a zero byte between: it stays allowed, and stays escaped
abbrev pub accents-and-zero : Row
accents-and-zero =
    row
    ("0100 05 c3a9 00 c3a9 0100 01 0100 0000ffff 0100 010000 0000 0000 0000 0000 0000 0100 000000000000" ∷ [])
    (plan "0100 0100 0000 0100 00 0800 03c3a900ffc3a900 0000 00 0000 0000 0000 0000 0000 0000")

-- a file with one name and nothing else: its length and its bytes
abbrev pub named : String → Outcome → Row
named name answer = row ("0100" ∷ name ∷ "0000 0000 0000 0000 0000 0000 0000 0000 0000" ∷ []) answer

abbrev pub accepted : String → Row
accepted name = named name (plan "0000 0000 0000 0000 0000")

abbrev pub ill-formed : String → Row
ill-formed name = named name (Outcome.refused 6)

-- each boundary of the grammar's rows, from both sides
abbrev pub boundaries : List Row
boundaries =
    accepted "01 7f" ∷
    ill-formed "01 80" ∷
    ill-formed "02 c1bf" ∷
    accepted "02 c280" ∷
    accepted "02 dfbf" ∷
    ill-formed "03 e09fbf" ∷
    accepted "03 e0a080" ∷
    accepted "03 ed9fbf" ∷
    ill-formed "03 eda080" ∷
    accepted "03 ee8080" ∷
    accepted "03 efbfbf" ∷
    ill-formed "04 f08fbfbf" ∷
    accepted "04 f0908080" ∷
    accepted "04 f48fbfbf" ∷
    ill-formed "04 f4908080" ∷
    ill-formed "04 f5808080" ∷
    []

-- A name that the file cuts short is refused by 3, whatever stood before
abbrev pub cut-name : Row
cut-name = row ("0100 05 80" ∷ []) (Outcome.refused 3)

-- cut in a character, where the file ends
abbrev pub cut-character : Row
cut-character = row ("0100 03 e282" ∷ []) (Outcome.refused 3)

-- a whole name that ends in the middle of a character, with more of the file behind it
abbrev pub unfinished : Row
unfinished = ill-formed "02 e282"

-- the character's last byte stands behind the name
abbrev pub split-character : Row
split-character = row ("0200 02 e282 01 ac 0000 0000 0000 0000 0000 0000 0000 0000 0000" ∷ []) (Outcome.refused 6)

abbrev pub names : List Row
names = accents ∷ accents-and-zero ∷ cut-name ∷ cut-character ∷ unfinished ∷ split-character ∷ []
