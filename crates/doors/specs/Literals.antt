-- Request [7]: literals of the wrong kind, each a whole file and what the written rules give for it.
use Rattle.std.specs.Prelude.{List, [], ◌∷◌, ◌≡◌, ℕ}
use Rattle.doors.specs.Hex.{lines}
use Rattle.rules.specs.Limits.{work_limit}
use Rattle.rules.specs.Compile.{Outcome, outcome}
use Rattle.doors.specs.Doors.{Row, row, plan}

-- a number where the key is a text
abbrev pub at_key : Row
at_key =
    row ("0000 0100 01 0100 0000ffff 0100 000700000000000000 0000 0000 0000 0000 0000 0100 000000000000" ∷ []) (Outcome.refused 19)

-- where a key's field is a text
abbrev pub at_field : Row
at_field =
    row
    ("0100 0161 0200 01 040100000000 0100 0100ffff 0200 000700000000000000 080100000000" ∷
    "0000 0000 0000 0000 0000 0100 000001000000" ∷ [])
    (Outcome.refused 19)

-- where a union's payload is a text
abbrev pub at-payload : Row
at-payload =
    row
    ("0100 0161 0200 01 05010000010000000000 0100 0100ffff 0200 000700000000000000 080100000000" ∷
    "0000 0000 0000 0000 0000 0100 000001000000" ∷ [])
    (Outcome.refused 19)

-- through a Var that is bound to it
abbrev pub by-var : Row
by-var =
    row
    ("0100 0178 0100 01 0100 0000ffff 0200 000700000000000000 030000 0100 0000 05 0000" ∷
    "0000 0000 0000 0000 0100 000001000000" ∷ [])
    (Outcome.refused 19)

-- through an access into a Const, x.a of x = {a = 7}
abbrev pub by-access : Row
by-access =
    row
    ("0200 0161 0178 0100 01 0100 0000ffff 0400 000700000000000000 080100000000 030100 0900000200" ∷
    "0100 0100 05 0100 0000 0000 0000 0000 0100 000003000000" ∷ [])
    (Outcome.refused 19)

-- through a hoisted Fact, whose name is bound to it
abbrev pub by-hoisted : Row
by-hoisted =
    row
    ("0100 0178 0100 01 0100 0000ffff 0300 000700000000000000 04 0e00000100 0100 0000 05 0000" ∷
    "0100 0200 0000 0000 0000 0000 0100 000002000000" ∷ [])
    (Outcome.refused 19)

-- {a = x} of x = {b = 7}, at {a: {b: Str, c: Int}}: the record at a record is opened, the number in it is not
abbrev pub opened : Row
opened =
    row
    ("0400 0161 0162 0163 0178 0400 01 00 04020100000002000100 040100000200 0100 0300ffff" ∷
    "0400 000700000000000000 080101000000 030300 080100000200 0100 0300 05 0100 0000 0000 0000 0000 0100 000003000000" ∷ [])
    (Outcome.refused 19)

-- the same with a text for b: a record at a record passes, and b becomes a residual
abbrev pub opened-passes : Row
opened-passes =
    row
    ("0400 0161 0162 0163 0178 0400 01 00 04020100000002000100 040100000200 0100 0300ffff" ∷
    "0400 010100 080101000000 030300 080100000200 0100 0300 05 0100 0000 0000 0000 0000 0100 000003000000" ∷ [])
    (plan "0100 0100 0000 0000 00 0000 00 0100 0000 01 00000000 00 0300 036200 0000 0000 0000 0000 0000 0000")

-- a record at a union goes to `inject` where it is written there
abbrev pub record-at-union : Row
record-at-union =
    row
    ("0100 00 0100 0500 0100 0000ffff 0200 0800 030000 0100 0000 05 0000 0000 0000 0000 0000 0100 000000000000" ∷ [])
    (plan "0100 0000 0000 0000 00 0000 00 0000 0000 0000 0000 0000 0100 0000 09")

-- and is refused where a Var stands for it
abbrev pub union-by-var : Row
union-by-var =
    row
    ("0100 00 0100 0500 0100 0000ffff 0200 0800 030000 0100 0000 05 0000 0000 0000 0000 0000 0100 000001000000" ∷ [])
    (Outcome.refused 19)

-- or where it is a field of a whole key's Const
abbrev pub union-in-whole-key : Row
union-in-whole-key =
    row
    ("0200 0161 0178 0200 0500 040100000000 0100 0100ffff 0300 0800 080100000000 030100 0100 0100 05 0100" ∷
    "0000 0000 0000 0000 0100 000002000000" ∷ [])
    (Outcome.refused 19)

-- a number for a whole record key, also one without fields
abbrev pub whole-key : Row
whole-key =
    row ("0000 0100 0400 0100 0000ffff 0100 000700000000000000 0000 0000 0000 0000 0000 0100 000000000000" ∷ []) (Outcome.refused 19)

-- in the second level alone
abbrev pub second-level : Row
second-level =
    row
    ("0100 0161 0100 01 0100 0000ffff 0200 010000 000700000000000000 0000 0000 0000 0000 0000" ∷
    "0200 000000000000 000001000100" ∷ [])
    (Outcome.refused 19)

-- {a = _} at a number is no constant, and is passed over as before
abbrev pub no-constant : Row
no-constant =
    row
    ("0100 0161 0100 00 0100 0000ffff 0200 04 080100000000 0000 0000 0000 0000 0000 0100 000001000000" ∷ [])
    (plan "0100 0000 0000 0000 00 0000 00 0000 0000 0000 0000 0000 0000")

-- a constraint of the wrong kind keeps its diagnostic
abbrev pub constraint : Row
constraint =
    row
    ("0100 0178 0100 01 0100 0000ffff 0200 030000 000700000000000000 0000 0000 0000 0100 0000 0100 0000 0100 000000000000" ∷ [])
    (plan "0100 0000 0000 0000 00 0000 00 0000 0000 0100 0000 03 0000 000000 0000 0100 0000 0000 0100 0100 08")

-- and a comparison of the wrong kind is not folded
abbrev pub comparison : Row
comparison =
    row
    ("0100 0178 0100 01 0100 0000ffff 0200 030000 000700000000000000 0000 0000 0000 0000 0100 00 0000 0100 0100 000000000000" ∷ [])
    (plan "0100 0000 0000 0000 00 0000 00 0000 0000 0100 0000 03 0000 000000 0000 0000 0000 0000")

abbrev pub literals : List Row
literals =
    at_key ∷ at_field ∷ at-payload ∷ by-var ∷ by-access ∷ by-hoisted ∷ opened ∷ opened-passes ∷ record-at-union ∷ union-by-var ∷
    union-in-whole-key ∷ whole-key ∷ second-level ∷ no-constant ∷ constraint ∷ comparison ∷ []

-- what a row's file comes to in a plan buffer of this many bytes
abbrev pub Within : ℕ → Row → Outcome → Type 0
Within room r answer = outcome (lines r.file) room work_limit ≡ answer

-- of 19 and 15, in a buffer that is too short for any plan
abbrev pub first-of-both : Outcome
first-of-both = Outcome.refused 19
