-- Request [8]: one row, one name, two fields. Each row is a whole file and the plan that the written rules give for it: a residual of op 6
-- at the pattern's path, with the other path and the pattern's node. The level's own address is 5.
use Rattle.std.specs.Prelude.{List, [], ◌∷◌}
use Rattle.doors.specs.Doors.{Row, row, plan, long_plan}

-- "A door whose lock equals its key": the name's second place is asked to equal its first
abbrev pub one_name : Row
one_name =
    row
    ("0300 04 6c6f636b 03 6b6579 01 78 0200 01 0402 00000000 01000000 0100 0100ffff" ∷
    "0300 030200 030200 0802 00000000 01000100 0000 0000 0000 0000 0000 0100 0000 0200 0500" ∷ [])
    (plan "0100 0100 0000 0000 00 0000 00 0100 010000 06 000000 0100 0000 0100 0200 03 0500 000000 0000 0000 0000 0000")

-- an access to a field of the level's own row; the node is the access's (1), not that of the name in it
abbrev pub access : Row
access =
    row
    ("0300 04 6c6f636b 03 6b6579 01 72 0200 01 0402 00000000 01000000 0100 0100ffff" ∷
    "0300 030200 0900000000 0801 01000100 0100 0200 00 0500 0000 0000 0000 0000 0000 0100 0000 0200 0500" ∷ [])
    (plan "0100 0100 0000 0000 00 0000 00 0100 010000 06 000000 0100 0000 0000 0000 0000 0000")

-- within a union's payload: the tag is a part, building falls in the payload, and there is no closer
abbrev pub in-payload : Row
in-payload =
    row
    ("0300 01 75 01 6e 01 72 0300 00 0501 0000010000000000 0402 00000100 01000000 0100 0200ffff" ∷
    "0400 030200 0901000000 0801 00000100 0801 00000200 0100 0200 01 0500 0200 0000 0000 0000 0000 0100 0000 0300 0500" ∷ [])
    (plan "0100 0200 0000 0100 00 0500 0500000001 0200 00 0100 00000101000000 06 010000 0100 0000 0000 0000 0000 0000")

-- two levels of one address: it goes by the address alone, so the second level asks its path to equal itself, which asks nothing
abbrev pub two-levels : Row
two-levels =
    row
    ("0100 0178 0100 00 0100 0000ffff 0100 030000 0000 0000 0000 0000 0000 0200 0000 0000 0500 0000 0000 0500" ∷ [])
    (long_plan
    ("0200 0000 0000 0000 00 0000 00 0000 0000 0100 0000 0000 00 0000 00 0100 000000 06 000000 0000 0000" ∷
    "0100 0000 03 0500 000000 0000 0000 0000 0000" ∷ []))

-- a part before it and a field after it: building held and falls, so the constant 8 is a residual
abbrev pub between : Row
between =
    row
    ("0400 01 61 01 62 01 63 01 72 0200 00 0403 00000000 01000000 02000000 0100 0100ffff" ∷
    "0500 000700000000000000 030300 0900000100 000800000000000000 0803 00000000 01000200 02000300" ∷
    "0100 0300 01 0500 0100 0000 0000 0000 0000 0100 0000 0400 0500" ∷ [])
    (long_plan
    ("0100 0300 0000 0100 00 0900 028000000000000007 0000 00 0200 010000 06 000000 0200" ∷
    "020000 00 0900 028000000000000008 0300 0000 0000 0000 0000 0000" ∷ []))

-- a whole key of its own row asks each field to equal itself; the node is the level's own
abbrev pub whole-key : Row
whole-key =
    row
    ("0300 04 6c6f636b 03 6b6579 01 72 0200 01 0402 00000000 01000000 0100 0100ffff" ∷
    "0100 030200 0100 0200 01 0500 0100 0000 0000 0000 0000 0100 0000 0000 0500" ∷ [])
    (plan "0100 0200 0000 0000 00 0000 00 0200 000000 06 000000 0000 010000 06 010000 0000 0000 0000 0000 0000 0000")

-- a select that stands for such a slot: the other path goes into the union, and the select is reported as before
abbrev pub selected : Row
selected =
    row
    ("0300 01 75 01 6e 01 72 0300 00 0501 0000010000000000 0402 00000100 01000000 0100 0200ffff" ∷
    "0300 030200 0b00000000 0801 01000100 0100 0200 03 0500 000000 0100 0000 0000 0000 0000 0100 0000 0200 0500" ∷ [])
    (long_plan
    ("0100 0100 0000 0000 00 0000 00 0100 010000 06 00000101000000 0100 0000" ∷
    "0000 0000 0100 0500 000000 01000000 0000" ∷ []))

-- a hoisted Fact that stands for such a slot
abbrev pub hoisted : Row
hoisted =
    row
    ("0300 04 6c6f636b 03 6b6579 01 78 0200 01 0402 00000000 01000000 0100 0100ffff" ∷
    "0300 04 0e00000000 0801 01000100 0100 0200 03 0500 000000 0000 0100 0100 0200 0000 0000 0000 0100 0000 0200 0500" ∷ [])
    (plan "0100 0100 0000 0000 00 0000 00 0100 010000 06 000000 0100 0000 0000 0000 0000 0000")

-- a field of another row's register is a part as before
abbrev pub other_row : Row
other_row =
    row
    ("0300 04 6c6f636b 03 6b6579 01 72 0200 01 0402 00000000 01000000 0100 0100ffff" ∷
    "0300 030200 0900000000 0801 00000100 0100 0200 00 0400 0000 0000 0000 0000 0000 0100 0000 0200 0500" ∷ [])
    (plan "0100 0100 0000 0100 01 01 0400 000000 0100 00 0000 0000 0000 0000 0000 0000")

abbrev pub own-fields : List Row
own-fields = one_name ∷ access ∷ in-payload ∷ two-levels ∷ between ∷ whole-key ∷ selected ∷ hoisted ∷ other_row ∷ []
