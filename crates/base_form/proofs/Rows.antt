-- The base's form by computing: plans of the door table without their nodes. D1's is document 01's own, to the byte.
use mathlib.Core.List.{List, []}
use mathlib.Core.Path.{◌≡◌, refl}
use Prim.Native.Nat.{ℕ}
use Rattle.rules.specs.Compile.{Outcome}
use Rattle.rules.specs.Demand3.{open_demand3}
use Rattle.rules.specs.Reader.{open_reader}
use Rattle.doors.specs.Hex.{hex, open_hex}
use Rattle.doors.specs.Doors.{D1, D6, D7, D9, open_rules}
use Rattle.plan_form.specs.Places.{plan_of}
use Rattle.base_form.specs.BaseForm.{base_plan, open_base_form}

-- of a plan's bytes, and of a door's answer
unfoldable bare : List ℕ → List ℕ
bare bytes = base_plan (plan_of bytes)

abbrev bare_of : Outcome → List ℕ
bare_of (Outcome.planned plan) = bare plan
bare_of (Outcome.refused n) = []

unfoldable open_rows : Unit {0}
unfolding open_hex open_rules open_demand3 open_reader open_base_form plan_of bare
open_rows = tt

-- a part and a range
row-D1 : bare_of D1.answer ≡ hex "0100 0200 0000 0100 02 00 0900 028000000000000007 0200 036b 010000 00 0000 0000 0000 0000 0000 0000"
unfolding open_rows
row-D1 = refl

-- a Prefix seek
row-D6 : bare_of D6.answer ≡ hex "0100 0100 0000 0100 00 0f00 050000000102800000000000000400 00 0000 0000 0000 0000 0000 0000"
unfolding open_rows
row-D6 = refl

-- parts of two kinds
row-D7 : bare_of D7.answer ≡ hex "0100 0200 0100 0300 01 00 0500 0500000001 01 0500 020000 00 0100 00 00 0000 0000 0000 0000 0000 0000"
unfolding open_rows
row-D7 = refl

-- a range and a guide
row-D9 : bare_of D9.answer ≡ hex "0100 0200 0000 0000 02 0300 037061 000000 01 000000 0100 02 01 0000 0000 0100 0000 03 0000 000000 0000 0100 0000 0000 0000"
unfolding open_rows
row-D9 = refl

-- two levels: a Prefix seek of two parts; then a part, a range, a guide and a residual
row-each : bare (hex "0200 0200 0000 0200 00 0200 6162 0500 0601 00 0000 0000 0400 0000 0100 02 02 0300 0100 0100 70 0100 00 0200 01 0100 00 0000 01 00 0300 0100 0200 00 03 0400 ffff 0000 0000 0000 0000 0000") ≡ hex "0200 0200 0000 0200 00 0200 6162 00 0000 0000 0400 0000 0100 02 02 0300 0100 70 0100 00 01 0100 00 0000 01 00 0100 0200 00 03 0400 0000 0000 0000 0000 0000"
unfolding open_rows
row-each = refl
