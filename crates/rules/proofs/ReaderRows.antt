-- The plan reader by computing: each byte that has no meaning, each rule broken. A row is a plan's bytes, how many and as one number in hex, the first byte first,
-- and what the call gives for them. Crate doors has the plans of the door table.
use mathlib.Core.List.{List, [], ◌∷◌, ◌++◌}
use mathlib.Core.Path.{◌≡◌, refl}
use Prim.Native.Nat.{ℕ, zero, suc, ◌/◌, ◌%◌}
use Rattle.rules.specs.Base.{open_base}
use Rattle.rules.specs.Limits.{step_limit}
use Rattle.rules.specs.File.{open_file}
use Rattle.rules.specs.Read.{open_read}
use Rattle.rules.specs.Lookup.{open_lookup}
use Rattle.rules.specs.Events.{open_events}
use Rattle.rules.specs.Placement.{open_placement}
use Rattle.rules.specs.Plan.{open_plan}
use Rattle.rules.specs.Compile.{Outcome, open_compile}
use Rattle.rules.specs.Demand3.{open_demand3}
use Rattle.rules.specs.Reader
use Rattle.rules.specs.Reader.{open_reader}

unfoldable bytes_of : ℕ → ℕ → List ℕ → List ℕ
bytes_of zero n after = after
bytes_of (suc count) n after = bytes_of count (n / 256) (n % 256 ∷ after)

abbrev bytes : ℕ → ℕ → List ℕ
bytes count n = bytes_of count n []

-- with room for any plan
unfoldable read : List ℕ → Outcome
read plan = Reader.outcome plan 16384

unfoldable open_rows : Unit {0}
unfolding open_base open_file open_read open_lookup open_events open_placement open_plan open_compile open_demand3 open_reader bytes_of read
open_rows = tt

-- the empty plan
abbrev empty : List ℕ
empty = bytes 10 0

row-empty : read empty ≡ Outcome.planned empty
unfolding open_rows
row-empty = refl

-- slots 0 to 5, as in the rule file
row-every-slot : read (bytes 51 0x06000000000000ffff00000100000000000002000000000300000000000000000004000000000000050000000000000000) ≡ Outcome.planned (bytes 51 0x06000000000000ffff00000100000000000002000000000300000000000000000004000000000000050000000000000000)
unfolding open_rows
row-every-slot = refl

-- a node after each entry: the nodes of a Prefix seek's two parts, then those of a part, a range, a guide and a residual
row-nodes : read (bytes 72 0x020002000000020000020061620500060100000000000400000001000202030001000100700100000200010100000000010003000100020000030400ffff00000000000000000000) ≡ Outcome.planned (bytes 72 0x020002000000020000020061620500060100000000000400000001000202030001000100700100000200010100000000010003000100020000030400ffff00000000000000000000)
unfolding open_rows
row-nodes = refl

-- request [8]: op 6 and the other path, here with a step of 7, made by node 9
row-own-field : read (bytes 37 0x01000100000000000000000001000100000600000107000000090000000000000000000000) ≡ Outcome.planned (bytes 37 0x01000100000000000000000001000100000600000107000000090000000000000000000000)
unfolding open_rows
row-own-field = refl

-- a diagnostic of code 4, which the compile no longer makes
row-repeat : read (bytes 13 0x00000000000000000100000004) ≡ Outcome.planned (bytes 13 0x00000000000000000100000004)
unfolding open_rows
row-repeat = refl

-- 16

-- two parts, and the second one's node is cut
early-nodes : read (bytes 16 0x01000200000002000002006162050006) ≡ Outcome.refused 16
unfolding open_rows
early-nodes = refl

-- as many steps as a path holds, and none of them there
early-most-steps : read (bytes 14 0x0100010000000000000000010000 ++ (step_limit ∷ [])) ≡ Outcome.refused 16
unfolding open_rows
early-most-steps = refl

-- a rule broken in a plan that ends early: checked last
early-cut-and-broken : read (bytes 16 0x01000100000000000000000000000000) ≡ Outcome.refused 16
unfolding open_rows
early-cut-and-broken = refl

-- 17, met at the byte itself, where none follows it

-- a seek of 4
unknown-seek : read (bytes 9 0x010000000000000004) ≡ Outcome.refused 17
unfolding open_rows
unknown-seek = refl

-- a part of 3
unknown-part : read (bytes 10 0x01000100000001000103) ≡ Outcome.refused 17
unfolding open_rows
unknown-part = refl

-- an edge of 3
unknown-edge : read (bytes 10 0x01000000000000000303) ≡ Outcome.refused 17
unfolding open_rows
unknown-edge = refl

-- a guide of 2
unknown-guide : read (bytes 12 0x010000000000000000000002) ≡ Outcome.refused 17
unfolding open_rows
unknown-guide = refl

-- an op of 7
unknown-op : read (bytes 18 0x010001000000000000000000010000000007) ≡ Outcome.refused 17
unfolding open_rows
unknown-op = refl

-- an anchor of 2
unknown-anchor : read (bytes 19 0x01000100000000000000000100000000000002) ≡ Outcome.refused 17
unfolding open_rows
unknown-anchor = refl

-- one step more, refused at its count
unknown-steps : read (bytes 14 0x0100010000000000000000010000 ++ (suc step_limit ∷ [])) ≡ Outcome.refused 17
unfolding open_rows
unknown-steps = refl

-- a slot of 6
unknown-slot : read (bytes 7 0x0100000006) ≡ Outcome.refused 17
unfolding open_rows
unknown-slot = refl

-- a diagnostic's code 0
unknown-code-0 : read (bytes 13 0x0100000000) ≡ Outcome.refused 17
unfolding open_rows
unknown-code-0 = refl

-- a code above the last
unknown-code-12 : read (bytes 13 0x010000000c) ≡ Outcome.refused 17
unfolding open_rows
unknown-code-12 = refl

-- a byte left over
unknown-left-over : read (bytes 11 0x00) ≡ Outcome.refused 17
unfolding open_rows
unknown-left-over = refl

-- 18

-- closers above parts
broken-closers : read (bytes 24 0x010000000100000000000000000000000000000000000000) ≡ Outcome.refused 18
unfolding open_rows
broken-closers = refl

-- a narrowing that stands nowhere
broken-sum : read (bytes 24 0x010001000000000000000000000000000000000000000000) ≡ Outcome.refused 18
unfolding open_rows
broken-sum = refl

-- a folded comparison without an edge
broken-folded : read (bytes 26 0x0100000000000000000000000000010000000000000000000000) ≡ Outcome.refused 18
unfolding open_rows
broken-folded = refl

-- Bounded without an edge
broken-no-edge : read (bytes 24 0x010000000000000003000000000000000000000000000000) ≡ Outcome.refused 18
unfolding open_rows
broken-no-edge = refl

-- a guide beside an edge
broken-edge-and-guide : read (bytes 37 0x01000100000000000301000000010000000000000000000000010000000000000000000000) ≡ Outcome.refused 18
unfolding open_rows
broken-edge-and-guide = refl

-- a guide beside a range of another path
broken-guide-elsewhere : read (bytes 38 0x0100020000000000020000000000000001010000000000000000000000000000000000000000) ≡ Outcome.refused 18
unfolding open_rows
broken-guide-elsewhere = refl

-- Composite where every part is bytes
broken-composite : read (bytes 28 0x01000100000001000100010002000000000000000000000000000000) ≡ Outcome.refused 18
unfolding open_rows
broken-composite = refl

-- the second level breaks a rule
broken-second-level : read (bytes 38 0x0200000000000000000000000000000000000100000000000000000000000000000000000000) ≡ Outcome.refused 18
unfolding open_rows
broken-second-level = refl

-- 15 by the lengths alone, and so before a byte that has no meaning
long-unknown : Reader.outcome (bytes 9 0x010000000000000004) 8 ≡ Outcome.refused 15
unfolding open_rows
long-unknown = refl
