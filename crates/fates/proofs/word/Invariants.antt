use mathlib.Core.Path.{◌≡◌}
use Prim.Native.Nat.{◌+◌, ◌-◌, ◌*◌, ◌≤◌}
use Rattle.file.specs.Tables.{tables_of}
use Rattle.fates.specs.Rows.{packed, fate_or}
use Rattle.fates.proofs.word.Given as goal

abbrev pub invariant-loop-j : goal.invariant-loop-j
invariant-loop-j l = (l.j ≤ 8) × (l.w ≡ packed (fate_or (tables_of l.file.tables.bytes.now) l.node) (8 * l.q + l.j) (8 - l.j))
