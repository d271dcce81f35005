use mathlib.Core.Path.{◌≡◌}
use Prim.Native.Nat.{◌≤◌, ◌-◌}
use lib.ListN.{length}
use Rattle.rules.specs.Read as Read
use Rattle.file.specs.Steps.{step_at, sections, filled}
use Rattle.file.proofs.ten_sections.Given as goal

abbrev pub invariant-loop-s : goal.invariant-loop-s
invariant-loop-s l =
    (step_at l.file Read.ten_sections 0 ≡ step_at l.file (sections (10 - l.s-index) l.s-index) l.p)
    × (filled l.file 10 0 0 l.initial.index ≡ filled l.file (10 - l.s-index) l.s-index l.p l.index)
    × (l.p ≤ length l.file)
    × (length l.index ≡ length l.initial.index)
