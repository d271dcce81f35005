use mathlib.Core.Path.{◌≡◌}
use Rattle.file.specs.Steps.{step_at, record_of, starts}
use Rattle.file.specs.Sections.{number_of}
use Rattle.rules.specs.Read.{many}
use lib.Seq.{sets}
use lib.ListN.{length}
use Prim.Native.Nat.{◌≤◌, ◌+◌, ◌-◌}
use Rattle.file.proofs.records.Given as goal

abbrev pub invariant-loop-k : goal.invariant-loop-k
invariant-loop-k l =
    (step_at l.file (many l.n (record_of (number_of l.s))) l.at ≡ step_at l.file (many (l.n - l.k) (record_of (number_of l.s))) l.p)
    × (sets l.initial.index l.base (starts l.file (number_of l.s) l.n l.at) ≡ sets l.index (l.base + l.k) (starts l.file (number_of l.s) (l.n - l.k) l.p))
    × (l.p ≤ length l.file)
    × (length l.index ≡ length l.initial.index)
