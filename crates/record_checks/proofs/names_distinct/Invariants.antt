use mathlib.Core.Path.{◌≡◌}
use Prim.Native.Nat.{◌+◌, ◌-◌, ◌*◌}
use lib.ListN.{length}
use Rattle.rules.specs.Base.{distinct}
use Rattle.file.specs.Steps.{word}
use Rattle.views.specs.Views.{run}
use Rattle.record_checks.proofs.Marks.{fresh}
use Rattle.record_checks.proofs.names_distinct.Given as goal

abbrev pub invariant-loop-k : goal.invariant-loop-k
invariant-loop-k l =
    (distinct (run (word l.file) l.w l.n l.p) ≡ fresh l.marks (run (word l.file) l.w (l.n - l.k) (l.p + l.w * l.k)))
    × (length l.marks ≡ 512)
