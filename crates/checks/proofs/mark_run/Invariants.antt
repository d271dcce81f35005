use mathlib.Core.Path.{◌≡◌}
use Prim.Native.Nat.{◌+◌, ◌-◌, ◌*◌}
use lib.ListN.{length}
use Rattle.file.specs.Steps.{word}
use Rattle.views.specs.Views.{run}
use Rattle.checks.specs.Checked.{once, marked}
use Rattle.checks.proofs.mark_run.Given as goal

abbrev pub invariant-loop-k : goal.invariant-loop-k
invariant-loop-k l =
    (once l.initial.marks (run (word l.file) 4 l.n l.p) ≡ once l.marks (run (word l.file) 4 (l.n - l.k) (l.p + 4 * l.k)))
    × (marked l.initial.marks (run (word l.file) 4 l.n l.p) ≡ marked l.marks (run (word l.file) 4 (l.n - l.k) (l.p + 4 * l.k)))
    × (length l.marks ≡ length l.initial.marks)
