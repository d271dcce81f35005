use mathlib.Core.Path.{◌≡◌}
use Prim.Native.Nat.{◌+◌, ◌-◌, ◌*◌}
use Rattle.rules.specs.Base.{distinct}
use Rattle.views.specs.Views.{run}
use Rattle.record_checks.specs.RecordChecks.{number_at}
use Rattle.record_checks.proofs.all_distinct.Given as goal

abbrev pub invariant-loop-k : goal.invariant-loop-k
invariant-loop-k l =
    distinct (run (number_at l.file l.long) l.w l.n l.p)
    ≡ distinct (run (number_at l.file l.long) l.w (l.n - l.k) (l.p + l.w * l.k))
