use mathlib.Core.Path.{◌≡◌}
use mathlib.Core.Bool.{false}
use Prim.Native.Nat.{◌+◌, ◌-◌, ◌*◌}
use lib.ListN.{get_or}
use Rattle.rules.specs.Base.{all}
use Rattle.file.specs.Steps.{word}
use Rattle.views.specs.Views.{run}
use Rattle.checks.specs.Checked.{flags_at}
use Rattle.checks.proofs.all_constant.Given as goal

abbrev pub invariant-loop-k : goal.invariant-loop-k
invariant-loop-k l =
    all (λ c. get_or (flags_at l.file.index.now) c false) (run (word l.file.bytes.now) 4 l.n l.p)
    ≡ all (λ c. get_or (flags_at l.file.index.now) c false) (run (word l.file.bytes.now) 4 (l.n - l.k) (l.p + 4 * l.k))
