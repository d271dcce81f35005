use mathlib.Core.Path.{◌≡◌}
use Prim.Native.Nat.{◌+◌, ◌-◌, ◌*◌}
use lib.Dec.{ltb}
use Rattle.rules.specs.Base.{all}
use Rattle.file.specs.Steps.{word}
use Rattle.views.specs.Views.{run}
use Rattle.record_checks.proofs.words_below.Given as goal

abbrev pub invariant-loop-k : goal.invariant-loop-k
invariant-loop-k l =
    all (λ c. ltb c l.bound) (run (word l.file) l.w l.n l.p)
    ≡ all (λ c. ltb c l.bound) (run (word l.file) l.w (l.n - l.k) (l.p + l.w * l.k))
