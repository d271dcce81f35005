use mathlib.Core.Path.{◌≡◌}
use Prim.Native.Nat.{◌+◌, ◌-◌, ◌*◌, ◌<◌, max}
use lib.ListN.{drop}
use Rattle.file.specs.Steps.{word, depths_base}
use Rattle.views.specs.Views.{run}
use Rattle.rules.specs.File.{deepest}
use Rattle.checks.proofs.deepest_of.Given as goal

abbrev pub invariant-loop-k : goal.invariant-loop-k
invariant-loop-k l =
    (deepest (drop depths_base l.file.index.now) (run (word l.file.bytes.now) l.w l.n l.p)
    ≡ max l.most (deepest (drop depths_base l.file.index.now) (run (word l.file.bytes.now) l.w (l.n - l.k) (l.p + l.w * l.k))))
    × (l.most < 65536)
