use mathlib.Core.Path.{◌≡◌}
use Prim.Native.Nat.{◌-◌}
use lib.ListN.{length}
use lib.Dec.{leb}
use Rattle.file.specs.Tables.{tables_of}
use Rattle.rules.specs.Limits.{step_limit}
use Rattle.checks.specs.Checked.{fetched_fit}
use Rattle.views.specs.Views.{fetched_at}
use Rattle.record_checks.proofs.Every.{every}
use Rattle.checks.proofs.fetched_fit.Given as goal

abbrev pub invariant-loop-k : goal.invariant-loop-k
invariant-loop-k l = (fetched_fit (tables_of l.file.bytes.now) ≡ every (λ j. leb (length (fetched_at (tables_of l.file.bytes.now) j).path.steps) step_limit) (l.n - l.k) l.k) × (l.n ≡ length (tables_of l.file.bytes.now).fetched)
