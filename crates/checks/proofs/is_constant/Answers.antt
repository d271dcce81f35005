use mathlib.Core.Path.{ap, ◌∙◌}
use native.Mathlib.Omega.{arith}
use Prim.Native.Nat.{ℕ}
use lib.Dec.{eqb}
use Rattle.checks.proofs.Fill.{nodes-few, bit-true}
use Rattle.checks.proofs.is_constant.Goals as goal

pub overflow_add-result : goal.overflow_add-result
overflow_add-result c = omega (arith, nodes-few _ _ c.requires.filled.indexed, c.requires.n_in_bounds)

pub offset_bounds-file-n : goal.offset_bounds-file-n
offset_bounds-file-n c = omega (arith, nodes-few _ _ c.requires.filled.indexed, c.requires.n_in_bounds)

pub bounds-file-n : goal.bounds-file-n
bounds-file-n c = omega (arith, nodes-few _ _ c.requires.filled.indexed, c.requires.n_in_bounds, c.requires.filled.indexed.long)

pub returns : goal.returns
returns c = ap (λ (k : ℕ). eqb k 1) (c.requires.filled.constant-at _ c.requires.n_in_bounds) ∙ bit-true _
