use mathlib.Core.Path.{ap, ◌∙◌}
use Prim.Native.Nat.{ℕ, ◌+◌, ◌%◌}
use native.Mathlib.Omega.{arith}
use Rattle.rules.specs.File.{op_of_number}
use Rattle.rules.specs.Placement.{flipped}
use Rattle.views.specs.Views.{op_of}
use Rattle.seek.proofs.Consts.{number-below}
use Rattle.seek.proofs.bounds.flipped.Goals as goal

pub overflow_add-op_number : goal.overflow_add-op_number
overflow_add-op_number c = omega (arith, c.op_number.ensures, number-below (op_of c.args.op))

pub returns : goal.returns
unfolding flipped
returns c = c.compare_op.ensures ∙ ap (λ (n : ℕ). op_of_number ((n + 2) % 4)) c.op_number.ensures
