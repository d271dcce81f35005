use mathlib.Core.Path.{◌≡◌, sym, ap}
use native.Mathlib.Omega.{arith}
use Rattle.rules.specs.File.{op_of_number}
use Rattle.views.proofs.compare_op.Goals as goal

pub returns-in-0 : goal.returns-in-0
unfolding op_of_number
returns-in-0 c = let e : c.args.b ≡ 0 = omega arith in sym (ap op_of_number e)

pub returns-in-1 : goal.returns-in-1
unfolding op_of_number
returns-in-1 c = let e : c.args.b ≡ 1 = omega arith in sym (ap op_of_number e)

pub returns-in-2 : goal.returns-in-2
unfolding op_of_number
returns-in-2 c = let e : c.args.b ≡ 2 = omega arith in sym (ap op_of_number e)

pub returns-in_default : goal.returns-in_default
unfolding op_of_number
returns-in_default c = let e : c.args.b ≡ 3 = omega arith in sym (ap op_of_number e)
