use Rattle.std.proofs.Common.{◌≡◌, refl}
use denote.Enum.Declared.{tag_of}
use Rattle.rules.specs.File.{op_number}
use Rattle.views.specs.Views.{op_of}
use Rattle.views.specs.declared.CompareOp.{CompareOp}
use Rattle.views.specs.declared.CompareOp.TheVariants as Op
use Rattle.views.specs.contracts.CompareOp.{the_type}
use Rattle.views.proofs.op_number.Goals as goal

number-is : (op : CompareOp) → tag_of the_type op ≡ op_number (op_of op)
unfolding op_number
number-is Op.Lt = refl
number-is Op.Le = refl
number-is Op.Gt = refl
number-is Op.Ge = refl

pub returns : goal.returns
returns c = number-is c.args.op
