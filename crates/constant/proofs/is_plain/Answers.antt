use mathlib.Core.Path.{ap, ◌∙◌}
use lib.Dec.{ltb}
use Rattle.constant.proofs.Plain.{plain-least}
use Rattle.constant.proofs.is_plain.Goals as goal

pub returns : goal.returns
returns c = ap (ltb 0) c.least_byte.ensures ∙ plain-least _
