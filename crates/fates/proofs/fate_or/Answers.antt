use mathlib.Core.Path.{◌∙◌}
use native.Mathlib.Omega.{arith}
use Rattle.fates.proofs.Hearing.{or-in, or-past}
use Rattle.fates.proofs.fate_or.Goals as goal

pub fate-requires : goal.fate-requires
fate-requires c = record { node_value = c.requires; ty_in_bounds = omega (arith, c.count_of.ensures, c.if-t-count_of.true) }

pub returns-then-t-count_of : goal.returns-then-t-count_of
returns-then-t-count_of c = c.digit.ensures ∙ c.fate.ensures ∙ or-in _ _ _ (omega (arith, c.count_of.ensures, c.if-t-count_of.true))

pub returns-else-t-count_of : goal.returns-else-t-count_of
returns-else-t-count_of c = or-past _ _ _ (omega (arith, c.count_of.ensures, c.if-t-count_of.false))
