use Rattle.std.proofs.Common.{rules, sym, ◌∙◌}
use Rattle.zeroes.specs.Zeroed.{zeroed}
use Rattle.zeroes.proofs.Blocks.{clean}
use Rattle.zeroes.proofs.clear.Goals as goal

pub returns-then-bits-ne0 : goal.returns-then-bits-ne0
unfolding zeroed
returns-then-bits-ne0 c = search rules

pub returns-else-bits-ne0 : goal.returns-else-bits-ne0
returns-else-bits-ne0 c = clean _ (sym c.bits.ensures ∙ c.if-bits-ne0.false)
