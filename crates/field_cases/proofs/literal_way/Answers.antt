use mathlib.Core.Path.{sym, ap, ◌∙◌}
use Rattle.field_cases.specs.FieldCases.{literal_way}
use Rattle.field_cases.proofs.literal_way.Goals as goal

pub returns-then-constant_node : goal.returns-then-constant_node
unfolding literal_way
returns-then-constant_node c = ap literal_way (sym c.if-constant_node.true ∙ c.constant_node.ensures)

pub returns-else-constant_node : goal.returns-else-constant_node
unfolding literal_way
returns-else-constant_node c = ap literal_way (sym c.if-constant_node.false ∙ c.constant_node.ensures)
