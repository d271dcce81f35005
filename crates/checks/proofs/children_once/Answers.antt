use mathlib.Core.Path.{◌∙◌}
use Rattle.checks.proofs.Fill.{nodes-few}
use Rattle.checks.proofs.Marks.{marks-tell}
use Rattle.checks.proofs.children_once.Goals as goal

pub returns : goal.returns
returns c = c.mark_nodes.ensures.gives ∙ marks-tell _ c.requires 2048 (nodes-few _ _ c.args.file.now.indexed)
