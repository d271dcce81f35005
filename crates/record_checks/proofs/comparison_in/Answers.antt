use mathlib.Core.Path.{refl, ap, ◌∙◌}
use Rattle.file.specs.Tables.{tables_of}
use Rattle.rules.specs.Checks.{comparison_in, is_node}
use Rattle.record_checks.proofs.Seen.{below_as}
use Rattle.record_checks.proofs.comparison_in.Goals as goal

pub returns : goal.returns
unfolding comparison_in is_node
returns c = c.both_below.ensures ∙ below_as refl c.count_of.ensures refl c.count_of-2.ensures ∙ ap (comparison_in (tables_of c.args.file.now.bytes.now)) c.comparison_at-c.ensures
