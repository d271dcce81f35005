use mathlib.Core.Path.{refl, ap, ◌∙◌}
use Rattle.file.specs.Tables.{tables_of}
use Rattle.rules.specs.Checks.{level_in, is_predicate, is_node}
use Rattle.record_checks.proofs.Seen.{below_as}
use Rattle.record_checks.proofs.level_in.Goals as goal

pub returns : goal.returns
unfolding level_in is_predicate is_node
returns c = c.both_below.ensures ∙ below_as c.from.ensures c.count_of.ensures refl c.count_of-2.ensures ∙ ap (level_in (tables_of c.args.file.now.bytes.now)) c.level_at-l.ensures
