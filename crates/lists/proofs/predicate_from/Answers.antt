use mathlib.Core.Path.{ap, ◌∙◌}
use Rattle.views.specs.Views.{predicate_maybe}
use Rattle.views.proofs.Entries.{no-predicate, a-predicate}
use Rattle.lists.proofs.predicate_from.Goals as goal

pub returns-then-n-eq65535 : goal.returns-then-n-eq65535
returns-then-n-eq65535 c = no-predicate _ c.if-n-eq65535.true ∙ ap predicate_maybe c.word_at-n.ensures.reads

pub returns-else-n-eq65535 : goal.returns-else-n-eq65535
returns-else-n-eq65535 c = a-predicate _ c.if-n-eq65535.false ∙ ap predicate_maybe c.word_at-n.ensures.reads
