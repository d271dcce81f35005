use Rattle.record_checks.proofs.Every.{both_false, both-then}
use mathlib.Core.Path.{sym, ◌∙◌}
use Rattle.record_checks.specs.RecordChecks.{pairs_in}
use Rattle.record_checks.proofs.pairs_in.Goals as goal

pub returns-else-words_below : goal.returns-else-words_below
unfolding pairs_in
returns-else-words_below c =
    c.if-words_below.false ∙ sym (both_false _ _ (sym c.words_below.ensures ∙ c.if-words_below.false))

pub returns-then-words_below : goal.returns-then-words_below
unfolding pairs_in
returns-then-words_below c =
    c.words_below-then-words_below.ensures ∙ sym (both-then _ _ (sym c.words_below.ensures ∙ c.if-words_below.true))
