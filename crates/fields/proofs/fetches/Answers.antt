use Rattle.std.proofs.Common.{sym, ◌∙◌}
use Rattle.std.proofs.lemmas.Bool.{not-true, not-false}
use Rattle.fields.proofs.fetches.Goals as goal

pub returns-then-ne : goal.returns-then-ne
returns-then-ne c = sym (simp (not-true _ (sym c.ne.ensures ∙ c.if-ne.true)))

pub returns : goal.returns
returns c = c.path_is.ensures ∙ sym (simp (not-false _ (sym c.ne.ensures ∙ c.if-ne.false)))
