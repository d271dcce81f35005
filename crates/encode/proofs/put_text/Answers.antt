use mathlib.Core.Path.{sym, ◌∙◌}
use Rattle.encode.proofs.Puts.{text-plain}
use Rattle.encode.proofs.put_text.Goals as goal

pub returns-then-is_plain : goal.returns-then-is_plain
returns-then-is_plain c = text-plain _ _ _ _ _ _ _ (sym c.is_plain.ensures ∙ c.if-is_plain.true) c.put_plain.ensures
