use native.Mathlib.Omega.{arith}
use mathlib.Core.Path.{◌∙◌}
use Rattle.tables.proofs.Digits.{row-none, row-some}
use Rattle.tables.proofs.recall.Goals as goal

pub returns-then-row-eq0 : goal.returns-then-row-eq0
returns-then-row-eq0 c = row-none _ _ _ c.word_or_zero-row.result c.word_or_zero-row.ensures.value (omega arith)

pub returns : goal.returns
returns c = row-some _ _ _ c.word_or_zero-row.result c.word_or_zero-word.result _ c.word_or_zero-row.ensures.value c.if-row-eq0.false c.word_or_zero-word.ensures.value (c.fate_of.ensures ∙ c.digit.ensures.is)
