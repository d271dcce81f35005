use mathlib.Core.Path.{sym, ◌∙◌}
use Rattle.level_frame.proofs.Seeks.{bounded, with-range, plain-parts, other-parts}
use Rattle.level_frame.proofs.seek_kind.Goals as goal

pub returns-then-is_bounded : goal.returns-then-is_bounded
returns-then-is_bounded c T = bounded _ T (sym c.is_bounded.ensures ∙ c.if-is_bounded.true)

pub returns-then-kept : goal.returns-then-kept
returns-then-kept c T = with-range _ T (sym c.is_bounded.ensures ∙ c.if-is_bounded.false) _ c.kept.ensures c.if-kept.true

pub returns-then-l : goal.returns-then-l
returns-then-l c T = plain-parts _ T (sym c.is_bounded.ensures ∙ c.if-is_bounded.false) _ c.kept.ensures c.if-kept.false c.if-l.true

pub returns-else-l : goal.returns-else-l
returns-else-l c T = other-parts _ T (sym c.is_bounded.ensures ∙ c.if-is_bounded.false) _ c.kept.ensures c.if-kept.false c.if-l.false
