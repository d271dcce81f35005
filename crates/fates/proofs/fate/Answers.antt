use mathlib.Core.Path.{sym, ◌∙◌}
use Rattle.fates.proofs.Hearing.{fate-bytes, fate-met, fate-heard, fate-quiet}
use Rattle.fates.proofs.fate.Goals as goal

pub returns-then-not-lacks_bytes : goal.returns-then-not-lacks_bytes
returns-then-not-lacks_bytes c = fate-bytes _ _ _ (sym c.lacks_bytes.ensures ∙ c.if-not-lacks_bytes.true)

pub returns-then-brought_meets : goal.returns-then-brought_meets
returns-then-brought_meets c = fate-met _ _ _ (sym c.lacks_bytes.ensures ∙ c.if-not-lacks_bytes.false) (sym c.brought_meets.ensures ∙ c.if-brought_meets.true)

pub returns-then-heard : goal.returns-then-heard
returns-then-heard c = fate-heard _ _ _ (sym c.lacks_bytes.ensures ∙ c.if-not-lacks_bytes.false) (sym c.brought_meets.ensures ∙ c.if-brought_meets.false) c.requires.ty_in_bounds _ c.heard.ensures c.if-heard.true

pub returns-else-heard : goal.returns-else-heard
returns-else-heard c = fate-quiet _ _ _ (sym c.lacks_bytes.ensures ∙ c.if-not-lacks_bytes.false) (sym c.brought_meets.ensures ∙ c.if-brought_meets.false) c.requires.ty_in_bounds _ c.heard.ensures c.if-heard.false
