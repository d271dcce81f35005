use mathlib.Core.Path.{sym, ◌∙◌}
use Rattle.utf8.proofs.Blocks.{ended, low-text}
use Rattle.utf8.proofs.well_formed.Goals as goal

pub returns-then-is_ascii : goal.returns-then-is_ascii
returns-then-is_ascii c = low-text _ (sym c.is_ascii.ensures ∙ c.if-is_ascii.true)

pub returns : goal.returns
returns c = ended _ _ c.after_blocks-w.ensures
