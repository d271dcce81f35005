use native.Mathlib.Omega.{arith}
use mathlib.Core.Path.{refl, sym, ◌∙◌}
use Rattle.level_frame.proofs.Puts.{parts-joined, parts-other}
use Rattle.level_frame.proofs.parts_len.Goals as goal

pub returns-then-is_joining : goal.returns-then-is_joining
returns-then-is_joining c = (λ T. parts-joined _ T _ (sym (c.is_joining.ensures T) ∙ c.if-is_joining.true) refl, omega arith)

pub returns-else-is_joining : goal.returns-else-is_joining
returns-else-is_joining c = (λ T. parts-other _ T _ (sym (c.is_joining.ensures T) ∙ c.if-is_joining.false) refl, omega arith)
