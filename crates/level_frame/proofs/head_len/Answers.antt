use native.Mathlib.Omega.{arith}
use mathlib.Core.Path.{sym, ◌∙◌}
use Rattle.level_frame.proofs.Puts.{head-joined, head-other}
use Rattle.level_frame.proofs.head_len.Goals as goal

pub returns-then-is_joining : goal.returns-then-is_joining
returns-then-is_joining c = (λ T. head-joined _ T (sym (c.is_joining.ensures T) ∙ c.if-is_joining.true), omega arith)

pub returns-else-is_joining : goal.returns-else-is_joining
returns-else-is_joining c = (λ T. head-other _ T (sym (c.is_joining.ensures T) ∙ c.if-is_joining.false), omega arith)
