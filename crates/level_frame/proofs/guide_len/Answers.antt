use native.Mathlib.Omega.{arith}
use Rattle.level_frame.proofs.Puts.{none-size, guide-size}
use Rattle.level_frame.proofs.guide_len.Goals as goal

pub returns-then-kept : goal.returns-then-kept
returns-then-kept c = (guide-size _ _ c.kept.ensures c.if-kept.true _ c.path_size.ensures.0, omega arith)

pub returns-else-kept : goal.returns-else-kept
returns-else-kept c = (none-size _ _ c.kept.ensures c.if-kept.false, omega arith)
