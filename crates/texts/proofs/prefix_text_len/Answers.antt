use native.Mathlib.Omega.{arith}
use Rattle.texts.proofs.Sizes.{text-size, past-size}
use Rattle.texts.proofs.prefix_text_len.Goals as goal

pub returns-then-name-count_of : goal.returns-then-name-count_of
returns-then-name-count_of c = (text-size _ _ _ c.prefix_len.ensures.gives, omega arith)

pub returns-else-name-count_of : goal.returns-else-name-count_of
returns-else-name-count_of c = (past-size _ _ (omega (arith, c.if-name-count_of.false, c.count_of.ensures)), omega arith)
