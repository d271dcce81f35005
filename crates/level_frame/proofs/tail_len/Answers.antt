use native.Mathlib.Omega.{arith}
use Rattle.level_frame.proofs.Puts.{tail-size}
use Rattle.level_frame.proofs.tail_len.Goals as goal

pub returns : goal.returns
returns c = (λ T. tail-size _ T _ (c.folded_count.ensures.0 T), omega arith)
