use Rattle.std.proofs.Common.{arith}
use Rattle.file.specs.Steps.{word}
use Rattle.file.proofs.word_at.Goals as goal

pub returns : goal.returns
unfolding word
returns c = record { reads = omega (arith, c.from.ensures, c.from_le_bytes.ensures); bounded = omega (arith, c.from.ensures) }
