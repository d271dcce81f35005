use native.Mathlib.Omega.{arith}
use Rattle.state.specs.State.{word_in}
use Rattle.records.proofs.word_in.Goals as goal

pub returns : goal.returns
unfolding word_in
returns c = (omega (arith, c.byte_or_zero.ensures.0, c.byte_or_zero-2.ensures.0), omega (arith, c.byte_or_zero.ensures.1, c.byte_or_zero-2.ensures.1))
