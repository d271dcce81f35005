use mathlib.Core.Path.{refl}
use Rattle.views.specs.Views.{alternative_at}
use Rattle.views.proofs.alternative_at.Goals as goal

pub returns : goal.returns
unfolding alternative_at
returns c = rw (c.word_at.ensures.reads, c.long_at.ensures, c.word_at-2.ensures.reads) refl
