use mathlib.Core.Path.{refl}
use Rattle.views.specs.Views.{pattern_at}
use Rattle.views.proofs.field_pattern_at.Goals as goal

pub returns : goal.returns
unfolding pattern_at
returns c = rw (c.word_at.ensures.reads, c.word_at-2.ensures.reads) refl
