use mathlib.Core.Path.{refl}
use Rattle.views.specs.Views.{field_at}
use Rattle.views.proofs.field_ty_at.Goals as goal

pub returns : goal.returns
unfolding field_at
returns c = rw (c.word_at.ensures.reads, c.word_at-2.ensures.reads) refl
