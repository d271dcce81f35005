use mathlib.Core.Path.{refl}
use Rattle.state.specs.Levels.{paging}
use Rattle.page.proofs.paging.Goals as goal

pub returns : goal.returns
unfolding paging
returns c = refl
