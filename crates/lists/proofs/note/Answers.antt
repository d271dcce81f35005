use mathlib.Core.List.{List}
use mathlib.Core.Path.{ap, ◌∙◌}
use Prim.Native.Nat.{ℕ}
use Rattle.rules.specs.Plan as Plan
use Rattle.state.specs.State.{number_at, place_at, noted}
use Rattle.records.specs.Records.{put}
use Rattle.lists.proofs.note.Goals as goal

pub returns : goal.returns
unfolding noted number_at place_at put
returns c = c.put16-2.ensures ∙ ap (λ (w : List ℕ). put w (place_at c.args.n) (Plan.u16 c.args.at)) c.put16.ensures
