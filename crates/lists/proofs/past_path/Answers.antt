use mathlib.Core.Path.{ap, ◌∙◌}
use Prim.Native.Nat.{ℕ, ◌+◌, ◌*◌}
use Rattle.file.specs.Steps.{word}
use Rattle.lists.proofs.past_path.Goals as goal

pub returns : goal.returns
returns c = c.word_at.ensures.reads ∙ ap (λ (n : ℕ). word c.args.bytes.now (c.args.at + 3 + 4 * n)) c.from.ensures
