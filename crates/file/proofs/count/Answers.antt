use mathlib.Core.Path.{sym, ap, ◌∙◌}
use native.Mathlib.Omega.{arith}
use Rattle.std.specs.Prelude.{Ok}
use Rattle.file.proofs.Sections.{count_cut, count-over, count-in}
use Rattle.file.proofs.count.Goals as goal

pub returns-then-file-p-lt2 : goal.returns-then-file-p-lt2
returns-then-file-p-lt2 c = sym (count_cut _ _ _ (omega arith) (omega arith))

pub returns-then-n-limit : goal.returns-then-n-limit
returns-then-n-limit c = sym (count-over _ _ _ (omega arith) (omega arith))

pub returns : goal.returns
returns c = let w = c.word_at-n.ensures.reads in ap Ok w ∙ sym (count-in _ _ _ (omega arith) (omega arith))
