use Rattle.accepted_file.proofs.Given.{few-nodes}
use native.Mathlib.Omega.{arith}
use Rattle.tables.proofs.Searches.{flag-read}
use mathlib.Core.Path.{◌∙◌}
use Rattle.tables.proofs.is_constant.Goals as goal

pub overflow_add-n : goal.overflow_add-n
overflow_add-n c = let p = c.requires in omega (arith, few-nodes _ _ c.args.file.now.accepted.indexed)

pub offset_bounds-file-n : goal.offset_bounds-file-n
offset_bounds-file-n c = let p = c.requires in omega (arith, few-nodes _ _ c.args.file.now.accepted.indexed)

pub bounds-file-n : goal.bounds-file-n
bounds-file-n c = let p = c.requires in omega (arith, few-nodes _ _ c.args.file.now.accepted.indexed)

pub returns : goal.returns
returns c = flag-read _ (c.from.ensures ∙ c.args.file.now.accepted.constants _ c.requires)
