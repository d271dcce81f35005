use mathlib.Core.Path.{ap, ◌∙◌}
use native.Mathlib.Omega.{arith}
use Prim.Native.Nat.{◌+◌}
use lib.ListN.{get_or}
use Rattle.file.specs.Sections.{number_of}
use Rattle.file.proofs.Numbers.{number-in}
use Rattle.file.proofs.Sections.{roomy}
use Rattle.views.proofs.indexed.IndexedFile.start_of.Goals as goal

pub overflow_add-base : goal.overflow_add-base
overflow_add-base c = omega (arith, roomy (number_of c.args.s) (number-in c.args.s))

pub overflow_add-base-2 : goal.overflow_add-base-2
overflow_add-base-2 c = omega (arith, roomy (number_of c.args.s) (number-in c.args.s))

pub offset_bounds-self-base : goal.offset_bounds-self-base
offset_bounds-self-base c = omega (arith, roomy (number_of c.args.s) (number-in c.args.s), c.args.self.now.indexed.long)

pub bounds-self-base : goal.bounds-self-base
bounds-self-base c = omega (arith, roomy (number_of c.args.s) (number-in c.args.s), c.args.self.now.indexed.long)

pub returns : goal.returns
returns c = c.from.ensures ∙ ap (λ k. get_or c.args.self.now.index.now (k + 1 + c.args.t) 0) c.base.ensures
