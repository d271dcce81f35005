use native.Mathlib.Omega.{arith}
use mathlib.Core.Path.{◌∙◌, ap}
use Prim.Native.Nat.{◌+◌}
use lib.ListN.{get_or}
use Rattle.rules.specs.File.{Binding}
use Rattle.file.proofs.Sections.{roomy}
use Rattle.views.proofs.Slots.{binding-here}
use Rattle.checks.proofs.binding_name.Goals as goal

pub overflow_add-base : goal.overflow_add-base
overflow_add-base c = omega (arith, roomy 4 (omega arith), c.args.file.now.indexed.long, c.args.file.now.indexed.bindings.under, c.requires)

pub overflow_add-base-2 : goal.overflow_add-base-2
overflow_add-base-2 c = omega (arith, roomy 4 (omega arith), c.args.file.now.indexed.long, c.args.file.now.indexed.bindings.under, c.requires)

pub offset_bounds-file-base : goal.offset_bounds-file-base
offset_bounds-file-base c = omega (arith, roomy 4 (omega arith), c.args.file.now.indexed.long, c.args.file.now.indexed.bindings.under, c.requires)

pub bounds-file-base : goal.bounds-file-base
bounds-file-base c = omega (arith, roomy 4 (omega arith), c.args.file.now.indexed.long, c.args.file.now.indexed.bindings.under, c.requires)

pub word_at-requires : goal.word_at-requires
word_at-requires c = (binding-here _ _ c.args.file.now.indexed _ _ c.requires (c.from.ensures ∙ ap (λ k. get_or c.args.file.now.index.now (k + 1 + c.args.k) 0) c.base.ensures)).room

pub returns : goal.returns
returns c =
    c.word_at.ensures.reads
    ∙ ap (λ (b : Binding). b.name) (binding-here _ _ c.args.file.now.indexed _ _ c.requires (c.from.ensures ∙ ap (λ k. get_or c.args.file.now.index.now (k + 1 + c.args.k) 0) c.base.ensures)).is
