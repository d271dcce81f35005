use mathlib.Core.Path.{ap, ◌∙◌}
use native.Mathlib.Omega.{arith}
use Prim.Native.Nat.{◌+◌, ℕ}
use lib.ListN.{get_or}
use Rattle.file.specs.Steps.{base_of}
use Rattle.views.proofs.Entries.{predicate-here}
use Rattle.views.proofs.indexed.IndexedFile.predicate_at.Goals as goal

pub start_of-at-requires : goal.start_of-at-requires
start_of-at-requires c = omega (arith, c.args.self.now.indexed.long, c.args.self.now.indexed.predicates.under, c.from-n.ensures, c.requires)

pub word_at-requires : goal.word_at-requires
word_at-requires c = omega (arith, (predicate-here _ _ c.args.self.now.indexed _ _ c.requires ((c.start_of-at.ensures ∙ ap (λ (k : ℕ). get_or c.args.self.now.index.now (base_of 2 + 1 + k) 0) c.from-n.ensures))).0)

pub overflow_add-at : goal.overflow_add-at
overflow_add-at c = omega (arith, (predicate-here _ _ c.args.self.now.indexed _ _ c.requires ((c.start_of-at.ensures ∙ ap (λ (k : ℕ). get_or c.args.self.now.index.now (base_of 2 + 1 + k) 0) c.from-n.ensures))).0)

pub word_at-requires-2 : goal.word_at-requires-2
word_at-requires-2 c = omega (arith, (predicate-here _ _ c.args.self.now.indexed _ _ c.requires ((c.start_of-at.ensures ∙ ap (λ (k : ℕ). get_or c.args.self.now.index.now (base_of 2 + 1 + k) 0) c.from-n.ensures))).0)

pub returns : goal.returns
returns c = rw (c.word_at.ensures.reads, c.maybe_type.ensures, c.word_at-2.ensures.reads) (predicate-here _ _ c.args.self.now.indexed _ _ c.requires ((c.start_of-at.ensures ∙ ap (λ (k : ℕ). get_or c.args.self.now.index.now (base_of 2 + 1 + k) 0) c.from-n.ensures))).1
