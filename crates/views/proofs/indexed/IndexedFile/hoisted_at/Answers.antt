use native.Mathlib.Omega.{arith}
use Rattle.views.proofs.Entries.{hoisted-here}
use Rattle.views.proofs.indexed.IndexedFile.hoisted_at.Goals as goal

pub start_of-p-requires : goal.start_of-p-requires
start_of-p-requires c = omega (arith, c.args.self.now.indexed.long, c.args.self.now.indexed.hoisted.under)

pub word_at-requires : goal.word_at-requires
word_at-requires c = omega (arith, (hoisted-here _ _ c.args.self.now.indexed _ _ c.requires c.start_of-p.ensures).0)

pub overflow_add-p : goal.overflow_add-p
overflow_add-p c = omega (arith, (hoisted-here _ _ c.args.self.now.indexed _ _ c.requires c.start_of-p.ensures).0)

pub word_at-requires-2 : goal.word_at-requires-2
word_at-requires-2 c = omega (arith, (hoisted-here _ _ c.args.self.now.indexed _ _ c.requires c.start_of-p.ensures).0)

pub returns : goal.returns
returns c = rw (c.word_at.ensures.reads, c.word_at-2.ensures.reads) (hoisted-here _ _ c.args.self.now.indexed _ _ c.requires c.start_of-p.ensures).1
