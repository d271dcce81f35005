use native.Mathlib.Omega.{arith}
use Rattle.views.proofs.Entries.{level-here}
use Rattle.views.proofs.indexed.IndexedFile.level_at.Goals as goal

pub start_of-p-requires : goal.start_of-p-requires
start_of-p-requires c = omega (arith, c.args.self.now.indexed.long, c.args.self.now.indexed.levels.under)

pub half_at-requires : goal.half_at-requires
half_at-requires c = omega (arith, (level-here _ _ c.args.self.now.indexed _ _ c.requires c.start_of-p.ensures).0)

pub overflow_add-p : goal.overflow_add-p
overflow_add-p c = omega (arith, (level-here _ _ c.args.self.now.indexed _ _ c.requires c.start_of-p.ensures).0)

pub half_at-requires-2 : goal.half_at-requires-2
half_at-requires-2 c = omega (arith, (level-here _ _ c.args.self.now.indexed _ _ c.requires c.start_of-p.ensures).0)

pub overflow_add-p-2 : goal.overflow_add-p-2
overflow_add-p-2 c = omega (arith, (level-here _ _ c.args.self.now.indexed _ _ c.requires c.start_of-p.ensures).0)

pub word_at-requires : goal.word_at-requires
word_at-requires c = omega (arith, (level-here _ _ c.args.self.now.indexed _ _ c.requires c.start_of-p.ensures).0)

pub returns : goal.returns
returns c = rw (c.half_at.ensures, c.half_at-2.ensures, c.word_at.ensures.reads) (level-here _ _ c.args.self.now.indexed _ _ c.requires c.start_of-p.ensures).1
