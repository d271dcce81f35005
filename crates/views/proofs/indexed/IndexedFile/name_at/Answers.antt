use mathlib.Core.Path.{refl}
use native.Mathlib.Omega.{arith}
use Rattle.views.proofs.Entries.{name-seen, text-shown}
use Rattle.views.proofs.indexed.IndexedFile.name_at.Goals as goal

pub start_of-p-requires : goal.start_of-p-requires
start_of-p-requires c = omega (arith, c.args.self.now.indexed.long, c.args.self.now.indexed.names.under)

pub overflow_add-result : goal.overflow_add-result
overflow_add-result c = omega (arith, (name-seen _ _ c.args.self.now.indexed _ _ _ c.requires c.start_of-p.ensures refl).0)

pub bounds-self-p : goal.bounds-self-p
bounds-self-p c = (name-seen _ _ c.args.self.now.indexed _ _ _ c.requires c.start_of-p.ensures refl).0

pub returns : goal.returns
returns c = record { shows = (name-seen _ _ c.args.self.now.indexed _ _ _ c.requires c.start_of-p.ensures c.from.ensures).1; view = text-shown _ _ _ _ c.start_of-p.ensures c.from.ensures }
