use native.Mathlib.Omega.{arith}
use Rattle.views.proofs.Entries.{type-here, seen-int, seen-str, seen_bytes, seen-fact, seen-record, seen-union, fact-room, fields-here, alternatives-here}
use Rattle.views.proofs.indexed.IndexedFile.type_at.Goals as goal

named : {A B : Type 0} → A × B → record { shows : A; view : B }
named p = record { shows = p.0; view = p.1 }

pub start_of-p-requires : goal.start_of-p-requires
start_of-p-requires c = omega (arith, c.args.self.now.indexed.long, c.args.self.now.indexed.types.under)

pub bounds-self-p : goal.bounds-self-p
bounds-self-p c = (type-here _ _ c.args.self.now.indexed _ _ c.requires c.start_of-p.ensures).inside

pub overflow_add-p : goal.overflow_add-p
overflow_add-p c = omega (arith, fact-room _ _ c.args.self.now.indexed _ _ c.requires c.start_of-p.ensures (omega arith))

pub half_at-requires : goal.half_at-requires
half_at-requires c = omega (arith, fact-room _ _ c.args.self.now.indexed _ _ c.requires c.start_of-p.ensures (omega arith))

pub overflow_add-p-in-4 : goal.overflow_add-p-in-4
overflow_add-p-in-4 c = omega (arith, (fields-here _ _ c.args.self.now.indexed _ _ c.requires c.start_of-p.ensures (omega arith)).inside)

pub bounds-self-p-in-4 : goal.bounds-self-p-in-4
bounds-self-p-in-4 c = (fields-here _ _ c.args.self.now.indexed _ _ c.requires c.start_of-p.ensures (omega arith)).inside

pub overflow_add-result : goal.overflow_add-result
overflow_add-result c = omega (arith, (fields-here _ _ c.args.self.now.indexed _ _ c.requires c.start_of-p.ensures (omega arith)).inside)

pub overflow_add-p-in_default : goal.overflow_add-p-in_default
overflow_add-p-in_default c = omega (arith, (alternatives-here _ _ c.args.self.now.indexed _ _ c.requires c.start_of-p.ensures (omega (arith, (type-here _ _ c.args.self.now.indexed _ _ c.requires c.start_of-p.ensures).known))).inside)

pub bounds-self-p-in_default : goal.bounds-self-p-in_default
bounds-self-p-in_default c = (alternatives-here _ _ c.args.self.now.indexed _ _ c.requires c.start_of-p.ensures (omega (arith, (type-here _ _ c.args.self.now.indexed _ _ c.requires c.start_of-p.ensures).known))).inside

pub overflow_add-result-in_default : goal.overflow_add-result-in_default
overflow_add-result-in_default c = omega (arith, (alternatives-here _ _ c.args.self.now.indexed _ _ c.requires c.start_of-p.ensures (omega (arith, (type-here _ _ c.args.self.now.indexed _ _ c.requires c.start_of-p.ensures).known))).inside)

pub returns-in-0 : goal.returns-in-0
returns-in-0 c = named (seen-int _ _ c.args.self.now.indexed _ _ c.requires c.start_of-p.ensures (omega arith))

pub returns-in-1 : goal.returns-in-1
returns-in-1 c = named (seen-str _ _ c.args.self.now.indexed _ _ c.requires c.start_of-p.ensures (omega arith))

pub returns-in-2 : goal.returns-in-2
returns-in-2 c = named (seen_bytes _ _ c.args.self.now.indexed _ _ c.requires c.start_of-p.ensures (omega arith))

pub returns-in-3 : goal.returns-in-3
returns-in-3 c = named (seen-fact _ _ c.args.self.now.indexed _ _ c.requires c.start_of-p.ensures _ (omega arith) c.half_at.ensures)

pub returns-in-4 : goal.returns-in-4
returns-in-4 c = named (seen-record _ _ c.args.self.now.indexed _ _ c.requires c.start_of-p.ensures _ (omega arith) c.from.ensures)

pub returns-in_default : goal.returns-in_default
returns-in_default c = named (seen-union _ _ c.args.self.now.indexed _ _ c.requires c.start_of-p.ensures _ (omega (arith, (type-here _ _ c.args.self.now.indexed _ _ c.requires c.start_of-p.ensures).known)) c.from-in_default.ensures)
