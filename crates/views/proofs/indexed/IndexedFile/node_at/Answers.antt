use Rattle.views.proofs.Arms.{last_arm}
use mathlib.Core.Path.{refl}
use native.Mathlib.Omega.{arith}
use Rattle.rules.specs.File.{Node}
use Rattle.views.proofs.Nodes.{node-here, seen_none, one-room, seen_one, two-room, seen-two, seen-int, bytes-here, patterns-here, seen_bytes, seen-record, fuzzy-here, seen-fuzzy}
use borrow.Author.Rules.{rules}
use Rattle.views.specs.declared.NodeView.TheVariants as Nv
use Rattle.views.proofs.indexed.IndexedFile.node_at.Goals as goal

named : {A B : Type 0} → A × B → record { shows : A; view : B }
named p = record { shows = p.0; view = p.1 }

pub start_of-at-requires : goal.start_of-at-requires
start_of-at-requires c = omega (arith, c.args.self.now.indexed.long, c.args.self.now.indexed.nodes.under)

pub overflow_add-p : goal.overflow_add-p
overflow_add-p c = omega (arith, (node-here _ _ c.args.self.now.indexed _ _ c.requires c.start_of-at.ensures).inside)

pub bounds-self-at : goal.bounds-self-at
bounds-self-at c = (node-here _ _ c.args.self.now.indexed _ _ c.requires c.start_of-at.ensures).inside

pub word_at-requires : goal.word_at-requires
word_at-requires c = one-room _ _ c.args.self.now.indexed _ _ c.requires c.start_of-at.ensures 1 Node.Str refl (omega arith)

pub bounds-self-p : goal.bounds-self-p
bounds-self-p c = (bytes-here _ _ c.args.self.now.indexed _ _ c.requires c.start_of-at.ensures (omega arith)).inside

pub overflow_add-result : goal.overflow_add-result
overflow_add-result c = omega (arith, (bytes-here _ _ c.args.self.now.indexed _ _ c.requires c.start_of-at.ensures (omega arith)).inside)

pub word_at-requires-in-3 : goal.word_at-requires-in-3
word_at-requires-in-3 c = one-room _ _ c.args.self.now.indexed _ _ c.requires c.start_of-at.ensures 3 Node.Var refl (omega arith)

pub word_at-requires-in-6 : goal.word_at-requires-in-6
word_at-requires-in-6 c = one-room _ _ c.args.self.now.indexed _ _ c.requires c.start_of-at.ensures 6 Node.Prefix refl (omega arith)

pub word_at-requires-in-7 : goal.word_at-requires-in-7
word_at-requires-in-7 c = omega (arith, (fuzzy-here _ _ c.args.self.now.indexed _ _ c.requires c.start_of-at.ensures (omega arith)).room)

pub overflow_add-result-in-7 : goal.overflow_add-result-in-7
overflow_add-result-in-7 c = omega (arith, (fuzzy-here _ _ c.args.self.now.indexed _ _ c.requires c.start_of-at.ensures (omega arith)).room)

pub bounds-self-p-in-7 : goal.bounds-self-p-in-7
bounds-self-p-in-7 c = omega (arith, (fuzzy-here _ _ c.args.self.now.indexed _ _ c.requires c.start_of-at.ensures (omega arith)).room)

pub overflow_add-p-in-7 : goal.overflow_add-p-in-7
overflow_add-p-in-7 c = omega (arith, (fuzzy-here _ _ c.args.self.now.indexed _ _ c.requires c.start_of-at.ensures (omega arith)).room)

pub bounds-self-p-in-7-2 : goal.bounds-self-p-in-7-2
bounds-self-p-in-7-2 c = omega (arith, (fuzzy-here _ _ c.args.self.now.indexed _ _ c.requires c.start_of-at.ensures (omega arith)).room)

pub anchor_of-requires : goal.anchor_of-requires
anchor_of-requires c = (fuzzy-here _ _ c.args.self.now.indexed _ _ c.requires c.start_of-at.ensures (omega arith)).known

pub bounds-self-p-in-8 : goal.bounds-self-p-in-8
bounds-self-p-in-8 c = (patterns-here _ _ c.args.self.now.indexed _ _ c.requires c.start_of-at.ensures (omega arith)).inside

pub overflow_add-result-in-8 : goal.overflow_add-result-in-8
overflow_add-result-in-8 c = omega (arith, (patterns-here _ _ c.args.self.now.indexed _ _ c.requires c.start_of-at.ensures (omega arith)).inside)

pub word_at-requires-in-9 : goal.word_at-requires-in-9
word_at-requires-in-9 c = omega (arith, two-room _ _ c.args.self.now.indexed _ _ c.requires c.start_of-at.ensures 9 Node.Access refl (omega arith))

pub overflow_add-p-in-9 : goal.overflow_add-p-in-9
overflow_add-p-in-9 c = omega (arith, two-room _ _ c.args.self.now.indexed _ _ c.requires c.start_of-at.ensures 9 Node.Access refl (omega arith))

pub word_at-requires-in-9-2 : goal.word_at-requires-in-9-2
word_at-requires-in-9-2 c = omega (arith, two-room _ _ c.args.self.now.indexed _ _ c.requires c.start_of-at.ensures 9 Node.Access refl (omega arith))

pub word_at-requires-in-10 : goal.word_at-requires-in-10
word_at-requires-in-10 c = one-room _ _ c.args.self.now.indexed _ _ c.requires c.start_of-at.ensures 10 Node.Value refl (omega arith)

pub word_at-requires-in-11 : goal.word_at-requires-in-11
word_at-requires-in-11 c = omega (arith, two-room _ _ c.args.self.now.indexed _ _ c.requires c.start_of-at.ensures 11 Node.Select refl (omega arith))

pub overflow_add-p-in-11 : goal.overflow_add-p-in-11
overflow_add-p-in-11 c = omega (arith, two-room _ _ c.args.self.now.indexed _ _ c.requires c.start_of-at.ensures 11 Node.Select refl (omega arith))

pub word_at-requires-in-11-2 : goal.word_at-requires-in-11-2
word_at-requires-in-11-2 c = omega (arith, two-room _ _ c.args.self.now.indexed _ _ c.requires c.start_of-at.ensures 11 Node.Select refl (omega arith))

pub half_at-requires : goal.half_at-requires
half_at-requires c = omega (arith, two-room _ _ c.args.self.now.indexed _ _ c.requires c.start_of-at.ensures 14 Node.Fact refl (omega arith))

pub overflow_add-p-in-14 : goal.overflow_add-p-in-14
overflow_add-p-in-14 c = omega (arith, two-room _ _ c.args.self.now.indexed _ _ c.requires c.start_of-at.ensures 14 Node.Fact refl (omega arith))

pub word_at-requires-in-14 : goal.word_at-requires-in-14
word_at-requires-in-14 c = omega (arith, two-room _ _ c.args.self.now.indexed _ _ c.requires c.start_of-at.ensures 14 Node.Fact refl (omega arith))

pub returns-in-0 : goal.returns-in-0
returns-in-0 c = named (seen-int _ _ c.args.self.now.indexed _ _ c.requires c.start_of-at.ensures (omega arith))

pub returns-in-1 : goal.returns-in-1
returns-in-1 c = named (seen_one _ _ c.args.self.now.indexed _ _ c.requires c.start_of-at.ensures 1 _ Node.Str Nv.Str refl refl tt refl (omega arith) c.word_at.ensures.reads)

pub returns-in-2 : goal.returns-in-2
returns-in-2 c = named (seen_bytes _ _ c.args.self.now.indexed _ _ c.requires c.start_of-at.ensures _ (omega arith) c.from.ensures)

pub returns-in-3 : goal.returns-in-3
returns-in-3 c = named (seen_one _ _ c.args.self.now.indexed _ _ c.requires c.start_of-at.ensures 3 _ Node.Var Nv.Var refl refl tt refl (omega arith) c.word_at-in-3.ensures.reads)

pub returns-in-4 : goal.returns-in-4
returns-in-4 c = named (seen_none _ _ c.args.self.now.indexed _ _ c.requires c.start_of-at.ensures 4 _ refl tt refl (omega arith))

pub returns-in-5 : goal.returns-in-5
returns-in-5 c = named (seen_none _ _ c.args.self.now.indexed _ _ c.requires c.start_of-at.ensures 5 _ refl tt refl (omega arith))

pub returns-in-6 : goal.returns-in-6
returns-in-6 c = named (seen_one _ _ c.args.self.now.indexed _ _ c.requires c.start_of-at.ensures 6 _ Node.Prefix Nv.Prefix refl refl tt refl (omega arith) c.word_at-in-6.ensures.reads)

pub returns-in-7 : goal.returns-in-7
returns-in-7 c = named (seen-fuzzy _ _ c.args.self.now.indexed _ _ c.requires c.start_of-at.ensures _ _ _ (omega arith) c.word_at-in-7.ensures.reads refl c.anchor_of.ensures)

pub returns-in-8 : goal.returns-in-8
returns-in-8 c = named (seen-record _ _ c.args.self.now.indexed _ _ c.requires c.start_of-at.ensures _ (omega arith) c.from-in-8.ensures)

pub returns-in-9 : goal.returns-in-9
returns-in-9 c = named (seen-two _ _ c.args.self.now.indexed _ _ c.requires c.start_of-at.ensures 9 _ _ Node.Access Nv.Access refl refl tt refl (omega arith) c.word_at-in-9.ensures.reads c.word_at-in-9-2.ensures.reads)

pub returns-in-10 : goal.returns-in-10
returns-in-10 c = named (seen_one _ _ c.args.self.now.indexed _ _ c.requires c.start_of-at.ensures 10 _ Node.Value Nv.Value refl refl tt refl (omega arith) c.word_at-in-10.ensures.reads)

pub returns-in-11 : goal.returns-in-11
returns-in-11 c = named (seen-two _ _ c.args.self.now.indexed _ _ c.requires c.start_of-at.ensures 11 _ _ Node.Select Nv.Select refl refl tt refl (omega arith) c.word_at-in-11.ensures.reads c.word_at-in-11-2.ensures.reads)

pub returns-in-12 : goal.returns-in-12
returns-in-12 c = named (seen_none _ _ c.args.self.now.indexed _ _ c.requires c.start_of-at.ensures 12 _ refl tt refl (omega arith))

pub returns-in-13 : goal.returns-in-13
returns-in-13 c = named (seen_none _ _ c.args.self.now.indexed _ _ c.requires c.start_of-at.ensures 13 _ refl tt refl (omega arith))

pub returns-in-14 : goal.returns-in-14
returns-in-14 c = named (seen-two _ _ c.args.self.now.indexed _ _ c.requires c.start_of-at.ensures 14 _ _ Node.Fact (λ p n. Nv.Fact (record { 0 = p }) n) refl refl tt refl (omega arith) c.half_at.ensures c.word_at-in-14.ensures.reads)

pub returns-in-15 : goal.returns-in-15
returns-in-15 c = named (seen_none _ _ c.args.self.now.indexed _ _ c.requires c.start_of-at.ensures 15 _ refl tt refl (omega arith))

pub returns-in_default : goal.returns-in_default
returns-in_default c = named (seen_none _ _ c.args.self.now.indexed _ _ c.requires c.start_of-at.ensures 16 _ refl tt refl (last_arm 16 _ (search rules) (node-here _ _ c.args.self.now.indexed _ _ c.requires c.start_of-at.ensures).known))
