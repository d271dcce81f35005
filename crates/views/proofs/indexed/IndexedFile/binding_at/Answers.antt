use Prim.Native.Nat.{◌+◌}
use mathlib.Core.Path.{ap, ◌∙◌, ap₂}
use native.Mathlib.Omega.{arith}
use Rattle.file.specs.Steps.{word}
use Rattle.rules.specs.File.{Slot}
use Rattle.views.specs.Views.{predicate_maybe, predicate_option}
use Rattle.views.proofs.Slots.{binding-here, seen-binding, shown-binding, first-here, row_here, key_here, derived-here, field-here, value-here, const-here, field_is}
use Rattle.views.proofs.Entries.{predicate-option}
use Rattle.views.specs.declared.SlotView.TheVariants as Sv
use Rattle.views.proofs.indexed.IndexedFile.binding_at.Goals as goal

pub start_of-at-requires : goal.start_of-at-requires
start_of-at-requires c = omega (arith, c.args.self.now.indexed.long, c.args.self.now.indexed.bindings.under)

pub word_at-name-requires : goal.word_at-name-requires
word_at-name-requires c = (binding-here _ _ c.args.self.now.indexed _ _ c.requires c.start_of-at.ensures).room

pub overflow_add-q : goal.overflow_add-q
overflow_add-q c = omega (arith, ((binding-here _ _ c.args.self.now.indexed _ _ c.requires c.start_of-at.ensures)).room)

pub overflow_add-p : goal.overflow_add-p
overflow_add-p c = omega (arith, ((binding-here _ _ c.args.self.now.indexed _ _ c.requires c.start_of-at.ensures)).kinded.inside)

pub half_at-requires : goal.half_at-requires
half_at-requires c = first-here _ _ _ ((binding-here _ _ c.args.self.now.indexed _ _ c.requires c.start_of-at.ensures))

pub bounds-self-q : goal.bounds-self-q
bounds-self-q c = ((binding-here _ _ c.args.self.now.indexed _ _ c.requires c.start_of-at.ensures)).kinded.inside

pub overflow_add-p-in-0 : goal.overflow_add-p-in-0
overflow_add-p-in-0 c = omega (arith, (row_here _ _ _ ((binding-here _ _ c.args.self.now.indexed _ _ c.requires c.start_of-at.ensures)) (omega arith)).0)

pub half_at-requires-in-0 : goal.half_at-requires-in-0
half_at-requires-in-0 c = omega (arith, (row_here _ _ _ ((binding-here _ _ c.args.self.now.indexed _ _ c.requires c.start_of-at.ensures)) (omega arith)).0)

pub overflow_add-p-in-1 : goal.overflow_add-p-in-1
overflow_add-p-in-1 c = omega (arith, (key_here _ _ _ ((binding-here _ _ c.args.self.now.indexed _ _ c.requires c.start_of-at.ensures)) (omega arith)).0)

pub word_at-requires : goal.word_at-requires
word_at-requires c = omega (arith, (key_here _ _ _ ((binding-here _ _ c.args.self.now.indexed _ _ c.requires c.start_of-at.ensures)) (omega arith)).0)

pub overflow_add-result : goal.overflow_add-result
overflow_add-result c = omega (arith, first-here _ _ _ ((binding-here _ _ c.args.self.now.indexed _ _ c.requires c.start_of-at.ensures)))

pub overflow_add-p-in-3 : goal.overflow_add-p-in-3
overflow_add-p-in-3 c = omega (arith, first-here _ _ _ ((binding-here _ _ c.args.self.now.indexed _ _ c.requires c.start_of-at.ensures)))

pub past_path-requires : goal.past_path-requires
past_path-requires c = (field-here _ _ _ ((binding-here _ _ c.args.self.now.indexed _ _ c.requires c.start_of-at.ensures)) (omega arith)).path

pub word_at-requires-in-3 : goal.word_at-requires-in-3
word_at-requires-in-3 c = omega (arith, (field-here _ _ _ ((binding-here _ _ c.args.self.now.indexed _ _ c.requires c.start_of-at.ensures)) (omega arith)).last)

pub overflow_add-p-in-4 : goal.overflow_add-p-in-4
overflow_add-p-in-4 c = omega (arith, (value-here _ _ _ ((binding-here _ _ c.args.self.now.indexed _ _ c.requires c.start_of-at.ensures)) (omega arith)).0)

pub word_at-requires-in-4 : goal.word_at-requires-in-4
word_at-requires-in-4 c = omega (arith, (value-here _ _ _ ((binding-here _ _ c.args.self.now.indexed _ _ c.requires c.start_of-at.ensures)) (omega arith)).0)

pub word_at-requires-in_default : goal.word_at-requires-in_default
word_at-requires-in_default c = first-here _ _ _ ((binding-here _ _ c.args.self.now.indexed _ _ c.requires c.start_of-at.ensures))

pub returns-in-0 : goal.returns-in-0
returns-in-0 c = let m = c.maybe_predicate.ensures ∙ ap predicate_maybe c.half_at-in-0.ensures in record { shows = seen-binding _ _ _ ((binding-here _ _ c.args.self.now.indexed _ _ c.requires c.start_of-at.ensures)) _ c.word_at-name.ensures.reads (ap₂ Slot.Row c.half_at.ensures (ap predicate_option m ∙ predicate-option _) ∙ (row_here _ _ _ ((binding-here _ _ c.args.self.now.indexed _ _ c.requires c.start_of-at.ensures)) (omega arith)).1) tt; view = shown-binding _ _ _ 0 _ _ c.start_of-at.ensures (omega arith) c.word_at-name.ensures.reads (ap₂ (λ a o. Sv.Row (record { 0 = a }) o) c.half_at.ensures m) }

pub returns-in-1 : goal.returns-in-1
returns-in-1 c = record { shows = seen-binding _ _ _ ((binding-here _ _ c.args.self.now.indexed _ _ c.requires c.start_of-at.ensures)) _ c.word_at-name.ensures.reads (ap₂ Slot.Key c.half_at.ensures c.word_at.ensures.reads ∙ (key_here _ _ _ ((binding-here _ _ c.args.self.now.indexed _ _ c.requires c.start_of-at.ensures)) (omega arith)).1) tt; view = shown-binding _ _ _ 1 _ _ c.start_of-at.ensures (omega arith) c.word_at-name.ensures.reads (ap₂ (λ a t. Sv.Key (record { 0 = a }) t) c.half_at.ensures c.word_at.ensures.reads) }

pub returns-in-2 : goal.returns-in-2
returns-in-2 c = record { shows = seen-binding _ _ _ ((binding-here _ _ c.args.self.now.indexed _ _ c.requires c.start_of-at.ensures)) _ c.word_at-name.ensures.reads (ap Slot.Derived c.half_at.ensures ∙ (derived-here _ _ _ ((binding-here _ _ c.args.self.now.indexed _ _ c.requires c.start_of-at.ensures)) (omega arith)).1) tt; view = shown-binding _ _ _ 2 _ _ c.start_of-at.ensures (omega arith) c.word_at-name.ensures.reads (ap (λ a. Sv.Derived (record { 0 = a })) c.half_at.ensures) }

pub returns-in-3 : goal.returns-in-3
returns-in-3 c =
    let last = c.word_at-in-3.ensures.reads ∙ ap (word c.args.self.now.bytes.now) c.past_path.ensures in record {
      shows = seen-binding _ _ _ ((binding-here _ _ c.args.self.now.indexed _ _ c.requires c.start_of-at.ensures)) _ c.word_at-name.ensures.reads
          (field_is _ _ _ ((binding-here _ _ c.args.self.now.indexed _ _ c.requires c.start_of-at.ensures)) _ _ (omega arith) c.half_at.ensures last)
          (field-here _ _ _ ((binding-here _ _ c.args.self.now.indexed _ _ c.requires c.start_of-at.ensures)) (omega arith)).path;
      view = shown-binding _ _ _ 3 _ _ c.start_of-at.ensures (omega arith) c.word_at-name.ensures.reads (ap₂ (λ a t. Sv.Field (record { 0 = a }) (c.start_of-at.result + 2 + 1 + 2) t) c.half_at.ensures last);
    }

pub returns-in-4 : goal.returns-in-4
returns-in-4 c = record { shows = seen-binding _ _ _ ((binding-here _ _ c.args.self.now.indexed _ _ c.requires c.start_of-at.ensures)) _ c.word_at-name.ensures.reads (ap₂ Slot.Value c.half_at.ensures c.word_at-in-4.ensures.reads ∙ (value-here _ _ _ ((binding-here _ _ c.args.self.now.indexed _ _ c.requires c.start_of-at.ensures)) (omega arith)).1) tt; view = shown-binding _ _ _ 4 _ _ c.start_of-at.ensures (omega arith) c.word_at-name.ensures.reads (ap₂ (λ a t. Sv.Value (record { 0 = a }) t) c.half_at.ensures c.word_at-in-4.ensures.reads) }

pub returns-in_default : goal.returns-in_default
returns-in_default c = record { shows = seen-binding _ _ _ ((binding-here _ _ c.args.self.now.indexed _ _ c.requires c.start_of-at.ensures)) _ c.word_at-name.ensures.reads (ap Slot.Const c.word_at-in_default.ensures.reads ∙ (const-here _ _ _ ((binding-here _ _ c.args.self.now.indexed _ _ c.requires c.start_of-at.ensures)) (omega (arith, ((binding-here _ _ c.args.self.now.indexed _ _ c.requires c.start_of-at.ensures)).kinded.known))).1) tt; view = shown-binding _ _ _ 5 _ _ c.start_of-at.ensures (omega (arith, ((binding-here _ _ c.args.self.now.indexed _ _ c.requires c.start_of-at.ensures)).kinded.known)) c.word_at-name.ensures.reads (ap Sv.Const c.word_at-in_default.ensures.reads) }
