use native.Mathlib.Omega.{arith}
use mathlib.Core.Path.{ap, ap₂, ◌∙◌}
use Rattle.rules.specs.File.{Slot}
use Prim.Native.Nat.{◌+◌}
use Rattle.views.specs.Views.{predicate_option}
use Rattle.views.specs.declared.SlotView.TheVariants as Sv
use Rattle.views.proofs.Entries.{predicate-option}
use Rattle.views.proofs.Slots.{shown-slot, row_here, key_here, derived-here, field-here, value-here, const-here, field_is}
use Rattle.lists.proofs.Scans.{there, seen-view}
use Rattle.lists.proofs.slot_at.Goals as goal

pub overflow_add-q : goal.overflow_add-q
overflow_add-q c = omega (arith, (there _ _ c.requires).room)

pub overflow_add-p : goal.overflow_add-p
overflow_add-p c = omega (arith, (there _ _ c.requires).kinded.inside)

pub bounds-bytes-q : goal.bounds-bytes-q
bounds-bytes-q c = (there _ _ c.requires).kinded.inside

pub register_at-requires : goal.register_at-requires
register_at-requires c = omega (arith, (row_here _ _ _ (there _ _ c.requires) (omega arith)).0)

pub overflow_add-p-in-0 : goal.overflow_add-p-in-0
overflow_add-p-in-0 c = omega (arith, (row_here _ _ _ (there _ _ c.requires) (omega arith)).0)

pub predicate_from-requires : goal.predicate_from-requires
predicate_from-requires c = omega (arith, (row_here _ _ _ (there _ _ c.requires) (omega arith)).0)

pub register_at-requires-in-1 : goal.register_at-requires-in-1
register_at-requires-in-1 c = omega (arith, (key_here _ _ _ (there _ _ c.requires) (omega arith)).0)

pub overflow_add-p-in-1 : goal.overflow_add-p-in-1
overflow_add-p-in-1 c = omega (arith, (key_here _ _ _ (there _ _ c.requires) (omega arith)).0)

pub word_at-requires : goal.word_at-requires
word_at-requires c = omega (arith, (key_here _ _ _ (there _ _ c.requires) (omega arith)).0)

pub register_at-requires-in-2 : goal.register_at-requires-in-2
register_at-requires-in-2 c = omega (arith, (derived-here _ _ _ (there _ _ c.requires) (omega arith)).0)

pub register_at-requires-in-3 : goal.register_at-requires-in-3
register_at-requires-in-3 c = (field-here _ _ _ (there _ _ c.requires) (omega arith)).first

pub overflow_add-result : goal.overflow_add-result
overflow_add-result c = omega (arith, (field-here _ _ _ (there _ _ c.requires) (omega arith)).first)

pub overflow_add-p-in-3 : goal.overflow_add-p-in-3
overflow_add-p-in-3 c = omega (arith, (field-here _ _ _ (there _ _ c.requires) (omega arith)).first)

pub past_path-requires : goal.past_path-requires
past_path-requires c = (field-here _ _ _ (there _ _ c.requires) (omega arith)).last

pub register_at-requires-in-4 : goal.register_at-requires-in-4
register_at-requires-in-4 c = omega (arith, (value-here _ _ _ (there _ _ c.requires) (omega arith)).0)

pub overflow_add-p-in-4 : goal.overflow_add-p-in-4
overflow_add-p-in-4 c = omega (arith, (value-here _ _ _ (there _ _ c.requires) (omega arith)).0)

pub word_at-requires-in-4 : goal.word_at-requires-in-4
word_at-requires-in-4 c = omega (arith, (value-here _ _ _ (there _ _ c.requires) (omega arith)).0)

pub word_at-requires-in_default : goal.word_at-requires-in_default
word_at-requires-in_default c = (const-here _ _ _ (there _ _ c.requires) (omega (arith, (there _ _ c.requires).kinded.known))).0

pub returns-in-0 : goal.returns-in-0
returns-in-0 c = let r = c.requires in record { shows = seen-view _ _ r _ (ap₂ Slot.Row c.register_at.ensures (ap predicate_option c.predicate_from.ensures ∙ predicate-option _) ∙ (row_here _ _ _ (there _ _ r) (omega arith)).1) tt; view = shown-slot _ _ 0 _ (omega arith) (ap₂ (λ a o. Sv.Row (record { 0 = a }) o) c.register_at.ensures c.predicate_from.ensures) }

pub returns-in-1 : goal.returns-in-1
returns-in-1 c = let r = c.requires in record { shows = seen-view _ _ r _ (ap₂ Slot.Key c.register_at-in-1.ensures c.word_at.ensures.reads ∙ (key_here _ _ _ (there _ _ r) (omega arith)).1) tt; view = shown-slot _ _ 1 _ (omega arith) (ap₂ (λ a t. Sv.Key (record { 0 = a }) t) c.register_at-in-1.ensures c.word_at.ensures.reads) }

pub returns-in-2 : goal.returns-in-2
returns-in-2 c = let r = c.requires in record { shows = seen-view _ _ r _ (ap Slot.Derived c.register_at-in-2.ensures ∙ (derived-here _ _ _ (there _ _ r) (omega arith)).1) tt; view = shown-slot _ _ 2 _ (omega arith) (ap (λ a. Sv.Derived (record { 0 = a })) c.register_at-in-2.ensures) }

pub returns-in-3 : goal.returns-in-3
returns-in-3 c = let r = c.requires in record { shows = seen-view _ _ r _ (field_is _ _ _ (there _ _ r) _ _ (omega arith) c.register_at-in-3.ensures c.past_path.ensures) (field-here _ _ _ (there _ _ r) (omega arith)).path; view = shown-slot _ _ 3 _ (omega arith) (ap₂ (λ a t. Sv.Field (record { 0 = a }) (c.args.at + 2 + 1 + 2) t) c.register_at-in-3.ensures c.past_path.ensures) }

pub returns-in-4 : goal.returns-in-4
returns-in-4 c = let r = c.requires in record { shows = seen-view _ _ r _ (ap₂ Slot.Value c.register_at-in-4.ensures c.word_at-in-4.ensures.reads ∙ (value-here _ _ _ (there _ _ r) (omega arith)).1) tt; view = shown-slot _ _ 4 _ (omega arith) (ap₂ (λ a t. Sv.Value (record { 0 = a }) t) c.register_at-in-4.ensures c.word_at-in-4.ensures.reads) }

pub returns-in_default : goal.returns-in_default
returns-in_default c = let r = c.requires in record { shows = seen-view _ _ r _ (ap Slot.Const c.word_at-in_default.ensures.reads ∙ (const-here _ _ _ (there _ _ r) (omega (arith, (there _ _ r).kinded.known))).1) tt; view = shown-slot _ _ 5 _ (omega (arith, (there _ _ r).kinded.known)) (ap Sv.Const c.word_at-in_default.ensures.reads) }
