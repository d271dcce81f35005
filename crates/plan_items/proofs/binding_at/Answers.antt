use native.Mathlib.Omega.{arith}
use Rattle.plan_items.proofs.Slots.{binding-inside, binding-slot, binding-reads}
use Rattle.plan_items.proofs.Views.{binding-view}
use Rattle.plan_items.proofs.binding_at.Goals as goal

pub word_at-requires : goal.word_at-requires
word_at-requires c = binding-inside _ _ c.requires

pub overflow_add-p : goal.overflow_add-p
overflow_add-p c = omega (arith, binding-inside _ _ c.requires)

pub slot_at-s-requires : goal.slot_at-s-requires
slot_at-s-requires c = binding-slot _ _ c.requires

pub returns : goal.returns
returns c =
    let name = c.word_at.ensures.reads in
    let slot = c.slot_at-s in
    record {
      reads = binding-reads _ _ c.requires _ _ slot.result.end name slot.ensures.reads;
      inside = slot.ensures.inside;
      view = binding-view _ _ _ slot.result name slot.ensures.view;
    }
