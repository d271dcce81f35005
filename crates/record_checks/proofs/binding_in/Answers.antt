use mathlib.Core.Path.{ap, ap₂, ◌∙◌}
use mathlib.Core.Logic.{⊎_elim}
use native.Mathlib.Omega.{arith}
use lib.Dec.{ltb}
use Rattle.rules.specs.Checks.{slot_in, none_or, is_type, is_predicate, is_node}
use Rattle.record_checks.proofs.Seen.{binding-no, binding-yes, by-slot, row_in}
use Rattle.record_checks.proofs.binding_in.Goals as goal

pub returns-then-v-count_of : goal.returns-then-v-count_of
returns-then-v-count_of c = binding-no _ _ _ _ c.binding_at-v.ensures.shows (omega (arith, c.count_of.ensures))

pub returns-in-None : goal.returns-in-None
unfolding none_or
returns-in-None c = binding-yes _ _ _ _ c.binding_at-v.ensures.shows _ (omega (arith, c.count_of.ensures)) (row_in _ _ _ _ _ _ _ c.binding_at-v.ensures.shows c.in-Row.is c.in-None.is)

pub returns-in-Some : goal.returns-in-Some
unfolding none_or is_predicate
returns-in-Some c = binding-yes _ _ _ _ c.binding_at-v.ensures.shows _ (omega (arith, c.count_of.ensures)) (ap₂ ltb c.from.ensures c.count_of-in-Some.ensures ∙ row_in _ _ _ _ _ _ _ c.binding_at-v.ensures.shows c.in-Row.is c.in-Some.is)

pub returns-in-Key : goal.returns-in-Key
unfolding slot_in is_type
returns-in-Key c =
    let s = c.binding_at-v.ensures.shows in
    binding-yes _ _ _ _ s _ (omega (arith, c.count_of.ensures))
    (ap (ltb _) c.count_of-types.ensures ∙ ⊎_elim (λ w. by-slot (slot_in _) s w.1) (λ w. by-slot (slot_in _) s w.1) c.in-Key.is)

pub returns-in-Derived : goal.returns-in-Derived
unfolding slot_in
returns-in-Derived c = binding-yes _ _ _ _ c.binding_at-v.ensures.shows _ (omega (arith, c.count_of.ensures)) (by-slot (slot_in _) c.binding_at-v.ensures.shows c.in-Derived.is)

pub returns-in-Field : goal.returns-in-Field
unfolding slot_in is_type
returns-in-Field c = binding-yes _ _ _ _ c.binding_at-v.ensures.shows _ (omega (arith, c.count_of.ensures)) (ap (ltb _) c.count_of-types.ensures ∙ by-slot (slot_in _) c.binding_at-v.ensures.shows c.in-Field.is)

pub returns-in-Const : goal.returns-in-Const
unfolding slot_in is_node
returns-in-Const c = binding-yes _ _ _ _ c.binding_at-v.ensures.shows _ (omega (arith, c.count_of.ensures)) (ap (ltb _) c.count_of-in-Const.ensures ∙ by-slot (slot_in _) c.binding_at-v.ensures.shows c.in-Const.is)
