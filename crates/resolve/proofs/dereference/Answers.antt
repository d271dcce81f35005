use mathlib.Core.Path.{refl}
use Rattle.rules.specs.Resolve as ResolveRules
use Rattle.slots.proofs.Tidy.{plain-is, kind-is, path-cleared}
use Rattle.resolve.proofs.Answers.{gives-is, dereference-at}
use Rattle.resolve.proofs.dereference.Goals as goal

pub dereference_field-requires : goal.dereference_field-requires
dereference_field-requires c = path-cleared _ _ _ c.requires c.in-Field.is

pub returns-in-Row : goal.returns-in-Row
unfolding ResolveRules.dereference
returns-in-Row c = dereference-at _ _ (kind-is _ _ c.in-Row.is) (gives-is c.gives.ensures (plain-is _ _ refl c.plain.ensures))

pub returns-in-Key : goal.returns-in-Key
unfolding ResolveRules.dereference
returns-in-Key c = dereference-at _ _ (kind-is _ _ c.in-Key.is) (gives-is c.gives-in-Key.ensures (plain-is _ _ refl c.plain-in-Key.ensures))

pub returns-in-Derived : goal.returns-in-Derived
unfolding ResolveRules.dereference
returns-in-Derived c = dereference-at _ _ (kind-is _ _ c.in-Derived.is) (gives-is c.gives-in-Derived.ensures (plain-is _ _ refl c.plain-in-Derived.ensures))

pub returns-in-Field : goal.returns-in-Field
returns-in-Field c = dereference-at _ _ (kind-is _ _ c.in-Field.is) c.dereference_field.ensures

pub returns-in-Value : goal.returns-in-Value
returns-in-Value c = dereference-at _ _ (kind-is _ _ c.in-Value.is) c.dereference_value.ensures

pub returns-in-Const : goal.returns-in-Const
unfolding ResolveRules.dereference
returns-in-Const c = dereference-at _ _ (kind-is _ _ c.in-Const.is) (gives-is c.gives-in-Const.ensures (plain-is _ _ refl c.plain-in-Const.ensures))
