use mathlib.Core.Path.{sym, ◌∙◌}
use borrow.Author.Tests.{eqb-true, eqb-false}
use Rattle.field_cases.proofs.Meetings.{meets-row, meets-own, meets-register, meets-mistyped, meets-key, meets-derived, meets-value, of-const}
use Rattle.field_cases.proofs.meet.Goals as goal

pub returns-then-refers_to : goal.returns-then-refers_to
returns-then-refers_to c = meets-row _ _ _ _ _ _ _ _ _ _ _ c.fact_id.ensures c.args.slot _ c.in-Row.is _ _ c.refers_to.ensures c.fact_ty.ensures c.if-refers_to.true

pub returns-then-eq : goal.returns-then-eq
returns-then-eq c = meets-own _ _ _ _ _ _ _ _ _ _ c.args.slot _ _ c.in-Field.is c.own_field.ensures (eqb-true _ _ (sym c.eq.ensures ∙ c.if-eq.true))

pub returns-else-refers_to : goal.returns-else-refers_to
returns-else-refers_to c = meets-mistyped _ _ _ _ _ _ _ _ _ _ c.diagnose.ensures c.args.slot _ _ c.in-Row.is _ _ c.refers_to.ensures c.fact_ty.ensures c.if-refers_to.false

pub returns-in-Key : goal.returns-in-Key
returns-in-Key c = meets-key _ _ _ _ _ _ _ _ _ _ c.diagnose-in-Key.ensures c.args.slot _ _ c.in-Key.is

pub returns-in-Derived : goal.returns-in-Derived
returns-in-Derived c = meets-derived _ _ _ _ _ _ _ _ _ _ c.diagnose-in-Derived.ensures c.args.slot _ c.in-Derived.is

pub returns-else-eq : goal.returns-else-eq
returns-else-eq c = meets-register _ _ _ _ _ _ _ _ _ _ c.args.slot _ _ c.in-Field.is c.register_field.ensures (eqb-false _ _ (sym c.eq.ensures ∙ c.if-eq.false))

pub returns-in-Value : goal.returns-in-Value
returns-in-Value c = meets-value _ _ _ _ _ _ _ _ _ _ c.diagnose-in-Value.ensures c.args.slot _ _ c.in-Value.is

pub returns-in-Const : goal.returns-in-Const
returns-in-Const c = of-const _ _ _ _ _ _ c.args.slot _ c.in-Const.is
