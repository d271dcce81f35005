use mathlib.Core.Path.{◌∙◌}
use Rattle.plan_form.proofs.Lists.{item-part, item-residual, item-binding, item-select, item-diagnostic}
use Rattle.plan_form.proofs.item_end.Goals as goal

pub returns-in-Part : goal.returns-in-Part
returns-in-Part c = c.part_end.ensures ∙ item-part _ _ _ c.in-Part.is

pub returns-in-Residual : goal.returns-in-Residual
returns-in-Residual c = c.residual_end.ensures ∙ item-residual _ _ _ c.in-Residual.is

pub returns-in-Binding : goal.returns-in-Binding
returns-in-Binding c = c.binding_end.ensures ∙ item-binding _ _ _ c.in-Binding.is

pub returns-in-Select : goal.returns-in-Select
returns-in-Select c = c.select_end.ensures ∙ item-select _ _ _ c.in-Select.is

pub returns-in-Diagnostic : goal.returns-in-Diagnostic
returns-in-Diagnostic c = c.diagnostic_end.ensures ∙ item-diagnostic _ _ _ c.in-Diagnostic.is
