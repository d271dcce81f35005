use mathlib.Core.Path.{sym, ◌∙◌}
use Rattle.fates.proofs.Bindings.{binding-none, binding-part}
use Rattle.fates.proofs.remember_binding.Goals as goal

pub returns-in-Some : goal.returns-in-Some
returns-in-Some c = c.remember_part.ensures ∙ binding-part _ _ _ _ (sym (c.in-Some.is) ∙ c.const_record.ensures)

pub returns-in_default : goal.returns-in_default
returns-in_default c = binding-none _ _ _ (sym (c.in_default.is) ∙ c.const_record.ensures)
