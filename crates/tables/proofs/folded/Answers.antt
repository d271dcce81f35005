use Rattle.tables.proofs.Searches.{stands_self, stands-bound}
use mathlib.Core.Path.{◌∙◌, sym}
use Rattle.tables.proofs.folded.Goals as goal

pub returns-in_default : goal.returns-in_default
returns-in_default c = stands_self _ _ (sym (c.in_default.is) ∙ c.var_name.ensures)

pub returns-in-Some-const_of : goal.returns-in-Some-const_of
returns-in-Some-const_of c = stands-bound _ _ _ _ (sym (c.in-Some.is) ∙ c.var_name.ensures) (sym (c.in-Some-const_of.is) ∙ c.const_of.ensures)

pub returns-in_default-const_of : goal.returns-in_default-const_of
returns-in_default-const_of c = stands-bound _ _ _ _ (sym (c.in-Some.is) ∙ c.var_name.ensures) (sym (c.in_default-const_of.is) ∙ c.const_of.ensures)
