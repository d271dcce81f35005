use mathlib.Core.Path.{sym, ◌∙◌}
use Rattle.constant.proofs.Plain.{plain-length}
use Rattle.constant.proofs.escaped_len.Goals as goal

named : {A B : Type 0} → A × B → record { gives : A; bounded : B }
named p = record { gives = p.0; bounded = p.1 }

pub returns-then-is_plain : goal.returns-then-is_plain
returns-then-is_plain c = named (plain-length _ _ _ (sym c.is_plain.ensures ∙ c.if-is_plain.true))
