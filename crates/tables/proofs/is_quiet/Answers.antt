use mathlib.Core.Path.{sym, ap, ◌∙◌}
use Rattle.tables.specs.Recalled.{fate_option}
use borrow.Author.Tests.{eqb-true, eqb-false}
use Rattle.tables.specs.declared.Fate.{Fate}
use Rattle.tables.proofs.Fates.{same-digit}
use Rattle.tables.proofs.Recalls.{any-node, quiet_none, quiet-some, quiet-other}
use Rattle.tables.proofs.is_quiet.Goals as goal

pub returns-in_default : goal.returns-in_default
returns-in_default c = quiet_none _ _ _ _ (ap fate_option (sym (c.in_default.is)) ∙ c.recall_any.ensures)

pub is_constant-requires : goal.is_constant-requires
is_constant-requires c = any-node _ _ _ c.args.t _ (sym c.recall_any.ensures ∙ ap fate_option c.in-Some.is)

pub returns-then-eq : goal.returns-then-eq
returns-then-eq c =
    let q = sym (same-digit c.in-Some.fate Fate.Quiet) ∙ sym c.eq.ensures ∙ c.if-eq.true in
    quiet-some _ _ _ _ _ _ (ap fate_option (sym (c.in-Some.is)) ∙ c.recall_any.ensures) (eqb-true _ _ q) c.is_constant.ensures

pub returns-else-eq : goal.returns-else-eq
returns-else-eq c =
    let q = sym (same-digit c.in-Some.fate Fate.Quiet) ∙ sym c.eq.ensures ∙ c.if-eq.false in
    c.if-eq.false ∙ quiet-other _ _ _ _ _ (ap fate_option (sym (c.in-Some.is)) ∙ c.recall_any.ensures) (eqb-false _ _ q)
