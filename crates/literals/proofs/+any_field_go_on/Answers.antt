use Rattle.field_cases.proofs.Opens.{count-is}
use mathlib.Core.Path.{sym, ap, ◌∙◌}
use native.Mathlib.Omega.{arith}
use Rattle.file.specs.Tables.{tables_of}
use Rattle.accepted_file.proofs.Given.{sound-tables}
use Rattle.tables.specs.declared.Fate.{Fate}
use Rattle.tables.specs.Recalled.{fate_option}
use Rattle.tables.proofs.Fates.{same-digit}
use Rattle.tables.proofs.Recalls.{any-node, any-recalled}
use Rattle.literals.proofs.Going.{going-first, going-missing, going-clear, going-met, going_end}
use Rattle.literals.proofs.Steps.{met-known, met-fields, met-below, met-payload, payload-below, stepped-in}
use Rattle.literals.proofs.Same.{recalled-met}
use Rattle.literals.proofs.+any_field_go_on.Goals as goal

pub any_field-pieces-opened-requires : goal.any_field-pieces-opened-requires
any_field-pieces-opened-requires t c = c.requires

pub any_field-returns-then-opened-eq0 : goal.any_field-returns-then-opened-eq0
any_field-returns-then-opened-eq0 t c = record { is = going_end _ _ _ _ 0 (going-first _ _ _ _) (omega (arith, c.if-opened-eq0.true, count-is _ _ _ _ _ c.pieces-opened.ensures.opens)) }

pub any_field-recall_any-requires : goal.any_field-recall_any-requires
any_field-recall_any-requires t c = c.requires

pub any_field-returns-in-Some : goal.any_field-returns-in-Some
any_field-returns-in-Some t c =
    let e = sym c.recall_any.ensures ∙ ap fate_option c.in-Some.is in
    rw (c.eq.ensures ∙ same-digit c.in-Some.fate Fate.Met)
    (recalled-met _ _ c.args.file.now.accepted _ _ _ (any-node _ _ _ c.args.ty _ e) c.requires
    (omega (arith, c.if-opened-eq0.false, count-is _ _ _ _ _ c.pieces-opened.ensures.opens)) (any-recalled _ _ _ _ _ e))

pub any_field-loop-i-init : goal.any_field-loop-i-init
any_field-loop-i-init t c = going-first _ _ _ _

pub any_field-piece_at-p-requires : goal.any_field-piece_at-p-requires
any_field-piece_at-p-requires t c = record { ty_in_bounds = c.requires; opened = c.pieces-opened.ensures.opens; i_lt_count = c.loop-i-test.true }

pub any_field-step_at-requires : goal.any_field-step_at-requires
any_field-step_at-requires t c = c.piece_at-p.ensures.lower.known

pub any_field-go_on-requires : goal.any_field-go_on-requires
any_field-go_on-requires t c =
    let l = c.piece_at-p.ensures.lower in
    (omega (arith, l.lower, c.decreases), (l.known, stepped-in _ (sound-tables _ _ c.args.file.now.accepted) _ _ _ l.known c.step_at.ensures))

pub any_field-returns-then-go_on : goal.any_field-returns-then-go_on
any_field-returns-then-go_on t c =
    let k = c.piece_at-p.ensures in
    record {
      is = going-met _ _ _ _ _ c.loop-i.invariant (omega (arith, c.loop-i-test.true, count-is _ _ _ _ _ c.pieces-opened.ensures.opens)) _ k _ c.in-Some-pattern.is
          (λ limit l. sym c.if-go_on.true ∙ met-below _ _ _ _ _ c.step_at.ensures c.go_on.ensures limit (omega (arith, k.lower.lower, l)));
    }

pub any_field-loop-i-preserved : goal.any_field-loop-i-preserved
any_field-loop-i-preserved t c =
    let k = c.piece_at-p.ensures in
    going-clear _ _ _ _ _ c.loop-i.invariant (omega (arith, c.loop-i-test.true, count-is _ _ _ _ _ c.pieces-opened.ensures.opens)) _ k _ c.in-Some-pattern.is
    (λ limit l. sym c.if-go_on.false ∙ met-below _ _ _ _ _ c.step_at.ensures c.go_on.ensures limit (omega (arith, k.lower.lower, l)))

pub any_field-loop-i-preserved-in_default-pattern : goal.any_field-loop-i-preserved-in_default-pattern
any_field-loop-i-preserved-in_default-pattern t c = going-missing _ _ _ _ _ c.loop-i.invariant (omega (arith, c.loop-i-test.true, count-is _ _ _ _ _ c.pieces-opened.ensures.opens)) _ c.piece_at-p.ensures c.in_default-pattern.is

pub any_field-returns : goal.any_field-returns
any_field-returns t c = record { is = going_end _ _ _ _ _ c.loop-i.invariant (omega (arith, c.loop-i-test.false, count-is _ _ _ _ _ c.pieces-opened.ensures.opens)) }

pub go_on-any_field-requires : goal.go_on-any_field-requires
go_on-any_field-requires t c = (omega (arith, c.decreases), c.requires.ty_in_bounds)

pub go_on-step_at-requires : goal.go_on-step_at-requires
go_on-step_at-requires t c = (payload-below (tables_of c.args.file.now.tables.bytes.now) _ _ _ _ c.in-Payload.is c.requires.step_in).1

pub go_on-go_on-requires : goal.go_on-go_on-requires
go_on-go_on-requires t c =
    let l = payload-below (tables_of c.args.file.now.tables.bytes.now) _ _ _ _ c.in-Payload.is c.requires.step_in in
    (omega (arith, l.0, c.decreases), (l.1, stepped-in _ (sound-tables _ _ c.args.file.now.accepted) _ _ _ l.1 c.step_at.ensures))

pub go_on-returns-in-Known : goal.go_on-returns-in-Known
go_on-returns-in-Known t c = met-known _ _ _ _ c.in-Known.is

pub go_on-returns-in-Fields : goal.go_on-returns-in-Fields
go_on-returns-in-Fields t c = met-fields _ _ _ _ _ c.in-Fields.is c.any_field.ensures

pub go_on-returns-in-Payload : goal.go_on-returns-in-Payload
go_on-returns-in-Payload t c = met-payload _ _ _ _ _ _ _ c.in-Payload.is c.requires.step_in c.step_at.ensures c.go_on.ensures
