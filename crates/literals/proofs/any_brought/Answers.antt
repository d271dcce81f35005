use Rattle.field_cases.proofs.Opens.{count-is}
use mathlib.Core.Path.{sym, ◌∙◌}
use native.Mathlib.Omega.{arith}
use Rattle.rules.proofs.Sound.{passed-all}
use Rattle.accepted_file.proofs.Given.{sound-tables}
use Rattle.literals.proofs.Going.{going-first, going-missing, going-clear, going-met, going_end}
use Rattle.literals.proofs.Steps.{met-brought, put_in}
use Rattle.literals.proofs.Seen.{piece-constant}
use Rattle.literals.proofs.any_brought.Goals as goal

pub pieces-opened-requires : goal.pieces-opened-requires
pieces-opened-requires c = c.requires.ty_in_bounds

pub loop-i-init : goal.loop-i-init
loop-i-init c = going-first _ _ _ _

pub piece_at-p-requires : goal.piece_at-p-requires
piece_at-p-requires c = record { ty_in_bounds = c.requires.ty_in_bounds; opened = c.pieces-opened.ensures.opens; i_lt_count = c.loop-i-test.true }

pub brought-requires : goal.brought-requires
brought-requires c =
    let k = c.piece_at-p.ensures in
    record { node_value = piece-constant _ _ _ _ _ (passed-all _ c.args.file.now.accepted.accepted) c.requires.node_value k _ c.in-Some.is; ty_in_bounds = k.lower.known }

pub go_on-requires : goal.go_on-requires
go_on-requires c =
    let l = c.piece_at-p.ensures.lower in
    record { ty_in_bounds = l.known; step_in = put_in _ (sound-tables _ _ c.args.file.now.accepted) _ _ _ l.known c.brought.ensures }

pub returns-then-go_on : goal.returns-then-go_on
returns-then-go_on c =
    let k = c.piece_at-p.ensures in
    going-met _ _ _ _ _ c.loop-i.invariant (omega (arith, c.loop-i-test.true, count-is _ _ _ _ _ c.pieces-opened.ensures.opens)) _ k _ c.in-Some.is
    (λ limit l. sym c.if-go_on.true ∙ met-brought _ _ _ _ _ k.lower.known c.brought.ensures c.go_on.ensures) c.args.ty (omega arith)

pub loop-i-preserved : goal.loop-i-preserved
loop-i-preserved c =
    let k = c.piece_at-p.ensures in
    going-clear _ _ _ _ _ c.loop-i.invariant (omega (arith, c.loop-i-test.true, count-is _ _ _ _ _ c.pieces-opened.ensures.opens)) _ k _ c.in-Some.is
    (λ limit l. sym c.if-go_on.false ∙ met-brought _ _ _ _ _ k.lower.known c.brought.ensures c.go_on.ensures)

pub loop-i-preserved-in_default : goal.loop-i-preserved-in_default
loop-i-preserved-in_default c = going-missing _ _ _ _ _ c.loop-i.invariant (omega (arith, c.loop-i-test.true, count-is _ _ _ _ _ c.pieces-opened.ensures.opens)) _ c.piece_at-p.ensures c.in_default.is

pub returns : goal.returns
returns c = going_end _ _ _ _ _ c.loop-i.invariant (omega (arith, c.loop-i-test.false, count-is _ _ _ _ _ c.pieces-opened.ensures.opens)) c.args.ty (omega arith)
