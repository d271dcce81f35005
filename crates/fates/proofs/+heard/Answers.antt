use Rattle.field_cases.proofs.Opens.{count-is}
use mathlib.Core.Path.{sym, ◌∙◌}
use native.Mathlib.Omega.{arith}
use Rattle.literals.proofs.Going.{going-first, going-missing, going-clear, going-met, going_end}
use Rattle.fates.proofs.Hearing.{heard-none, heard-pieces}
use Rattle.fates.proofs.+heard.Goals as goal
use Rattle.fates.proofs.+heard.Goals.{in-Some+else-heard, in_default}

pub pieces-opened-requires : goal.pieces-opened-requires
pieces-opened-requires t c = c.requires

pub returns-then-opened-eq0 : goal.returns-then-opened-eq0
returns-then-opened-eq0 t c = heard-none _ _ _ (omega (arith, c.if-opened-eq0.true, count-is _ _ _ _ _ c.pieces-opened.ensures.opens))

pub loop-i-init : goal.loop-i-init
loop-i-init t c = going-first _ _ _ _

pub piece_at-p-requires : goal.piece_at-p-requires
piece_at-p-requires t c = record { ty_in_bounds = c.requires; opened = c.pieces-opened.ensures.opens; i_lt_count = c.loop-i-test.true }

pub heard-requires : goal.heard-requires
heard-requires t c =
    let l = c.piece_at-p.ensures.lower in
    (omega (arith, l.lower, c.decreases), l.known)

pub returns-then-heard : goal.returns-then-heard
returns-then-heard t c =
    let k = c.piece_at-p.ensures in
    heard-pieces _ _ _ _ (λ e. c.if-opened-eq0.false (count-is _ _ _ _ _ c.pieces-opened.ensures.opens ∙ e))
    (going-met _ _ _ _ _ c.loop-i.invariant (omega (arith, c.loop-i-test.true, count-is _ _ _ _ _ c.pieces-opened.ensures.opens)) _ k _ c.in-Some.is
    (λ limit l. sym c.if-heard.true ∙ c.heard.ensures.is limit (omega (arith, k.lower.lower, l))))

pub loop-i-preserved : goal.loop-i-preserved
loop-i-preserved t c =
    let k = c.piece_at-p.ensures in
    elim c.match-pattern.branch [
      | in-Some+else-heard w ↦ going-clear _ _ _ _ _ c.loop-i.invariant
          (omega (arith, c.loop-i-test.true, count-is _ _ _ _ _ c.pieces-opened.ensures.opens)) _ k _ w.in-Some.is
          (λ limit l. sym w.if-heard.false ∙ w.heard.ensures.is limit (omega (arith, k.lower.lower, l)))
      | in_default w ↦ going-missing _ _ _ _ _ c.loop-i.invariant
          (omega (arith, c.loop-i-test.true, count-is _ _ _ _ _ c.pieces-opened.ensures.opens)) _ k w.in_default.is
    ]

pub returns : goal.returns
returns t c =
    heard-pieces _ _ _ _ (λ e. c.if-opened-eq0.false (count-is _ _ _ _ _ c.pieces-opened.ensures.opens ∙ e))
    (going_end _ _ _ _ _ c.loop-i.invariant (omega (arith, c.loop-i-test.false, count-is _ _ _ _ _ c.pieces-opened.ensures.opens)))
