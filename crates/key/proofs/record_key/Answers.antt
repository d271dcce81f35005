use borrow.Author.Rules.{rules}
use Rattle.field_cases.proofs.Opens.{count-is}
use mathlib.Core.Path.{refl}
use native.Mathlib.Omega.{arith}
use Rattle.rules.proofs.Sound.{passed-all}
use Rattle.accepted_file.proofs.Given.{sound-tables}
use Rattle.accepted_file.proofs.Ranges.{nodes-lower}
use Rattle.key.proofs.Going.{going-first}
use Rattle.key.proofs.Walked.{going-closed, going-walked}
use Rattle.key.proofs.Keys.{fits-field, record-end}
use Rattle.key.proofs.record_key.Goals as goal

pub loop-i-init : goal.loop-i-init
loop-i-init c = going-first _ _ _ _ _ _ _ _ _

pub piece_at-p-requires : goal.piece_at-p-requires
piece_at-p-requires c = record { ty_in_bounds = c.requires; opened = c.pieces-opened.ensures.opens; i_lt_count = c.loop-i-test.true }

pub walked_pattern-requires : goal.walked_pattern-requires
walked_pattern-requires c = c.piece_at-p.ensures.lower.known

pub overflow_cast-i : goal.overflow_cast-i
overflow_cast-i c = omega (arith, c.loop-i-test.true, c.pieces-opened.ensures.bounded)

pub field-l-requires : goal.field-l-requires
field-l-requires c = fits-field _ (sound-tables _ _ c.args.file.now.accepted) _ c.piece_at-p.ensures.lower.known _ _ c.field-path.ensures.holds

pub loop-i-preserved : goal.loop-i-preserved
loop-i-preserved c = going-walked _ _ _ _ _ _ _ _ _ _ _ c.loop-i.invariant (omega (arith, c.loop-i-test.true, count-is _ _ _ _ _ c.pieces-opened.ensures.opens)) _ c.piece_at-p.ensures _ _ _ c.field-l.auto.work c.field-l.auto.plan _ c.walked_pattern.ensures _ c.in-Some.is _ c.field-path.ensures.holds c.field-l.ensures

pub loop-i-preserved-in_default : goal.loop-i-preserved-in_default
loop-i-preserved-in_default c = going-closed _ _ _ _ _ _ _ _ _ _ _ c.loop-i.invariant (omega (arith, c.loop-i-test.true, count-is _ _ _ _ _ c.pieces-opened.ensures.opens)) _ c.piece_at-p.ensures _ _ _ refl refl _ c.walked_pattern.ensures (nodes-lower _ (passed-all _ c.args.file.now.accepted.accepted)) c.in_default.is (search rules)

pub returns : goal.returns
returns c = record-end _ _ _ _ _ _ _ _ _ _ _ c.loop-i.invariant (omega (arith, c.loop-i-test.false, count-is _ _ _ _ _ c.pieces-opened.ensures.opens)) c.requires
