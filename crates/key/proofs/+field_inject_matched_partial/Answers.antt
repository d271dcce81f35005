use mathlib.Core.Path.{sym, ap, ◌∙◌}
use mathlib.Core.Bool.{not}
use native.Mathlib.Omega.{arith}
use borrow.Author.Rules.{rules}
use Rattle.rules.proofs.Sound.{passed-all}
use Rattle.accepted_file.proofs.Ranges.{nodes-lower}
use Rattle.key.proofs.Rounds.{field-over, field-inject, field_skip, field-report, field-range, field-bytes, field-pieces, found-bound, found-new, field-read, field-opened, unresolved-walks}
use mathlib.Core.Path.{◌∙◌}
use Rattle.accepted_file.proofs.Given.{sound-tables}
use Rattle.key.proofs.Deeper.{has_room, fits-payload}
use Rattle.key.proofs.Rounds.{inject-done, inject-lower, injects-walks}
use Rattle.key.proofs.Rounds.{matched-met, matched-bytes, matched-pieces}
use Rattle.field_cases.proofs.Opens.{count-is}
use mathlib.Core.Path.{refl, sym, ◌∙◌}
use Rattle.key.proofs.Deeper.{has_room, fits-then}
use Rattle.key.proofs.Quiet.{partial-quiet}
use Rattle.key.proofs.Rounds.{partial-end}
use Rattle.key.proofs.Going.{going-first, going-missing, going-given}
use Rattle.key.proofs.+field_inject_matched_partial.Goals as goal

pub field-returns-then-level : goal.field-returns-then-level
field-returns-then-level t c = field-over _ _ _ _ _ _ _ _ c.if-level.true

pub field-way_of-requires : goal.field-way_of-requires
field-way_of-requires t c = c.requires.known

pub field-inject-requires : goal.field-inject-requires
field-inject-requires t c = (omega (arith, c.decreases), c.requires)

pub field-ranged-requires : goal.field-ranged-requires
field-ranged-requires t c = c.requires.known

pub field-known-c-requires : goal.field-known-c-requires
field-known-c-requires t c = c.requires.known

pub field-partial-requires : goal.field-partial-requires
field-partial-requires t c = (omega (arith, c.decreases), c.requires)

pub field-returns-then-is_none : goal.field-returns-then-is_none
field-returns-then-is_none t c = field-pieces _ _ _ _ _ _ _ c.way_of.ensures (nodes-lower _ (passed-all _ c.args.file.now.accepted.accepted)) c.in-Constant.is _ c.known-c.ensures _ (c.is_none.ensures ∙ ap not c.if-is_none.true) c.partial.ensures

pub field-narrow-requires : goal.field-narrow-requires
field-narrow-requires t c = (c.known-c.ensures.made (c.is_none.ensures ∙ ap not c.if-is_none.false))

pub field-matched-requires : goal.field-matched-requires
field-matched-requires t c = (omega (arith, c.decreases), c.requires)

pub field-returns-in-Some : goal.field-returns-in-Some
field-returns-in-Some t c = found-bound _ _ _ _ _ _ _ _ _ _ c.lookup.result _ c.lists.ensures c.lookup.ensures _ c.way_of.ensures (nodes-lower _ (passed-all _ c.args.file.now.accepted.accepted)) c.in-Variable.is c.in-Some.is c.matched.ensures

pub field-captured-requires : goal.field-captured-requires
field-captured-requires t c = c.requires.known

pub field-matched-requires-in-Some-slot : goal.field-matched-requires-in-Some-slot
field-matched-requires-in-Some-slot t c = (omega (arith, c.decreases), c.requires)

pub field-returns-in-Some-slot : goal.field-returns-in-Some-slot
field-returns-in-Some-slot t c = field-read _ _ _ _ _ _ _ _ _ _ _ _ c.lists-in-Read.ensures c.listed-l.ensures c.resolve-a.ensures _ c.way_of.ensures (nodes-lower _ (passed-all _ c.args.file.now.accepted.accepted)) c.in-Read.is _ c.in-Some-slot.is c.matched-in-Some-slot.ensures

pub field-partial-requires-in-Some-pairs_of : goal.field-partial-requires-in-Some-pairs_of
field-partial-requires-in-Some-pairs_of t c = (omega (arith, c.decreases), c.requires)

pub field-returns-in-Some-pairs_of : goal.field-returns-in-Some-pairs_of
field-returns-in-Some-pairs_of t c = field-opened _ _ _ _ _ _ _ _ _ _ _ _ c.lists-in-Read.ensures c.listed-l.ensures c.resolve-a.ensures _ c.way_of.ensures (nodes-lower _ (passed-all _ c.args.file.now.accepted.accepted)) c.in-Read.is _ c.in_default-slot.is _ _ c.pairs_of.ensures.shows _ _ c.in-Some-pairs_of.is c.partial-in-Some-pairs_of.ensures

pub field-returns-in-Union : goal.field-returns-in-Union
field-returns-in-Union t c = field-inject _ _ _ _ _ _ _ c.way_of.ensures (nodes-lower _ (passed-all _ c.args.file.now.accepted.accepted)) c.in-Union.is _ c.inject.ensures

pub field-returns-in-Skip : goal.field-returns-in-Skip
field-returns-in-Skip t c = field_skip _ _ _ _ _ _ _ c.way_of.ensures (nodes-lower _ (passed-all _ c.args.file.now.accepted.accepted)) c.in-Skip.is _ (c.skip.ensures _ _ _)

pub field-returns-in-Report : goal.field-returns-in-Report
field-returns-in-Report t c = field-report _ _ _ _ _ _ _ c.way_of.ensures (nodes-lower _ (passed-all _ c.args.file.now.accepted.accepted)) _ c.in-Report.is _ (c.diagnose.ensures _ _)

pub field-returns-in-Range : goal.field-returns-in-Range
field-returns-in-Range t c = field-range _ _ _ _ _ _ _ c.way_of.ensures (nodes-lower _ (passed-all _ c.args.file.now.accepted.accepted)) c.in-Range.is _ c.ranged.ensures

pub field-returns-else-is_none : goal.field-returns-else-is_none
field-returns-else-is_none t c = field-bytes _ _ _ _ _ _ _ c.way_of.ensures (nodes-lower _ (passed-all _ c.args.file.now.accepted.accepted)) c.in-Constant.is _ c.known-c.ensures _ (c.is_none.ensures ∙ ap not c.if-is_none.false) (c.narrow.ensures _)

pub field-returns-in_default : goal.field-returns-in_default
field-returns-in_default t c = found-new _ _ _ _ _ _ _ _ _ _ c.captured.ensures c.lookup.result _ c.lists.ensures c.lookup.ensures _ c.way_of.ensures (nodes-lower _ (passed-all _ c.args.file.now.accepted.accepted)) c.in-Variable.is c.in_default.is

pub field-returns-in_default-pairs_of : goal.field-returns-in_default-pairs_of
field-returns-in_default-pairs_of t c = unresolved-walks _ _ _ _ _ _ _ _ _ _ _ _ c.unresolved.ensures _ _ c.lists-in-Read.ensures c.listed-l.ensures c.resolve-a.ensures _ c.way_of.ensures (nodes-lower _ (passed-all _ c.args.file.now.accepted.accepted)) c.in-Read.is c.in_default-slot.is _ _ c.pairs_of.ensures.shows c.in_default-pairs_of.is

pub inject-choose-c-requires : goal.inject-choose-c-requires
inject-choose-c-requires t c = c.requires.known

pub inject-returns-in_default : goal.inject-returns-in_default
inject-returns-in_default t c = inject-done _ _ _ _ _ _ _ c.choose-c.result c.choose-c.ensures c.in_default.is

pub inject-payload-q-requires : goal.inject-payload-q-requires
inject-payload-q-requires t c = has_room _ (sound-tables _ _ c.args.file.now.accepted) _ _ _ c.requires (inject-lower _ 0 _ _ _ _ _ c.choose-c.result c.choose-c.ensures c.in-Some.is (sound-tables _ _ c.args.file.now.accepted) c.requires.known)

pub inject-field-walked-requires : goal.inject-field-walked-requires
inject-field-walked-requires t c =
    let l = inject-lower _ 0 _ _ _ _ _ c.choose-c.result c.choose-c.ensures c.in-Some.is (sound-tables _ _ c.args.file.now.accepted) c.requires.known in
    (omega (arith, l.lower, c.decreases), fits-payload _ (sound-tables _ _ c.args.file.now.accepted) _ _ _ c.requires l _ _ c.payload-q.ensures.holds)

pub inject-returns : goal.inject-returns
inject-returns t c =
    let l = inject-lower _ 0 _ _ _ _ _ c.choose-c.result c.choose-c.ensures c.in-Some.is (sound-tables _ _ c.args.file.now.accepted) c.requires.known in
    injects-walks _ _ _ _ _ _ c.choose-c.result _ _ c.choose-c.ensures c.in-Some.is l _ c.payload-q.ensures.holds _ _ _ _ _ _ _ c.tag-tagged.ensures c.field-walked.ensures c.closer.ensures

pub matched-meet-requires : goal.matched-meet-requires
matched-meet-requires t c = c.requires.known

pub matched-returns-in_default : goal.matched-returns-in_default
matched-returns-in_default t c = matched-met _ _ _ _ _ _ _ c.args.slot (search rules) c.meet.ensures

pub matched-known-c-requires : goal.matched-known-c-requires
matched-known-c-requires t c = c.requires.known

pub matched-partial-requires : goal.matched-partial-requires
matched-partial-requires t c = (omega (arith, c.decreases), c.requires)

pub matched-returns-then-is_none : goal.matched-returns-then-is_none
matched-returns-then-is_none t c = matched-pieces _ _ _ _ _ _ _ _ c.known-c.ensures _ c.args.slot c.in-Const.is (c.is_none.ensures ∙ ap not c.if-is_none.true) c.partial.ensures

pub matched-narrow-requires : goal.matched-narrow-requires
matched-narrow-requires t c = (c.known-c.ensures.made (c.is_none.ensures ∙ ap not c.if-is_none.false))

pub matched-returns : goal.matched-returns
matched-returns t c = matched-bytes _ _ _ _ _ _ _ _ c.known-c.ensures _ c.args.slot c.in-Const.is (c.is_none.ensures ∙ ap not c.if-is_none.false) (c.narrow.ensures _)

pub partial-pieces-opened-requires : goal.partial-pieces-opened-requires
partial-pieces-opened-requires t c = c.requires.known

pub partial-is_quiet-requires : goal.partial-is_quiet-requires
partial-is_quiet-requires t c = c.requires.known

pub partial-returns-then-is_quiet : goal.partial-returns-then-is_quiet
partial-returns-then-is_quiet t c = partial-quiet _ _ c.args.file.now.accepted _ _ _ _ _ _ c.requires.known (sym c.is_quiet.ensures ∙ c.if-is_quiet.true) (search rules)

pub partial-loop-i-init : goal.partial-loop-i-init
partial-loop-i-init t c = going-first _ _ _ _ _ _ _ _ _

pub partial-piece_at-p-requires : goal.partial-piece_at-p-requires
partial-piece_at-p-requires t c = record { ty_in_bounds = c.requires.known; opened = c.pieces-opened.ensures.opens; i_lt_count = c.loop-i-test.true }

pub partial-overflow_cast-i : goal.partial-overflow_cast-i
partial-overflow_cast-i t c = omega (arith, c.loop-i-test.true, c.pieces-opened.ensures.bounded)

pub partial-then-q-requires : goal.partial-then-q-requires
partial-then-q-requires t c = has_room _ (sound-tables _ _ c.args.file.now.accepted) _ _ _ c.requires c.piece_at-p.ensures.lower

pub partial-field-l-requires : goal.partial-field-l-requires
partial-field-l-requires t c =
    let l = c.piece_at-p.ensures.lower in
    (omega (arith, l.lower, c.decreases), fits-then _ (sound-tables _ _ c.args.file.now.accepted) _ _ _ c.requires l _ _ c.then-q.ensures.holds)

pub partial-loop-i-preserved : goal.partial-loop-i-preserved
partial-loop-i-preserved t c =
    going-given _ _ _ _ _ _ _ _ _ _ _ _ _ c.loop-i.invariant (omega (arith, c.loop-i-test.true, count-is _ _ _ _ _ c.pieces-opened.ensures.opens)) _ c.piece_at-p.ensures _ _ _ c.field-l.auto.work c.field-l.auto.plan
    _ (c.in-Some.is) _ c.then-q.ensures.holds c.field-l.ensures

pub partial-loop-i-preserved-in_default : goal.partial-loop-i-preserved-in_default
partial-loop-i-preserved-in_default t c = going-missing _ _ _ _ _ _ _ _ _ _ _ _ _ c.loop-i.invariant (omega (arith, c.loop-i-test.true, count-is _ _ _ _ _ c.pieces-opened.ensures.opens)) _ c.piece_at-p.ensures _ _ _ refl refl c.in_default.is refl

pub partial-returns : goal.partial-returns
partial-returns t c = partial-end _ _ _ _ _ _ _ _ _ _ _ _ c.loop-i.invariant (omega (arith, c.loop-i-test.false, count-is _ _ _ _ _ c.pieces-opened.ensures.opens)) _ (c.skip-l.ensures _ _ _)
