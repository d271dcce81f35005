use native.Mathlib.Omega.{arith}
use Prim.Native.Nat.{◌+◌}
use Rattle.plan_items.proofs.Levels.{range-parts, range-text, range-path, range-room, range-reads}
use Rattle.plan_items.proofs.Views.{range-view}
use Rattle.plan_items.proofs.range_seek.Goals as goal

pub parts_past-q-requires : goal.parts_past-q-requires
parts_past-q-requires c = (c.requires.0, range-parts _ _ _ c.requires.1)

pub text_at-text-requires : goal.text_at-text-requires
text_at-text-requires c = range-text _ _ _ _ c.parts_past-q.result c.parts_past-q.ensures.reads c.requires.1

pub path_past-o-requires : goal.path_past-o-requires
path_past-o-requires c =
    let parts = c.parts_past-q in
    let text = c.text_at-text in
    range-path _ _ _ _ parts.result parts.ensures.reads _ (text.result.at + text.result.len) text.ensures.reads c.requires.1

pub word_at-requires : goal.word_at-requires
word_at-requires c =
    let parts = c.parts_past-q in
    let text = c.text_at-text in
    range-room _ _ _ _ parts.result parts.ensures.reads _ (text.result.at + text.result.len) text.ensures.reads c.requires.1 c.path_past-o.result c.path_past-o.ensures.reads

pub overflow_add-result : goal.overflow_add-result
overflow_add-result c =
    let parts = c.parts_past-q in
    let text = c.text_at-text in
    let path = c.path_past-o in
    omega (arith, range-room _ _ _ _ parts.result parts.ensures.reads _ (text.result.at + text.result.len) text.ensures.reads c.requires.1 path.result path.ensures.reads)

pub returns : goal.returns
returns c =
    let x = c.requires.1 in
    let parts = c.parts_past-q in
    let text = c.text_at-text in
    let path = c.path_past-o in
    let node = c.word_at.ensures.reads in
    let at = text.result.at + text.result.len in
    record { reads = range-reads _ _ _ _ parts.result parts.ensures.reads _ at text.ensures.reads x path.result path.ensures.reads _ node; inside = (range-parts _ _ _ x, text.ensures.inside, range-path _ _ _ _ parts.result parts.ensures.reads _ at text.ensures.reads x); view = range-view _ _ _ parts.result parts.ensures.view text.result path.result _ text.ensures.view path.ensures.view node }
