use mathlib.Core.Path.{sym, ◌∙◌}
use native.Mathlib.Omega.{arith}
use lib.Seq.{length-take-le}
use Rattle.reread.proofs.Rereads.{at-space, agrees-short, agrees-long, agrees-here, hex-short}
use Rattle.reread.proofs.agrees.Goals as goal

pub returns-then-entry-e-lt6 : goal.returns-then-entry-e-lt6
returns-then-entry-e-lt6 c = sym (at-space _ _ c.find-e.ensures.finds ∙ agrees-short _ _ (omega (arith, c.if-entry-e-lt6.true, c.find-e.ensures.bounded)))

pub returns-then-e-gt-HEX_LIMIT : goal.returns-then-e-gt-HEX_LIMIT
returns-then-e-gt-HEX_LIMIT c = sym (at-space _ _ c.find-e.ensures.finds ∙ agrees-long _ _ (omega (arith, c.if-entry-e-lt6.false, c.find-e.ensures.bounded)) c.if-e-gt-HEX_LIMIT.true)

pub slice_bounds-comes_to-end : goal.slice_bounds-comes_to-end
slice_bounds-comes_to-end c = sym (length-take-le _ _ c.find-e.ensures.bounded)

pub comes_to-requires : goal.comes_to-requires
comes_to-requires c = hex-short _ _ c.find-e.ensures.bounded c.if-e-gt-HEX_LIMIT.false

pub returns : goal.returns
returns c = agrees-here _ _ (omega (arith, c.if-entry-e-lt6.false, c.find-e.ensures.bounded)) c.if-e-gt-HEX_LIMIT.false _ c.room_of-room.ensures _ c.comes_to.ensures ∙ sym (at-space _ _ c.find-e.ensures.finds)
