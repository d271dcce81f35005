use lib.ListN.{replicate}
use mathlib.Core.Path.{sym, ◌∙◌}
use native.Mathlib.Omega.{arith}
use lib.Seq.{length-take-le}
use Rattle.replay.proofs.Pairing.{at-space, agrees-short, agrees-long, compared, file-length, line-length, file-room}
use borrow.Author.Rules.{rules}
use Rattle.replay.proofs.agrees.Goals as goal

pub returns-then-pair-e-lt3 : goal.returns-then-pair-e-lt3
returns-then-pair-e-lt3 c = sym (at-space _ _ c.find-e.ensures.finds ∙ agrees-short _ _ (omega (arith, c.if-pair-e-lt3.true, c.find-e.ensures.bounded)))

pub returns-then-e-gt-HEX_LIMIT : goal.returns-then-e-gt-HEX_LIMIT
returns-then-e-gt-HEX_LIMIT c = sym (at-space _ _ c.find-e.ensures.finds ∙ agrees-long _ _ (omega (arith, c.if-pair-e-lt3.false, c.find-e.ensures.bounded)) c.if-e-gt-HEX_LIMIT.true)

pub slice_bounds-unhex-end : goal.slice_bounds-unhex-end
slice_bounds-unhex-end c = sym (length-take-le _ _ c.find-e.ensures.bounded)

pub unhex-requires : goal.unhex-requires
unhex-requires c = file-room _ (replicate 32769 0) _ c.find-e.ensures.bounded c.if-e-gt-HEX_LIMIT.false file-length

pub slice_bounds-answer-end : goal.slice_bounds-answer-end
slice_bounds-answer-end c = sym (length-take-le _ _ (search rules))

pub slice_bounds-same-end : goal.slice_bounds-same-end
slice_bounds-same-end c = sym (length-take-le _ _ (search rules))

pub returns : goal.returns
returns c =
    compared _ _ (omega (arith, c.if-pair-e-lt3.false, c.find-e.ensures.bounded)) c.if-e-gt-HEX_LIMIT.false (replicate 32769 0) _ (replicate 32768 0) _ _ _ file-length c.unhex.ensures line-length c.answer-m.ensures.gives c.answer-m.ensures.leaves c.answer-m.ensures.bounded c.same.ensures.tells c.same.ensures.sees
    ∙ sym (at-space _ _ c.find-e.ensures.finds)
