use mathlib.Core.Path.{sym}
use lib.ListN.{replicate}
use lib.Seq.{length-take-le}
use Rattle.reread.proofs.Rereads.{too_large, compared, plan-length, text-length, output-length}
use borrow.Author.Rules.{rules}
use Rattle.reread.proofs.comes_to.Goals as goal

pub returns-then-room-gt-PLAN_LIMIT : goal.returns-then-room-gt-PLAN_LIMIT
returns-then-room-gt-PLAN_LIMIT c = sym (too_large _ _ _ c.if-room-gt-PLAN_LIMIT.true)

pub slice_bounds-reread-end : goal.slice_bounds-reread-end
slice_bounds-reread-end c = sym (length-take-le _ _ (search rules))

pub slice_bounds-reread-end-2 : goal.slice_bounds-reread-end-2
slice_bounds-reread-end-2 c = sym (output-length _ c.if-room-gt-PLAN_LIMIT.false)

pub slice_bounds-same-end : goal.slice_bounds-same-end
slice_bounds-same-end c = sym (length-take-le _ _ (search rules))

pub returns : goal.returns
returns c =
    compared _ _ _ c.if-room-gt-PLAN_LIMIT.false c.requires (replicate 16385 0) _ (replicate 32768 0) _ _ _ _ plan-length c.unhex.ensures text-length
    c.reread-m.ensures.gives c.reread-m.ensures.leaves c.reread-m.ensures.bounded c.same.ensures.tells c.same.ensures.sees (output-length _ c.if-room-gt-PLAN_LIMIT.false)
