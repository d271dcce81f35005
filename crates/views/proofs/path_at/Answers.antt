use native.Mathlib.Omega.{arith}
use mathlib.Core.Path.{◌≡◌, refl, sym, ◌∙◌}
use lib.ListN.{length-set}
use Rattle.views.specs.Views.{PathInside}
use Rattle.views.proofs.PathsAt.{none-copied, copied, holds, all_left, left, none_left, whole}
use Rattle.views.proofs.path_at.Goals as goal

pub word_at-field-requires : goal.word_at-field-requires
unfolding PathInside
word_at-field-requires c = omega arith

pub overflow_cast-field : goal.overflow_cast-field
overflow_cast-field c = omega (arith, c.word_at-field.ensures)

pub overflow_add-at : goal.overflow_add-at
unfolding PathInside
overflow_add-at c = omega arith

pub bounds-file-at : goal.bounds-file-at
unfolding PathInside
bounds-file-at c = omega arith

pub from-count-requires : goal.from-count-requires
from-count-requires c = tt

pub loop-i-init : goal.loop-i-init
loop-i-init c = (none-copied _ _, omega arith, refl, all_left _ _ _ _)

pub overflow_add-at-in-loop-i : goal.overflow_add-at-in-loop-i
unfolding PathInside
overflow_add-at-in-loop-i c = omega arith

pub overflow_add-at-in-loop-i-2 : goal.overflow_add-at-in-loop-i-2
unfolding PathInside
overflow_add-at-in-loop-i-2 c = omega (arith, c.from-count.ensures)

pub long_at-requires : goal.long_at-requires
unfolding PathInside
long_at-requires c = omega (arith, c.from-count.ensures)

pub offset_bounds-steps-i : goal.offset_bounds-steps-i
offset_bounds-steps-i c = omega (arith, c.from-count.ensures)

pub bounds-steps-i : goal.bounds-steps-i
bounds-steps-i c = omega (arith, c.from-count.ensures)

pub loop-i-preserved : goal.loop-i-preserved
loop-i-preserved c = (copied _ _ _ _ _ (omega (arith, c.from-count.ensures)) c.long_at.ensures c.loop-i.invariant.0, omega arith, simp length-set c.loop-i.invariant.2, c.loop-i.invariant.3 ∙ left _ _ _ _ _ _ (omega arith) c.long_at.ensures)

pub returns : goal.returns
returns c =
    let e : c.loop-i.i ≡ c.from-count.result = omega arith in
    record { holds = holds _ _ _ c.word_at-field.ensures.reads c.from-count.ensures (rw e at c.loop-i.invariant.0); whole = whole _ _ _ c.word_at-field.ensures.reads c.from-count.ensures (sym (c.loop-i.invariant.3 ∙ none_left _ _ _ _ _ (omega arith))) }
