use native.Mathlib.Omega.{arith}
use Rattle.views.specs.Views.{PathInside}
use Rattle.views.proofs.past_path.Goals as goal

pub overflow_add-result : goal.overflow_add-result
unfolding PathInside
overflow_add-result c = let h = c.requires in omega arith

pub overflow_add-at : goal.overflow_add-at
unfolding PathInside
overflow_add-at c = let h = c.requires in omega arith

pub bounds-file-at : goal.bounds-file-at
unfolding PathInside
bounds-file-at c = let h = c.requires in omega arith

pub overflow_mul-result : goal.overflow_mul-result
unfolding PathInside
overflow_mul-result c = let h = c.requires in omega arith

pub overflow_add-result-2 : goal.overflow_add-result-2
unfolding PathInside
overflow_add-result-2 c = let h = c.requires in omega arith
