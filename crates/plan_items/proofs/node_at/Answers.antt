use native.Mathlib.Omega.{arith}
use mathlib.Core.Path.{◌∙◌}
use Rattle.plan_items.proofs.Levels.{numbers-inside, numbers-room, number_of}
use Rattle.plan_items.proofs.node_at.Goals as goal

pub overflow_mul-k : goal.overflow_mul-k
overflow_mul-k c = omega (arith, numbers-room _ _ _ (numbers-inside _ _ _ (omega (arith, c.requires.1)) c.requires.0) c.requires.0)

pub overflow_add-p : goal.overflow_add-p
overflow_add-p c = omega (arith, numbers-room _ _ _ (numbers-inside _ _ _ (omega (arith, c.requires.1)) c.requires.0) c.requires.0)

pub word_at-requires : goal.word_at-requires
word_at-requires c = omega (arith, numbers-room _ _ _ (numbers-inside _ _ _ (omega (arith, c.requires.1)) c.requires.0) c.requires.0)

pub returns : goal.returns
returns c =
    let x = c.requires in
    let inside = numbers-inside _ _ _ (omega (arith, x.1)) x.0 in
    let e = c.word_at.ensures.reads in
    record { is = e ∙ number_of _ _ _ inside x.0 _ x.1; view = e }
