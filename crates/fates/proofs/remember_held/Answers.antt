use mathlib.Core.Path.{sym, ◌∙◌}
use native.Mathlib.Omega.{arith}
use Rattle.accepted_file.proofs.Given.{few-nodes}
use Rattle.fates.proofs.Parts.{held_none, held-parts}
use Rattle.fates.proofs.remember_held.Goals as goal

pub overflow_add-node : goal.overflow_add-node
overflow_add-node c = omega (arith, few-nodes _ _ c.args.file.now.accepted.indexed, c.requires.0)

pub offset_bounds-long-node : goal.offset_bounds-long-node
offset_bounds-long-node c = omega (arith, few-nodes _ _ c.args.file.now.accepted.indexed, c.requires.0)

pub bounds-long-node : goal.bounds-long-node
bounds-long-node c = omega (arith, few-nodes _ _ c.args.file.now.accepted.indexed, c.requires.0, c.requires.1)

pub returns-then-from-eq0 : goal.returns-then-from-eq0
returns-then-from-eq0 c = held_none _ _ _ (sym c.from.ensures ∙ c.if-from-eq0.true)

pub returns : goal.returns
returns c = c.remember_parts.ensures ∙ held-parts _ _ _ (λ e. c.if-from-eq0.false (c.from.ensures ∙ e))
