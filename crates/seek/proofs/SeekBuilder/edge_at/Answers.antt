use mathlib.Core.Path.{sym, ◌∙◌}
use native.Mathlib.Omega.{arith}
use Rattle.accepted_file.proofs.Given.{few-types, few-nodes, few-comparisons}
use Rattle.seek.proofs.Folds.{edges-same, edges-stay, edge-lacking, edge-having}
use Rattle.seek.proofs.SeekBuilder.edge_at.Goals as goal

pub overflow_cast-k : goal.overflow_cast-k
overflow_cast-k c = omega (arith, c.requires.k_in_bounds, few-comparisons _ _ c.args.file.now.accepted.indexed)

pub overflow_cast-node : goal.overflow_cast-node
overflow_cast-node c = omega (arith, c.requires.node_in_bounds, few-nodes _ _ c.args.file.now.accepted.indexed)

pub overflow_cast-ty : goal.overflow_cast-ty
overflow_cast-ty c = omega (arith, c.requires.ty_in_bounds, few-types _ _ c.args.file.now.accepted.indexed)

pub returns-then-has_bytes : goal.returns-then-has_bytes
returns-then-has_bytes c = λ e w p. edges-same _ _ _ _ (c.edge.ensures _ e w p) (λ y. edge-having _ _ _ _ _ y (sym c.has_bytes.ensures ∙ c.if-has_bytes.true))

pub returns : goal.returns
returns c = λ e w p. edges-stay _ _ (λ y. edge-lacking _ _ _ _ _ y (sym c.has_bytes.ensures ∙ c.if-has_bytes.false))
