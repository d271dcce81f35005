use Rattle.rules.specs.Placement.{take_edge}
use Rattle.views.specs.declared.CompareOp.TheVariants as Op
use Rattle.seek.proofs.Edges.{by-op}
use borrow.Author.Rules.{rules}
use Rattle.seek.proofs.SeekBuilder.edge.Goals as goal

pub returns-in-Lt : goal.returns-in-Lt
unfolding take_edge
returns-in-Lt c = λ T e w p. by-op _ _ c.args.op Op.Lt _ _ (search rules) (c.take.ensures T e w p)

pub returns-in-Le : goal.returns-in-Le
unfolding take_edge
returns-in-Le c = λ T e w p. by-op _ _ c.args.op Op.Le _ _ (search rules) (c.take-in-Le.ensures T e w p)

pub returns-in-Gt : goal.returns-in-Gt
unfolding take_edge
returns-in-Gt c = λ T e w p. by-op _ _ c.args.op Op.Gt _ _ (search rules) (c.take-in-Gt.ensures T e w p)

pub returns-in-Ge : goal.returns-in-Ge
unfolding take_edge
returns-in-Ge c = λ T e w p. by-op _ _ c.args.op Op.Ge _ _ (search rules) (c.take-in-Ge.ensures T e w p)
