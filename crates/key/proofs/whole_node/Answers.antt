use Rattle.key.proofs.Whole.{node-const, node-other}
use borrow.Author.Rules.{rules}
use Rattle.key.proofs.whole_node.Goals as goal

pub returns-in-Const : goal.returns-in-Const
returns-in-Const c = node-const _ c.args.slot _ c.in-Const.is

pub returns-in_default : goal.returns-in_default
returns-in_default c = node-other _ c.args.slot (search rules)
