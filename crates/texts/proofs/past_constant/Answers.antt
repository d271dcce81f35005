use Rattle.constant.proofs.Arms.{stood-in}
use Rattle.texts.proofs.Past.{none-typed, past-int, past-other}
use borrow.Author.Rules.{rules}
use Rattle.texts.proofs.past_constant.Goals as goal

pub returns-then-count_of-eq0 : goal.returns-then-count_of-eq0
returns-then-count_of-eq0 c = none-typed _ _ _ _ c.count_of.ensures c.if-count_of-eq0.true

pub node_at-requires : goal.node_at-requires
node_at-requires c = stood-in _ _ c.args.file.now.accepted _ _ c.requires.node_in_bounds c.folded-m.ensures

pub returns-in-Int : goal.returns-in-Int
returns-in-Int c = past-int _ _ _ _ _ _ c.requires.file_len_bound c.folded-m.ensures c.node_at.ensures.shows _ c.in-Int.is _ c.count_of.ensures c.if-count_of-eq0.false

pub returns-in_default : goal.returns-in_default
returns-in_default c = past-other _ _ _ _ _ _ c.requires.file_len_bound c.folded-m.ensures c.node_at.ensures.shows (search rules)
