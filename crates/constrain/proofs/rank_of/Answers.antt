use Rattle.constrain.proofs.Ranks.{rank-prefix, rank-fuzzy, rank-other}
use borrow.Author.Rules.{rules}
use Rattle.constrain.proofs.rank_of.Goals as goal

pub returns-in-Prefix : goal.returns-in-Prefix
returns-in-Prefix c = rank-prefix _ _ _ c.node_of.ensures.shows _ c.in-Prefix.is

pub returns-in-Fuzzy : goal.returns-in-Fuzzy
returns-in-Fuzzy c = rank-fuzzy _ _ _ c.node_of.ensures.shows _ _ _ _ c.in-Fuzzy.is c.anchor_rank.ensures

pub returns-in_default : goal.returns-in_default
returns-in_default c = rank-other _ _ _ c.node_of.ensures.shows (search rules)
