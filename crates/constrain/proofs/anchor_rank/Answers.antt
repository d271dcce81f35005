use Rattle.constrain.proofs.Ranks.{prefix-last, whole-first}
use Rattle.constrain.proofs.anchor_rank.Goals as goal

pub returns-in-Prefix : goal.returns-in-Prefix
returns-in-Prefix c = prefix-last _ c.in-Prefix.is

pub returns-in-Whole : goal.returns-in-Whole
returns-in-Whole c = whole-first _ c.in-Whole.is
