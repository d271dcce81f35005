use mathlib.Core.Path.{refl, ap, ◌∙◌}
use mathlib.Core.Logic.{⊎_elim}
use lib.Dec.{ltb}
use Rattle.rules.specs.Checks.{node_in, is_name, is_node, is_predicate}
use Rattle.record_checks.proofs.Seen.{by-node, node-in-rest, patterns-in, pairs-as, below_as}
use Rattle.record_checks.proofs.node_in.Goals as goal

pub returns-in-Fuzzy : goal.returns-in-Fuzzy
unfolding node_in is_name
returns-in-Fuzzy c = ap (ltb _) c.count_of-names.ensures ∙ by-node (node_in _) c.node_at.ensures.shows c.in-Fuzzy.is

pub returns-in-Record : goal.returns-in-Record
returns-in-Record c = c.pairs_in.ensures ∙ pairs-as _ _ _ _ _ c.count_of-names.ensures c.count_of-nodes.ensures ∙ patterns-in _ _ _ _ ∙ by-node (node_in _) c.node_at.ensures.shows c.in-Record.is

pub returns-in-Value : goal.returns-in-Value
unfolding node_in is_node
returns-in-Value c = ap (ltb _) c.count_of-nodes.ensures ∙ by-node (node_in _) c.node_at.ensures.shows c.in-Value.is

pub returns-in-Fact : goal.returns-in-Fact
unfolding node_in is_predicate is_node
returns-in-Fact c = c.both_below.ensures ∙ below_as c.from.ensures c.count_of.ensures refl c.count_of-nodes.ensures ∙ by-node (node_in _) c.node_at.ensures.shows c.in-Fact.is

pub returns-in-Str : goal.returns-in-Str
unfolding node_in is_name
returns-in-Str c =
    let s = c.node_at.ensures.shows in
    ap (ltb _) c.count_of-names.ensures
    ∙ ⊎_elim (λ e. by-node (node_in _) s e) (λ o. ⊎_elim (λ e. by-node (node_in _) s e) (λ e. by-node (node_in _) s e) o) c.in-Str.is

pub returns-in-Access : goal.returns-in-Access
unfolding node_in is_name is_node
returns-in-Access c =
    let s = c.node_at.ensures.shows in
    c.both_below-in-Access.ensures ∙ below_as refl c.count_of-names.ensures refl c.count_of-nodes.ensures
    ∙ ⊎_elim (λ e. by-node (node_in _) s e) (λ e. by-node (node_in _) s e) c.in-Access.is

pub returns-in_default : goal.returns-in_default
returns-in_default c =
    let n = c.in_default in
    node-in-rest _ _ _ n.not-Str n.not-Var n.not-Prefix n.not-Fuzzy n.not-Record n.not-Access n.not-Value n.not-Select n.not-Fact
    ∙ by-node (node_in _) c.node_at.ensures.shows refl
