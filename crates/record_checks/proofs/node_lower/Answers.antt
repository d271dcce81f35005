use mathlib.Core.Path.{refl, sym, ap, ◌∙◌}
use mathlib.Core.Logic.{⊎_elim}
use mathlib.Core.Bool.{Bool}
use Prim.Native.Nat.{ℕ}
use lib.Dec.{ltb}
use Rattle.rules.specs.Base.{all}
use Rattle.rules.specs.File.{child_nodes, Node}
use Rattle.file.specs.Tables.{tables_of}
use Rattle.record_checks.proofs.Seen.{by-node, node-rest, pattern-children, child-lower}
use Rattle.record_checks.proofs.node_lower.Goals as goal

-- each child of the node is lower
lower : ℕ → Node → Bool
lower t nd = all (λ c. ltb c t) (child_nodes nd)

pub returns-in-Record : goal.returns-in-Record
unfolding lower
returns-in-Record c = c.words_below.ensures ∙ ap (all (λ k. ltb k c.args.n)) (pattern-children _ _ _) ∙ by-node (lower _) c.node_at.ensures.shows c.in-Record.is

pub returns-in-Value : goal.returns-in-Value
unfolding lower child_nodes
returns-in-Value c = child-lower _ _ ∙ by-node (lower _) c.node_at.ensures.shows c.in-Value.is

pub returns-in-Fact : goal.returns-in-Fact
unfolding lower child_nodes
returns-in-Fact c = child-lower _ _ ∙ by-node (lower _) c.node_at.ensures.shows c.in-Fact.is

pub returns-in-Access : goal.returns-in-Access
unfolding lower child_nodes
returns-in-Access c =
    let s = c.node_at.ensures.shows in
    child-lower _ _ ∙ ⊎_elim (λ w. by-node (lower _) s w.1) (λ w. by-node (lower _) s w.1) c.in-Access.is

pub returns-in_default : goal.returns-in_default
unfolding lower all
returns-in_default c =
    let n = c.in_default in
    ap (all (λ k. ltb k c.args.n)) (sym (node-rest (tables_of c.args.file.now.bytes.now) _ _ n.not-Record n.not-Access n.not-Value n.not-Select n.not-Fact))
    ∙ by-node (lower _) c.node_at.ensures.shows refl
