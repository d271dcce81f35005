use mathlib.Core.Path.{refl, sym, ◌∙◌}
use mathlib.Core.Logic.{⊎_elim}
use native.Mathlib.Omega.{arith}
use Rattle.file.specs.Tables.{tables_of}
use Rattle.rules.specs.File.{child_nodes}
use Rattle.record_checks.proofs.Seen.{by-node, node-as, words-4, node-rest}
use Rattle.checks.proofs.Views.{patterns-are, lower-run, single-low}
use Rattle.checks.proofs.Verdicts.{none-marked, marked-as}
use Rattle.checks.proofs.mark_children.Goals as goal

named : {A B : Type 0} → A × B → record { gives : A; leaves : B }
named p = record { gives = p.0; leaves = p.1 }

pub overflow_add-at : goal.overflow_add-at
overflow_add-at c = let i = (node-as c.node_at.ensures.shows c.in-Record.is).inside in omega (arith, i, c.args.file.now.indexed.small)

pub mark_run-requires : goal.mark_run-requires
mark_run-requires c =
    let s = c.node_at.ensures.shows in
    let e = c.in-Record.is in
    record { words = words-4 _ c.args.file.now.indexed.small _ _ 2 2 (node-as s e).inside (omega arith); p_value = lower-run _ _ _ (patterns-are _ _ _ s _ _ e) c.requires.n_value }

pub mark-requires : goal.mark-requires
unfolding child_nodes
mark-requires c = single-low _ _ _ (by-node child_nodes c.node_at.ensures.shows c.in-Value.is) c.requires.n_value

pub mark-requires-in-Fact : goal.mark-requires-in-Fact
unfolding child_nodes
mark-requires-in-Fact c = single-low _ _ _ (by-node child_nodes c.node_at.ensures.shows c.in-Fact.is) c.requires.n_value

pub returns-in-Record : goal.returns-in-Record
returns-in-Record c = named (marked-as _ _ _ _ _ (patterns-are _ _ _ c.node_at.ensures.shows _ _ c.in-Record.is) c.mark_run.ensures.gives c.mark_run.ensures.leaves)

pub returns-in-Value : goal.returns-in-Value
unfolding child_nodes
returns-in-Value c = named (marked-as _ _ _ _ _ (by-node child_nodes c.node_at.ensures.shows c.in-Value.is) c.mark.ensures.gives c.mark.ensures.leaves)

pub returns-in-Fact : goal.returns-in-Fact
unfolding child_nodes
returns-in-Fact c = named (marked-as _ _ _ _ _ (by-node child_nodes c.node_at.ensures.shows c.in-Fact.is) c.mark-in-Fact.ensures.gives c.mark-in-Fact.ensures.leaves)

pub mark-requires-in-Access : goal.mark-requires-in-Access
unfolding child_nodes
mark-requires-in-Access c =
    let s = c.node_at.ensures.shows in
    single-low _ _ _ (⊎_elim (λ w. by-node child_nodes s w.1) (λ w. by-node child_nodes s w.1) c.in-Access.is) c.requires.n_value

pub returns-in-Access : goal.returns-in-Access
unfolding child_nodes
returns-in-Access c =
    let s = c.node_at.ensures.shows in
    named (marked-as _ _ _ _ _ (⊎_elim (λ w. by-node child_nodes s w.1) (λ w. by-node child_nodes s w.1) c.in-Access.is) c.mark-in-Access.ensures.gives c.mark-in-Access.ensures.leaves)

pub returns-in_default : goal.returns-in_default
returns-in_default c =
    let n = c.in_default in
    named (none-marked _ _ (sym (node-rest (tables_of c.args.file.now.bytes.now) _ _ n.not-Record n.not-Access n.not-Value n.not-Select n.not-Fact)
    ∙ by-node child_nodes c.node_at.ensures.shows refl))
