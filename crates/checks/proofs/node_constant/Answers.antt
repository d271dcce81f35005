use mathlib.Core.Path.{refl, ◌∙◌}
use mathlib.Core.Logic.{⊎_elim}
use native.Mathlib.Omega.{arith}
use Rattle.rules.specs.File.{constant_of}
use Rattle.record_checks.proofs.Seen.{by-node, node-as, words-4}
use Rattle.checks.proofs.Bottom.{node-lower}
use Rattle.checks.proofs.Fill.{nodes-few}
use Rattle.checks.proofs.Views.{patterns-are, lower-run, constant-record, constant-rest}
use Rattle.checks.proofs.node_constant.Goals as goal

pub overflow_add-at : goal.overflow_add-at
overflow_add-at c = let i = (node-as c.node_at.ensures.shows c.in-Record.is).inside in omega (arith, i, c.args.file.now.indexed.small)

pub all_constant-requires : goal.all_constant-requires
all_constant-requires c =
    let s = c.node_at.ensures.shows in
    let e = c.in-Record.is in
    record { m_le_node_limit = omega (arith, nodes-few _ _ c.args.file.now.indexed, c.requires.n_in_bounds); words = words-4 _ c.args.file.now.indexed.small _ _ 2 2 (node-as s e).inside (omega arith); p_value = lower-run _ _ _ (patterns-are _ _ _ s _ _ e) (node-lower _ c.requires.file_value _ c.requires.n_in_bounds) }

pub returns-in-Record : goal.returns-in-Record
returns-in-Record c = c.all_constant.ensures ∙ constant-record _ _ _ c.node_at.ensures.shows _ _ c.in-Record.is _

pub returns-in-Int : goal.returns-in-Int
unfolding constant_of
returns-in-Int c =
    let s = c.node_at.ensures.shows in
    ⊎_elim (λ w. by-node (constant_of _) s w.1) (λ o. ⊎_elim (λ w. by-node (constant_of _) s w.1) (λ w. by-node (constant_of _) s w.2) o) c.in-Int.is

pub returns-in-Var : goal.returns-in-Var
unfolding constant_of
returns-in-Var c = by-node (constant_of _) c.node_at.ensures.shows c.in-Var.is

pub returns-in_default : goal.returns-in_default
returns-in_default c =
    let n = c.in_default in
    constant-rest _ _ _ n.not-Int n.not-Str n.not-Bytes n.not-Record ∙ by-node (constant_of _) c.node_at.ensures.shows refl
