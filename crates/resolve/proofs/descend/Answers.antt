use mathlib.Core.Path.{sym, ◌∙◌}
use native.Mathlib.Omega.{arith}
use Rattle.accepted_file.proofs.Given.{few-nodes}
use Rattle.resolve.proofs.Chains.{down-first, down-more, down-end, down-full, reader-in}
use Rattle.resolve.proofs.descend.Goals as goal

named : {A B : Type 0} → A × B → record { passes : A; writes : B }
named p = record { passes = p.0; writes = p.1 }

pub loop-k-init : goal.loop-k-init
loop-k-init c = down-first _ _ _

pub returns-in_default : goal.returns-in_default
returns-in_default c = named (down-end _ c.loop-k.invariant (sym c.read_of.ensures ∙ c.in_default.is))

pub overflow_cast-trail : goal.overflow_cast-trail
overflow_cast-trail c =
    let l = c.loop-k in
    omega (arith, reader-in _ _ _ _ (sym c.read_of.ensures ∙ c.in-Some.is), few-nodes _ _ c.args.file.now.accepted.indexed)

pub loop-k-preserved : goal.loop-k-preserved
loop-k-preserved c =
    let l = c.loop-k in
    down-more _ l.invariant _ _ (sym c.read_of.ensures ∙ c.in-Some.is) (omega (arith, l.invariant.long, c.loop-k-test.true))

pub returns : goal.returns
returns c = named (down-full _ c.loop-k.invariant c.loop-k-test.false)
