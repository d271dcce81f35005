use mathlib.Core.Path.{refl, sym, ◌∙◌}
use native.Mathlib.Omega.{arith}
use Prim.Native.Nat.{◌<◌}
use lib.ListN.{length}
use Rattle.file.specs.Tables.{tables_of}
use Rattle.checks.proofs.Fill.{nodes-few}
use Rattle.checks.proofs.Marks.{nodes-end, nodes-on, nodes-stop, child-marks}
use Rattle.checks.proofs.mark_nodes.Goals as goal

pub count_of-m-requires : goal.count_of-m-requires
count_of-m-requires c = omega arith

pub loop-n-init : goal.loop-n-init
loop-n-init c = (refl, refl, c.count_of-m.ensures, refl)

pub mark_children-requires : goal.mark_children-requires
mark_children-requires c =
    let l = c.loop-n in
    let h : l.n < length (tables_of c.args.file.now.bytes.now).nodes = omega (arith, l.invariant.2, c.loop-n-test.true) in
    record { n_in_bounds = h; n_value = child-marks _ c.requires.file_value _ _ h (omega (arith, nodes-few _ _ c.args.file.now.indexed, l.invariant.3, c.requires.marks_len)) }

pub returns-then-not-mark_children : goal.returns-then-not-mark_children
returns-then-not-mark_children c =
    let l = c.loop-n in
    let s = nodes-stop _ _ _ _ (omega (arith, l.invariant.2, c.loop-n-test.true)) (sym c.mark_children.ensures.gives ∙ c.if-not-mark_children.true) c.mark_children.ensures.leaves in
    record { gives = sym (l.invariant.0 ∙ s.0); leaves = sym (l.invariant.1 ∙ s.1) }

pub loop-n-preserved : goal.loop-n-preserved
loop-n-preserved c =
    let l = c.loop-n in
    let s = nodes-on _ _ _ _ (omega (arith, l.invariant.2, c.loop-n-test.true)) (sym c.mark_children.ensures.gives ∙ c.if-not-mark_children.false) c.mark_children.ensures.leaves in
    (l.invariant.0 ∙ s.0, l.invariant.1 ∙ s.1, l.invariant.2, c.mark_children.auto.marks ∙ l.invariant.3)

pub returns : goal.returns
returns c =
    let l = c.loop-n in
    let s = nodes-end (tables_of c.args.file.now.bytes.now) l.marks l.marks l.n (omega (arith, l.invariant.2, c.loop-n-test.false)) in
    record { gives = sym (l.invariant.0 ∙ s.0); leaves = sym (l.invariant.1 ∙ s.1) }
