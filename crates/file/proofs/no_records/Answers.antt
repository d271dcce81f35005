use mathlib.Core.Path.{refl, sym, ap, ◌∙◌}
use native.Mathlib.Omega.{arith}
use lib.ListN.{length-set}
use Rattle.file.specs.Steps.{base_of}
use Rattle.file.proofs.Sections.{roomy}
use Rattle.file.proofs.Numbers.{number-at}
use Rattle.file.proofs.Empty.{emptied-none, emptied-more}
use Rattle.file.proofs.no_records.Goals as goal

pub loop-s-init : goal.loop-s-init
loop-s-init c = (refl, refl)

pub offset_bounds-index-base : goal.offset_bounds-index-base
offset_bounds-index-base c =
    let s = c.loop-s.s-index in
    omega (arith, c.base.ensures ∙ ap base_of (number-at s _ (omega arith)), roomy s (omega arith))

pub bounds-index-base : goal.bounds-index-base
bounds-index-base c =
    let s = c.loop-s.s-index in
    omega (arith, c.base.ensures ∙ ap base_of (number-at s _ (omega arith)), roomy s (omega arith))

pub loop-s-preserved : goal.loop-s-preserved
loop-s-preserved c =
    let l = c.loop-s in
    let b = c.base.ensures ∙ ap base_of (number-at l.s-index _ (omega arith)) in
    (l.invariant.0 ∙ emptied-more _ _ _ _ _ (omega arith) b, simp length-set l.invariant.1)

pub returns : goal.returns
returns c = sym (c.loop-s.invariant.0 ∙ emptied-none _ _ _ (omega arith))
