use mathlib.Core.Path.{refl, sym, ◌∙◌}
use native.Mathlib.Omega.{arith}
use Rattle.file.proofs.Raised.{raised}
use Rattle.file.proofs.Sections.{section-within, sections-more, sections-fault, sections-over, sections-whole}
use Rattle.file.proofs.Sections.{filled_none, filled_more, filled-fault, ten-sections}
use Rattle.file.specs.declared.Section.TheVariants.{Names}
use Rattle.file.proofs.Numbers.{number-at}
use Rattle.file.proofs.ten_sections.Goals as goal

pub loop-s-init : goal.loop-s-init
loop-s-init c = (ten-sections _, refl, omega arith, refl)

pub loop-s-preserved : goal.loop-s-preserved
loop-s-preserved c =
    let n = number-at c.loop-s.s-index Names (omega arith) in
    let e = sym (rw n at c.in_ok-p.ensures.reads) in (
      c.loop-s.invariant.0 ∙ sections-more _ _ _ _ _ _ (omega arith) (omega arith) (omega arith) e,
      c.loop-s.invariant.1 ∙ filled_more _ _ _ _ _ _ _ _ (omega arith) e (rw n at c.section_end.ensures.indexes),
      section-within _ _ (omega arith) _ _ (omega arith) e,
      c.section_end.auto.index ∙ c.loop-s.invariant.3,
    )

pub returns-in_err-p : goal.returns-in_err-p
returns-in_err-p c =
    let n = number-at c.loop-s.s-index Names (omega arith) in
    let e = sym (rw n at c.in_err-p.ensures.reads) in
    record {
      reads = raised _ _ _ c.from_residual.ensures.1 (sym (c.loop-s.invariant.0 ∙ sections-fault _ _ _ _ _ (omega arith) e));
      indexes = sym (c.loop-s.invariant.1 ∙ filled-fault _ _ _ _ _ _ (omega arith) e ∙ sym (rw n at c.section_end.ensures.indexes));
    }

pub returns-then-p-file : goal.returns-then-p-file
returns-then-p-file c =
    record {
      reads = sym (c.loop-s.invariant.0 ∙ sections-over _ _ _ _ (omega arith) (omega arith));
      indexes = sym (c.loop-s.invariant.1 ∙ filled_none _ _ _ _ _ (omega arith));
    }

pub returns : goal.returns
returns c =
    record {
      reads = sym (c.loop-s.invariant.0 ∙ sections-whole _ _ _ _ (omega arith) (omega arith) (omega arith));
      indexes = sym (c.loop-s.invariant.1 ∙ filled_none _ _ _ _ _ (omega arith));
    }
