use mathlib.Core.Path.{sym, ◌∙◌}
use native.Mathlib.Omega.{arith}
use lib.ListN.{length-set}
use Rattle.file.proofs.Raised.{raised}
use Rattle.file.proofs.Sections.{roomy, count_next, section-on, section-fault, entries-stored, entries-kept}
use Rattle.file.proofs.Numbers.{number-in}
use Rattle.file.proofs.section_end.Goals as goal

pub overflow_cast-index : goal.overflow_cast-index
overflow_cast-index c =
    omega (arith, count_next _ _ _ _ (omega arith) (sym c.in_ok-n.ensures), roomy _ (number-in c.args.s))

pub offset_bounds-index-b : goal.offset_bounds-index-b
offset_bounds-index-b c = omega (arith, roomy _ (number-in c.args.s))

pub bounds-index-b : goal.bounds-index-b
bounds-index-b c = omega (arith, roomy _ (number-in c.args.s))

pub overflow_add-b : goal.overflow_add-b
overflow_add-b c = omega (arith, roomy _ (number-in c.args.s))

pub overflow_add-p : goal.overflow_add-p
overflow_add-p c = omega (arith, count_next _ _ _ _ (omega arith) (sym c.in_ok-n.ensures))

pub records-requires : goal.records-requires
records-requires c =
    simp length-set (omega (arith, count_next _ _ _ _ (omega arith) (sym c.in_ok-n.ensures), roomy _ (number-in c.args.s)))

pub returns-in_err-n : goal.returns-in_err-n
returns-in_err-n c =
    let e = sym c.in_err-n.ensures in
    record { reads = raised _ _ _ c.from_residual.ensures.1 (sym (section-fault _ _ _ _ e)); indexes = entries-kept _ _ _ _ _ _ e }

pub returns : goal.returns
returns c =
    let e = sym c.in_ok-n.ensures in
    record {
      reads = c.records.ensures.reads ∙ sym (section-on _ _ _ _ (omega arith) e);
      indexes = c.records.ensures.indexes ∙ entries-stored _ _ _ _ _ _ c.base-b.ensures e;
    }
