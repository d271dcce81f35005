use mathlib.Core.Path.{sym, ◌∙◌}
use native.Mathlib.Omega.{arith}
use borrow.Author.Rules.{rules}
use Rattle.file.proofs.Raised.{raised}
use Rattle.file.proofs.Sections.{record-within, records-none, records-more, records-fault, stored-none, stored_more, stored-fault}
use Rattle.file.proofs.Numbers.{number-in}
use Rattle.file.proofs.records.Goals as goal

pub loop-k-preserved : goal.loop-k-preserved
loop-k-preserved c =
    let e = sym c.in_ok-q.ensures in (
      c.loop-k.invariant.0 ∙ records-more _ _ (number-in _) _ _ (omega arith) _ _ (omega arith) e,
      c.loop-k.invariant.1 ∙ stored_more _ _ _ _ _ _ _ _ _ (omega arith) (omega arith) e,
      record-within _ _ (number-in _) _ _ (omega arith) e,
      search rules,
    )

pub returns-in_err-q : goal.returns-in_err-q
returns-in_err-q c =
    let e = sym c.in_err-q.ensures in
    record {
      reads = raised _ _ _ c.from_residual.ensures.1 (sym (c.loop-k.invariant.0 ∙ records-fault _ _ (number-in _) _ _ (omega arith) _ (omega arith) e));
      indexes = sym (c.loop-k.invariant.1 ∙ stored-fault _ _ _ _ _ _ _ (omega arith) e);
    }

pub returns : goal.returns
returns c =
    record {
      reads = sym (c.loop-k.invariant.0 ∙ records-none _ _ (number-in _) _ _ (omega arith) (omega arith));
      indexes = sym (c.loop-k.invariant.1 ∙ stored-none _ _ _ _ _ _ (omega arith));
    }
