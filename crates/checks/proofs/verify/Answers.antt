use mathlib.Core.Path.{sym}
use Rattle.std.proofs.lemmas.Result.{IfOk-from_err}
use Rattle.file.proofs.Raised.{raised}
use Rattle.checks.proofs.Verdicts.{file-read, file-refused}
use Rattle.checks.proofs.verify.Goals as goal

pub check-requires : goal.check-requires
check-requires c = c.in_ok-read.ensures.finds

pub returns-in_err-read : goal.returns-in_err-read
returns-in_err-read c =
    let w = file-refused _ _ _ _ (sym c.in_err-read.ensures.reads) c.in_err-read.ensures.indexes in
    record {
      gives = raised _ _ _ c.from_residual.ensures.1 w.0;
      leaves = w.1;
      finds = IfOk-from_err _ _ c.from_residual.ensures.0;
    }

pub returns : goal.returns
returns c =
    let r = c.in_ok-read.ensures in
    let w = file-read _ _ _ _ r.finds r.indexes _ c.check.ensures.gives c.check.ensures.leaves in
    record { gives = w.0; leaves = w.1; finds = c.check.ensures.finds }
