use mathlib.Core.Path.{◌∙◌}
use native.Mathlib.Omega.{arith}
use Rattle.file.proofs.Empty.{empty-reads, empty-indexes, other-reads, other-indexes}
use Rattle.file.proofs.Accepted.{indexed-if}
use Rattle.std.specs.Prelude.{Ok}
use borrow.Author.Rules.{rules}
use Rattle.file.proofs.read.Goals as goal

pub returns-then-file-eq0 : goal.returns-then-file-eq0
returns-then-file-eq0 c =
    let f = c.args.file.now in
    let e = empty-reads f (omega arith) in
    let x = c.no_records.ensures ∙ empty-indexes f _ (omega arith) in
    record { reads = e; indexes = x; finds = indexed-if f _ _ (Ok 0) (search rules) (search rules) e x }

pub returns : goal.returns
returns c =
    let f = c.args.file.now in
    let d = c.ten_sections.ensures in
    let e = d.reads ∙ other-reads f (omega arith) in
    let x = d.indexes ∙ other-indexes f _ (omega arith) in
    record { reads = e; indexes = x; finds = indexed-if f _ _ _ (search rules) (search rules) e x }
