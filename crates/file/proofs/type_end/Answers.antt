use mathlib.Core.Path.{sym, ◌∙◌}
use native.Mathlib.Omega.{arith}
use Rattle.file.proofs.Leaves.{type-cut, type-plain, type-record, type-union, type-bad, type-small}
use Rattle.file.proofs.type_end.Goals as goal

pub returns-then-at-file : goal.returns-then-at-file
returns-then-at-file c = sym (type-cut _ _ (omega arith))

pub fixed-requires : goal.fixed-requires
fixed-requires c = omega (arith, type-small c.from-k.result)

pub returns-then-k-lt4 : goal.returns-then-k-lt4
returns-then-k-lt4 c = c.fixed.ensures ∙ sym (type-plain _ _ c.from-k.result (omega arith) (omega arith) (omega arith))

pub returns-then-k-eq4 : goal.returns-then-k-eq4
returns-then-k-eq4 c = c.repeated.ensures ∙ sym (type-record _ _ c.from-k.result (omega arith) (omega arith) (omega arith))

pub returns-then-k-eq5 : goal.returns-then-k-eq5
returns-then-k-eq5 c = c.repeated-then-k-eq5.ensures ∙ sym (type-union _ _ c.from-k.result (omega arith) (omega arith) (omega arith))

pub returns : goal.returns
returns c = sym (type-bad _ _ c.from-k.result (omega arith) (omega arith) (omega arith))
