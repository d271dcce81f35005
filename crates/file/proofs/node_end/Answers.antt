use mathlib.Core.Path.{sym, ◌∙◌}
use native.Mathlib.Omega.{arith}
use Rattle.file.proofs.Leaves.{node-cut, node-plain, node-bytes, node-fuzzy, node-record, node-bad, node-small}
use Rattle.file.proofs.node_end.Goals as goal

pub returns-then-at-file : goal.returns-then-at-file
returns-then-at-file c = sym (node-cut _ _ (omega arith))

pub returns-then-k-gt16 : goal.returns-then-k-gt16
returns-then-k-gt16 c = sym (node-bad _ _ c.from-k.result (omega arith) (omega arith) (omega arith))

pub returns-then-k-eq2 : goal.returns-then-k-eq2
returns-then-k-eq2 c = c.repeated.ensures ∙ sym (node-bytes _ _ c.from-k.result (omega arith) (omega arith) (omega arith))

pub returns-then-k-eq7 : goal.returns-then-k-eq7
returns-then-k-eq7 c = c.fuzzy_end.ensures ∙ sym (node-fuzzy _ _ c.from-k.result (omega arith) (omega arith) (omega arith))

pub returns-then-k-eq8 : goal.returns-then-k-eq8
returns-then-k-eq8 c = c.repeated-then-k-eq8.ensures ∙ sym (node-record _ _ c.from-k.result (omega arith) (omega arith) (omega arith))

pub fixed-requires : goal.fixed-requires
fixed-requires c = omega (arith, node-small c.from-k.result)

pub returns : goal.returns
returns c = c.fixed.ensures ∙ sym (node-plain _ _ c.from-k.result (omega arith) (omega arith) (omega arith) (omega arith) (omega arith) (omega arith))
