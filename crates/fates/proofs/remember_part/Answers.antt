use mathlib.Core.Path.{sym, ◌∙◌}
use native.Mathlib.Omega.{arith}
use Rattle.rules.proofs.Literals.{constant-in}
use Rattle.accepted_file.proofs.Given.{few-nodes}
use Rattle.fates.proofs.Parts.{parent-constant, part-full, part_no, part-has, part-row}
use Rattle.fates.proofs.remember_part.Goals as goal

pub returns-then-k-ge-ROW_LIMIT : goal.returns-then-k-ge-ROW_LIMIT
returns-then-k-ge-ROW_LIMIT c = part-full _ _ _ _ c.if-k-ge-ROW_LIMIT.true

pub returns-then-not-is_parent : goal.returns-then-not-is_parent
returns-then-not-is_parent c = part_no _ _ _ _ (sym c.is_parent.ensures ∙ c.if-not-is_parent.true)

pub overflow_add-node : goal.overflow_add-node
overflow_add-node c =
    let k = constant-in _ _ (parent-constant _ _ (sym c.is_parent.ensures ∙ c.if-not-is_parent.false)) in
    omega (arith, few-nodes _ _ c.args.file.now.accepted.indexed, k)

pub offset_bounds-long-node : goal.offset_bounds-long-node
offset_bounds-long-node c =
    let k = constant-in _ _ (parent-constant _ _ (sym c.is_parent.ensures ∙ c.if-not-is_parent.false)) in
    omega (arith, few-nodes _ _ c.args.file.now.accepted.indexed, k)

pub bounds-long-node : goal.bounds-long-node
bounds-long-node c =
    let k = constant-in _ _ (parent-constant _ _ (sym c.is_parent.ensures ∙ c.if-not-is_parent.false)) in
    omega (arith, few-nodes _ _ c.args.file.now.accepted.indexed, k, c.requires)

pub returns-then-from-ne0 : goal.returns-then-from-ne0
returns-then-from-ne0 c = part-has _ _ _ _ (λ e. c.if-from-ne0.true (c.from.ensures ∙ e))

pub put_row-requires : goal.put_row-requires
put_row-requires c = record { node_value = parent-constant _ _ (sym c.is_parent.ensures ∙ c.if-not-is_parent.false); k_lt_binding_limit = (c.if-k-ge-ROW_LIMIT.false, c.requires) }

pub overflow_add-long-2 : goal.overflow_add-long-2
overflow_add-long-2 c =
    let k = constant-in _ _ (parent-constant _ _ (sym c.is_parent.ensures ∙ c.if-not-is_parent.false)) in
    omega (arith, few-nodes _ _ c.args.file.now.accepted.indexed, k)

pub offset_bounds-long-node-2 : goal.offset_bounds-long-node-2
offset_bounds-long-node-2 c =
    let k = constant-in _ _ (parent-constant _ _ (sym c.is_parent.ensures ∙ c.if-not-is_parent.false)) in
    omega (arith, few-nodes _ _ c.args.file.now.accepted.indexed, k)

pub bounds-long-node-2 : goal.bounds-long-node-2
bounds-long-node-2 c =
    let k = constant-in _ _ (parent-constant _ _ (sym c.is_parent.ensures ∙ c.if-not-is_parent.false)) in
    omega (arith, few-nodes _ _ c.args.file.now.accepted.indexed, k, c.requires, c.put_row.auto.long)

pub returns : goal.returns
returns c = part-row _ _ _ _ c.if-k-ge-ROW_LIMIT.false (sym c.is_parent.ensures ∙ c.if-not-is_parent.false) (sym c.from.ensures ∙ c.if-from-ne0.false) _ c.put_row.ensures
