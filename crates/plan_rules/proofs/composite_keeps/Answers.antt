use native.Mathlib.Omega.{arith}
use mathlib.Core.Path.{sym, ◌∙◌}
use Rattle.plan_rules.proofs.Rules.{bytes-first, bytes_next, bytes-step, bytes-met, bytes-only}
use Rattle.plan_rules.proofs.composite_keeps.Goals as goal

pub loop-init : goal.loop-init
loop-init c = bytes-first _ _ _ c.requires

pub part_at-item-requires : goal.part_at-item-requires
part_at-item-requires c = bytes_next _ _ _ _ _ c.loop.invariant (omega (arith, c.loop-test.true))

pub returns-then-not-is_bytes : goal.returns-then-not-is_bytes
returns-then-not-is_bytes c =
    λ g.
    bytes-met _ _ _ _ _ c.loop.invariant _ c.part_at-item.result.end (omega (arith, c.loop-test.true)) c.part_at-item.ensures.reads
    (sym (c.is_bytes.ensures _) ∙ c.if-not-is_bytes.true) g

pub loop-preserved : goal.loop-preserved
loop-preserved c =
    bytes-step _ _ _ _ _ c.loop.invariant c.loop-test.true _ c.part_at-item.result.end c.part_at-item.ensures.reads
    (sym (c.is_bytes.ensures _) ∙ c.if-not-is_bytes.false)

pub returns : goal.returns
returns c = bytes-only _ _ _ _ _ c.loop.invariant (omega (arith, c.loop-test.false))
