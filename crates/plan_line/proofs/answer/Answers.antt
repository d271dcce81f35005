use Rattle.lines.proofs.Calls.{printable, written}
use Rattle.plan_line.proofs.Answered.{said, plan-length, work-length}
use Rattle.plan_line.proofs.answer.Goals as goal

named : {A B C : Type 0} → A × (B × C) → record { gives : A; leaves : B; bounded : C }
named p = record { gives = p.0; leaves = p.1.0; bounded = p.1.1 }

pub put_line-requires : goal.put_line-requires
put_line-requires c = printable _ _ _ _ (said _ _ _ plan-length work-length _ _ c.sinalvento_compile-a.ensures.result c.sinalvento_compile-a.ensures.plan) c.requires

pub returns : goal.returns
returns c = named (written _ _ _ (said _ _ _ plan-length work-length _ _ c.sinalvento_compile-a.ensures.result c.sinalvento_compile-a.ensures.plan) _ _ _ c.put_line.ensures.gives c.put_line.ensures.leaves)
