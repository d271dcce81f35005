use Rattle.endings.proofs.Ends.{finished}
use Rattle.endings.proofs.finish.Goals as goal

named : {A B C : Type 0} → A × (B × C) → record { result : A; output : B; work : C }
named p = record { result = p.0; output = p.1.0; work = p.1.1 }

pub returns : goal.returns
returns c =
    named (
    finished _ _ _ c.requires _ _ _ _
    c.answer.ensures c.unwrap_or.ensures c.zero-2.ensures c.zero.ensures)
