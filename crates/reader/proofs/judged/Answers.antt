use mathlib.Core.Path.{sym, ◌∙◌}
use Rattle.endings.proofs.Ends.{bytes}
use Rattle.reader.proofs.Opens.{opened, within, keeps, breaks, refuses}
use Rattle.reader.proofs.judged.Goals as goal

named : {A B : Type 0} → A × B → record { outcome : A; within : B }
named p = record { outcome = p.0; within = p.1 }

pub levels_keep-requires : goal.levels_keep-requires
levels_keep-requires c = opened _ (bytes _ (λ i. (c.type_inv.plan i).fits)) _ c.in-Ok.ensures

pub returns-in-Ok : goal.returns-in-Ok
returns-in-Ok c =
    let h = bytes _ (λ i. (c.type_inv.plan i).fits) in
    let q = c.in-Ok.ensures in
    record { outcome = keeps _ h _ q (sym c.if-levels_keep.true ∙ c.levels_keep.ensures); within = within _ h _ q }

pub returns-in-Ok-2 : goal.returns-in-Ok-2
returns-in-Ok-2 c =
    let h = bytes _ (λ i. (c.type_inv.plan i).fits) in
    record { outcome = breaks _ h _ c.in-Ok-2.ensures (sym c.if-levels_keep.false ∙ c.levels_keep.ensures); within = tt }

pub returns-in-Err : goal.returns-in-Err
returns-in-Err c = named (refuses _ _ _ c.in-Err.ensures c.of_plan.ensures)
