use native.Mathlib.Omega.{arith}
use mathlib.Core.Path.{refl}
use Rattle.plan_items.proofs.Plans.{levels-inside, at-bindings, at-constrained, at-selects, at-diagnostics, past-levels, past-bindings, past-constrained, past-selects, plan-opened}
use Rattle.plan_items.proofs.Views.{levels-past, bindings-past, constrained-past, selects-past, plan-view}
use Rattle.plan_items.proofs.open_plan.Goals as goal

pub list_end-requires : goal.list_end-requires
list_end-requires c =
    let b = past-levels _ c.requires 0 c.level_list_end.result c.unwrap_or-b.result c.unwrap_or-b.ensures refl c.level_list_end.ensures in
    omega (arith, at-bindings _ c.requires c.unwrap_or-b.result b)

pub words_end-requires : goal.words_end-requires
words_end-requires c =
    let b = past-levels _ c.requires 0 c.level_list_end.result c.unwrap_or-b.result c.unwrap_or-b.ensures refl c.level_list_end.ensures in
    let k = past-bindings _ c.requires c.unwrap_or-b.result c.list_end.result c.unwrap_or-k.result c.unwrap_or-k.ensures b c.list_end.ensures in
    omega (arith, at-constrained _ c.requires c.unwrap_or-k.result k)

pub list_end-requires-2 : goal.list_end-requires-2
list_end-requires-2 c =
    let b = past-levels _ c.requires 0 c.level_list_end.result c.unwrap_or-b.result c.unwrap_or-b.ensures refl c.level_list_end.ensures in
    let k = past-bindings _ c.requires c.unwrap_or-b.result c.list_end.result c.unwrap_or-k.result c.unwrap_or-k.ensures b c.list_end.ensures in
    let s = past-constrained _ c.requires c.unwrap_or-k.result c.words_end.result c.unwrap_or-s.result c.unwrap_or-s.ensures k c.words_end.ensures in
    omega (arith, at-selects _ c.requires c.unwrap_or-s.result s)

pub list_at-levels-requires : goal.list_at-levels-requires
list_at-levels-requires c = omega (arith, levels-inside _ c.requires)

pub list_at-bindings-requires : goal.list_at-bindings-requires
list_at-bindings-requires c =
    let b = past-levels _ c.requires 0 c.level_list_end.result c.unwrap_or-b.result c.unwrap_or-b.ensures refl c.level_list_end.ensures in
    at-bindings _ c.requires c.unwrap_or-b.result b

pub list_at-constrained-requires : goal.list_at-constrained-requires
list_at-constrained-requires c =
    let b = past-levels _ c.requires 0 c.level_list_end.result c.unwrap_or-b.result c.unwrap_or-b.ensures refl c.level_list_end.ensures in
    let k = past-bindings _ c.requires c.unwrap_or-b.result c.list_end.result c.unwrap_or-k.result c.unwrap_or-k.ensures b c.list_end.ensures in
    at-constrained _ c.requires c.unwrap_or-k.result k

pub list_at-selects-requires : goal.list_at-selects-requires
list_at-selects-requires c =
    let b = past-levels _ c.requires 0 c.level_list_end.result c.unwrap_or-b.result c.unwrap_or-b.ensures refl c.level_list_end.ensures in
    let k = past-bindings _ c.requires c.unwrap_or-b.result c.list_end.result c.unwrap_or-k.result c.unwrap_or-k.ensures b c.list_end.ensures in
    let s = past-constrained _ c.requires c.unwrap_or-k.result c.words_end.result c.unwrap_or-s.result c.unwrap_or-s.ensures k c.words_end.ensures in
    at-selects _ c.requires c.unwrap_or-s.result s

pub list_at-diagnostics-requires : goal.list_at-diagnostics-requires
list_at-diagnostics-requires c =
    let b = past-levels _ c.requires 0 c.level_list_end.result c.unwrap_or-b.result c.unwrap_or-b.ensures refl c.level_list_end.ensures in
    let k = past-bindings _ c.requires c.unwrap_or-b.result c.list_end.result c.unwrap_or-k.result c.unwrap_or-k.ensures b c.list_end.ensures in
    let s = past-constrained _ c.requires c.unwrap_or-k.result c.words_end.result c.unwrap_or-s.result c.unwrap_or-s.ensures k c.words_end.ensures in
    let d = past-selects _ c.requires c.unwrap_or-s.result c.list_end-2.result c.unwrap_or-d.result c.unwrap_or-d.ensures s c.list_end-2.ensures in
    at-diagnostics _ c.requires c.unwrap_or-d.result d

pub returns : goal.returns
returns c =
    let b = past-levels _ c.requires 0 c.level_list_end.result c.unwrap_or-b.result c.unwrap_or-b.ensures refl c.level_list_end.ensures in
    let k = past-bindings _ c.requires c.unwrap_or-b.result c.list_end.result c.unwrap_or-k.result c.unwrap_or-k.ensures b c.list_end.ensures in
    let s = past-constrained _ c.requires c.unwrap_or-k.result c.words_end.result c.unwrap_or-s.result c.unwrap_or-s.ensures k c.words_end.ensures in
    let d = past-selects _ c.requires c.unwrap_or-s.result c.list_end-2.result c.unwrap_or-d.result c.unwrap_or-d.ensures s c.list_end-2.ensures in
    let v =
    plan-opened _ c.requires _ _ _ _ b k s d _ _ _ _ _
    c.list_at-levels.result c.list_at-bindings.result c.list_at-constrained.result c.list_at-selects.result c.list_at-diagnostics.result
    c.list_at-levels.ensures.is c.list_at-bindings.ensures.is c.list_at-constrained.ensures.is c.list_at-selects.ensures.is c.list_at-diagnostics.ensures.is
    c.list_at-levels.ensures.few c.list_at-bindings.ensures.few c.list_at-constrained.ensures.few c.list_at-selects.ensures.few c.list_at-diagnostics.ensures.few in
    record {
      reads = v.0;
      inside = v.1;
      view = plan-view _ c.unwrap_or-b.result c.unwrap_or-k.result c.unwrap_or-s.result c.unwrap_or-d.result
          (levels-past _ 0 c.level_list_end.result c.unwrap_or-b.result c.unwrap_or-b.ensures c.level_list_end.ensures)
          (bindings-past _ c.unwrap_or-b.result c.list_end.result c.unwrap_or-k.result c.unwrap_or-k.ensures c.list_end.ensures)
          (constrained-past _ c.unwrap_or-k.result c.words_end.result c.unwrap_or-s.result c.unwrap_or-s.ensures c.words_end.ensures)
          (selects-past _ c.unwrap_or-s.result c.list_end-2.result c.unwrap_or-d.result c.unwrap_or-d.ensures c.list_end-2.ensures)
          c.list_at-levels.result c.list_at-bindings.result c.list_at-constrained.result c.list_at-selects.result c.list_at-diagnostics.result
          c.list_at-levels.ensures.is c.list_at-bindings.ensures.is c.list_at-constrained.ensures.is c.list_at-selects.ensures.is c.list_at-diagnostics.ensures.is;
    }
