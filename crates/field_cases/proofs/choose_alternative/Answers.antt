use native.Mathlib.Omega.{arith}
use Rattle.field_cases.proofs.Opens.{run_inside}
use Rattle.field_cases.proofs.Choices.{unchosen-is, no_record_lem, no-union, arity, unknown, known}
use mathlib.Core.Path.{◌∙◌}
use Rattle.field_cases.proofs.choose_alternative.Goals as goal

pub returns-in_default : goal.returns-in_default
returns-in_default c = λ plan. unchosen-is _ _ _ _ plan c.unchosen.ensures ∙ no_record_lem _ _ _ _ _ _ c.pairs_of.ensures.shows c.in_default.is

pub returns-in_default-union_ty : goal.returns-in_default-union_ty
returns-in_default-union_ty c = λ plan. unchosen-is _ _ _ _ plan c.unchosen-in_default-union_ty.ensures ∙ no-union _ _ _ _ _ _ c.pairs_of.ensures.shows _ c.union_ty.ensures.shows c.in_default-union_ty.is

pub returns-then-k-ne1 : goal.returns-then-k-ne1
returns-then-k-ne1 c = λ plan. unchosen-is _ _ _ _ plan c.unchosen-then-k-ne1.ensures ∙ arity _ _ _ _ _ _ c.pairs_of.ensures.shows _ c.union_ty.ensures.shows _ _ _ _ c.in-Some.is c.in-Some-union_ty.is c.if-k-ne1.true _ (c.diagnose.ensures _ plan)

pub field_pattern_at-p-requires : goal.field_pattern_at-p-requires
field_pattern_at-p-requires c = omega (arith, run_inside _ _ _ _ _ c.pairs_of.ensures.shows _ _ c.in-Some.is, c.if-k-ne1.false)

pub alternative_of-requires : goal.alternative_of-requires
alternative_of-requires c = run_inside _ _ _ _ _ c.union_ty.ensures.shows _ _ c.in-Some-union_ty.is

pub returns-in_default-alternative_of : goal.returns-in_default-alternative_of
returns-in_default-alternative_of c = λ plan. unchosen-is _ _ _ _ plan c.unchosen-in_default-alternative_of.ensures ∙ unknown _ _ _ _ _ _ c.pairs_of.ensures.shows _ c.union_ty.ensures.shows _ _ _ _ c.in-Some.is c.in-Some-union_ty.is c.if-k-ne1.false _ c.field_pattern_at-p.ensures _ c.alternative_of.ensures c.in_default-alternative_of.is _ (c.diagnose-in_default-alternative_of.ensures _ plan)

pub returns : goal.returns
returns c = λ plan. known _ _ _ _ _ _ c.pairs_of.ensures.shows _ c.union_ty.ensures.shows _ _ _ _ c.in-Some.is c.in-Some-union_ty.is c.if-k-ne1.false _ c.field_pattern_at-p.ensures _ c.alternative_of.ensures _ c.in-Some-alternative_of.is
