use native.Mathlib.Omega.{arith}
use Rattle.constrain.proofs.Ranks.{going-first, going-not, going-one, going_end}
use Rattle.constrain.proofs.constrain_rank.Goals as goal

pub count_of-k-end-requires : goal.count_of-k-end-requires
count_of-k-end-requires c = omega arith

pub loop-k-init : goal.loop-k-init
loop-k-init c = going-first _ _ _ _ _ _ _ _

pub pattern_for-requires : goal.pattern_for-requires
pattern_for-requires c = omega (arith, c.loop-k-test.true, c.count_of-k-end.ensures)

pub narrow_or_report-l-requires : goal.narrow_or_report-l-requires
narrow_or_report-l-requires c = c.requires

pub loop-k-preserved : goal.loop-k-preserved
loop-k-preserved c =
    going-one _ _ _ _ _ _ _ _ _ _ _ _ c.loop-k.invariant (omega (arith, c.loop-k-test.true, c.count_of-k-end.ensures)) _ c.pattern_for.ensures _ c.in-Some.is _ c.narrow_or_report-l.ensures _ _
    c.narrow_or_report-l.auto.work c.narrow_or_report-l.auto.plan

pub loop-k-preserved-in_default : goal.loop-k-preserved-in_default
loop-k-preserved-in_default c = going-not _ _ _ _ _ _ _ _ _ _ _ _ c.loop-k.invariant (omega (arith, c.loop-k-test.true, c.count_of-k-end.ensures)) _ c.pattern_for.ensures c.in_default.is

pub returns : goal.returns
returns c = going_end _ _ _ _ _ _ _ _ _ _ _ _ c.loop-k.invariant (omega (arith, c.loop-k-test.false, c.count_of-k-end.ensures))
