use mathlib.Core.Path.{refl, ap}
use native.Mathlib.Omega.{arith}
use lib.Dec.{ltb}
use Rattle.file.specs.Steps.{limit_of}
use Rattle.rules.specs.Checks.{none_or, is_type}
use Rattle.record_checks.proofs.Seen.{predicate-no, predicate-yes}
use Rattle.record_checks.proofs.predicate_in.Goals as goal

pub overflow_cast-t : goal.overflow_cast-t
unfolding limit_of
overflow_cast-t c = let h = c.args.file.now.indexed.predicates.under in omega (arith, h, c.requires)

pub returns-then-p-types : goal.returns-then-p-types
returns-then-p-types c = predicate-no _ c.predicate_at-p.result _ c.predicate_at-p.ensures (omega (arith, c.count_of-types.ensures))

pub returns-in-None : goal.returns-in-None
unfolding none_or
returns-in-None c = predicate-yes _ c.predicate_at-p.result _ _ _ c.predicate_at-p.ensures (omega (arith, c.count_of-types.ensures)) c.in-None.is refl

pub returns-in-Some : goal.returns-in-Some
unfolding none_or is_type
returns-in-Some c = predicate-yes _ c.predicate_at-p.result _ _ _ c.predicate_at-p.ensures (omega (arith, c.count_of-types.ensures)) c.in-Some.is (ap (ltb _) c.count_of-types.ensures)
