use mathlib.Core.Path.{refl, ap₂, ◌∙◌}
use lib.Dec.{ltb}
use Rattle.rules.specs.Checks.{type_in, is_predicate}
use Rattle.record_checks.proofs.Seen.{by-type, type-in-rest, fields_in_lem, alternatives-in, pairs-as}
use Rattle.record_checks.proofs.type_in.Goals as goal

pub returns-in-Fact : goal.returns-in-Fact
unfolding type_in is_predicate
returns-in-Fact c = ap₂ ltb c.from.ensures c.count_of.ensures ∙ by-type (type_in _) c.type_at.ensures.shows c.in-Fact.is

pub returns-in-Record : goal.returns-in-Record
returns-in-Record c = c.pairs_in.ensures ∙ pairs-as _ _ _ _ _ c.count_of-names.ensures c.count_of-types.ensures ∙ fields_in_lem _ _ _ _ ∙ by-type (type_in _) c.type_at.ensures.shows c.in-Record.is

pub returns-in-Union : goal.returns-in-Union
returns-in-Union c = c.pairs_in-in-Union.ensures ∙ pairs-as _ _ _ _ _ c.count_of-names.ensures c.count_of-types.ensures ∙ alternatives-in _ _ _ _ ∙ by-type (type_in _) c.type_at.ensures.shows c.in-Union.is

pub returns-in_default : goal.returns-in_default
returns-in_default c =
    type-in-rest _ _ _ c.in_default.not-Fact c.in_default.not-Record c.in_default.not-Union
    ∙ by-type (type_in _) c.type_at.ensures.shows refl
