use Rattle.fates.proofs.Bindings.{no_const, a-record, no_record_lem}
use borrow.Author.Rules.{rules}
use Rattle.fates.proofs.const_record.Goals as goal

pub returns-in_default : goal.returns-in_default
returns-in_default c = no_const _ _ _ _ c.binding_at-b.ensures.shows (search rules)

pub returns-in-Some : goal.returns-in-Some
returns-in-Some c = a-record _ _ _ _ c.binding_at-b.ensures.shows _ c.in-Const.is _ c.pairs_of.ensures.shows _ _ c.in-Some.is

pub returns-in_default-pairs_of : goal.returns-in_default-pairs_of
returns-in_default-pairs_of c = no_record_lem _ _ _ _ c.binding_at-b.ensures.shows _ c.in-Const.is _ c.pairs_of.ensures.shows c.in_default-pairs_of.is
