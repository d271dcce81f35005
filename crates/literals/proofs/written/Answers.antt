use borrow.Author.Rules.{rules}
use mathlib.Core.Path.{refl, ap, subst}
use Rattle.views.specs.Views.{SeenType}
use Rattle.literals.specs.Steps.{record_step}
use Rattle.literals.specs.declared.Step.TheVariants.{Known}
use Rattle.literals.proofs.Seen.{at-type, at-bytes}
use Rattle.literals.proofs.written.Goals as goal

pub payload-requires : goal.payload-requires
payload-requires c = (c.requires.n_in_bounds, (subst (SeenType _ _) c.in-Union.is c.type_at.ensures.shows).inside)

pub returns-in-Record : goal.returns-in-Record
unfolding record_step
returns-in-Record c = at-type _ _ _ _ _ _ c.type_at.ensures.shows _ c.in-Record.is _ refl

pub returns-in-Union : goal.returns-in-Union
unfolding record_step
returns-in-Union c = at-type _ _ _ _ _ _ c.type_at.ensures.shows _ c.in-Union.is _ c.payload.ensures

pub returns-in_default : goal.returns-in_default
returns-in_default c = at-bytes _ _ _ _ _ _ c.type_at.ensures.shows (search rules) _ (ap Known c.constant_node.ensures)
