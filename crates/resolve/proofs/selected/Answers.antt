use mathlib.Core.Path.{refl, ap, ◌∙◌}
use Rattle.rules.specs.File.{payload}
use Rattle.tables.specs.Tables.{alternative_option}
use Rattle.slots.proofs.Tidy.{no-slot}
use Rattle.resolve.proofs.Answers.{gives-is, none-selected, selected-is, count-below}
use Rattle.fields.proofs.Slots.{next-cleared}
use borrow.Author.Rules.{rules}
use Rattle.resolve.proofs.selected.Goals as goal

pub payload-payload-requires : goal.payload-payload-requires
payload-payload-requires c = count-below _ _ c.within.ensures.0 c.within.ensures.1 (search rules) (c.requires.path_len_bound _ (ap alternative_option c.in-Some.is))

pub returns-in-None : goal.returns-in-None
returns-in-None c = λ T. none-selected T _ _ (ap alternative_option c.in-None.is) (gives-is c.gives.ensures (no-slot refl))

pub returns-in-Some : goal.returns-in-Some
returns-in-Some c =
    λ T.
    let q = c.within in
    let h = count-below _ _ q.ensures.0 q.ensures.1 (search rules) (c.requires.path_len_bound _ (ap alternative_option c.in-Some.is)) in
    selected-is T _ _ _ _ c.select-l.ensures refl c.field.ensures (c.payload-payload.ensures.holds.is ∙ ap (λ p. payload p c.in-Some.alt.disc) q.ensures.0)
    (next-cleared c.args.path q.result _ _ q.ensures.2 (search rules) h c.payload-payload.ensures.whole c.requires.path_value) (ap alternative_option c.in-Some.is) c.gives-in-Some.ensures
