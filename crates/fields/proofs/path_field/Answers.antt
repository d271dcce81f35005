use mathlib.Core.Path.{refl, sym, ap, ◌∙◌}
use Rattle.rules.specs.File.{then}
use Rattle.rules.proofs.Sound.{sound, passed-all}
use Rattle.fields.specs.Found.{place_of}
use Rattle.fields.proofs.Slots.{no_field, field_at, field_room, next-cleared}
use borrow.Author.Rules.{rules}
use Rattle.fields.proofs.path_field.Goals as goal

pub then-requires : goal.then-requires
then-requires c = field_room (sound _ (passed-all _ c.args.file.now.accepted.accepted)) _ _ _ (sym c.field_of.ensures ∙ ap place_of c.in_ok-i.was) c.within.ensures.0 c.requires.room c.within.ensures.1 (search rules)

pub returns-in_err-i : goal.returns-in_err-i
returns-in_err-i c = no_field _ _ c.from_residual.ensures (sym c.field_of.ensures ∙ ap place_of c.in_err-i.was)

pub returns : goal.returns
returns c =
    let w = c.within in
    let h = field_room (sound _ (passed-all _ c.args.file.now.accepted.accepted)) _ _ _ (sym c.field_of.ensures ∙ ap place_of c.in_ok-i.was) w.ensures.0 c.requires.room w.ensures.1 (search rules) in
    field_at _ _ _ _ refl c.field.ensures
    (next-cleared c.args.path w.result _ _ w.ensures.2 (search rules) h c.then.ensures.whole c.requires.clear)
    (c.then.ensures.holds.is ∙ ap (λ p. then p c.in_ok-i.i) c.within.ensures.0)
    (sym c.field_of.ensures ∙ ap place_of c.in_ok-i.was)
