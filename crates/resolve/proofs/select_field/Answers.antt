use mathlib.Core.Path.{sym, ◌∙◌}
use Rattle.rules.proofs.Sound.{sound, passed-all}
use Rattle.resolve.proofs.Rooms.{union-room}
use Rattle.resolve.proofs.Answers.{seen-run, no-union, of-union}
use Rattle.resolve.proofs.select_field.Goals as goal

pub alternative_of-requires : goal.alternative_of-requires
alternative_of-requires c = (seen-run c.in-Some.is c.union_ty.ensures.shows).inside

pub selected-requires : goal.selected-requires
selected-requires c =
    record {
      path_len_bound = λ a e.
          union-room (sound _ (passed-all _ c.args.file.now.accepted.accepted)) _ _ _ _ a c.requires.room (sym (seen-run c.in-Some.is c.union_ty.ensures.shows).is) (sym c.alternative_of.ensures ∙ e);
      path_value = c.requires.clear;
    }

pub returns-in-None : goal.returns-in-None
returns-in-None c = no-union _ _ _ _ _ _ (seen-run c.in-None.is c.union_ty.ensures.shows).is (c.declined.ensures _)

pub returns-in-Some : goal.returns-in-Some
returns-in-Some c = of-union _ _ _ _ _ _ _ (seen-run c.in-Some.is c.union_ty.ensures.shows).is c.alternative_of.ensures (c.selected.ensures _)
