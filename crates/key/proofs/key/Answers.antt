use Rattle.key.proofs.Keys.{fits-field, key-scalar, key-by-record, key-whole}
use Rattle.accepted_file.proofs.Given.{sound-tables}
use Rattle.key.proofs.key.Goals as goal

pub field-requires : goal.field-requires
field-requires c = fits-field _ (sound-tables _ _ c.args.file.now.accepted) _ c.requires _ _ c.field-path.ensures.holds

pub returns-in_default : goal.returns-in_default
returns-in_default c = key-scalar _ _ _ _ _ _ _ c.record_ty.ensures.shows _ c.in_default.is c.requires _ c.field-path.ensures.holds c.field.ensures

pub returns-in-Some-pairs_of : goal.returns-in-Some-pairs_of
returns-in-Some-pairs_of c = key-by-record _ _ _ _ _ _ c.record_key.ensures _ _ c.record_ty.ensures.shows _ _ c.in-Some.is _ c.pairs_of.ensures.shows _ _ c.in-Some-pairs_of.is

pub returns : goal.returns
returns c = key-whole _ _ _ _ _ _ _ c.record_ty.ensures.shows _ _ _ c.in-Some.is _ c.pairs_of.ensures.shows c.in_default-pairs_of.is c.whole_key.ensures
