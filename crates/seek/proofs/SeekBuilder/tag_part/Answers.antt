use Rattle.seek.proofs.Parts.{part-is}
use Rattle.records.proofs.Places.{part-written}
use mathlib.Core.Bool.{true, false}
use mathlib.Core.Path.{refl}
use Rattle.rules.specs.Plan as Plan
use Rattle.rules.specs.Placement.{SeekKeyPart}
use Rattle.rules.specs.Constant.{union_tag, big_endian32}
use Rattle.state.specs.Ops.{is_bytes, part_text}
use Rattle.seek.proofs.SeekBuilder.tag_part.Goals as goal

pub returns : goal.returns
unfolding is_bytes part_text union_tag big_endian32 Plan.part_key Plan.text Plan.u16
returns c =
    λ T e w.
    let p = c.part-p in
    let x = union_tag c.args.disc in
    let h = c.put_head-at in
    part-is c.args.self T e w _ _ false true 5 3 (SeekKeyPart.Bytes x) p.result _ _ p.ensures.grows.0 p.ensures.writes refl refl refl
    (part-written p.result.place h.result 5 x _ _ _ h.ensures.0 h.ensures.1 c.put_tag_at.ensures (λ _. refl))
