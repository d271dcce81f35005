use Rattle.seek.proofs.Parts.{part-is}
use Rattle.records.proofs.Places.{apart-written}
use mathlib.Core.Bool.{false}
use mathlib.Core.Path.{refl}
use Rattle.rules.specs.Plan as Plan
use Rattle.rules.specs.Placement.{SeekKeyPart}
use Rattle.state.specs.Ops.{is_bytes, part_text}
use Rattle.records.specs.Records.{form_of}
use Rattle.paths.specs.Paths.{path_of}
use Rattle.seek.proofs.Narrows.{register-size}
use Rattle.seek.proofs.SeekBuilder.register_part.Goals as goal

pub returns : goal.returns
unfolding form_of is_bytes part_text Plan.part_key
returns c =
    λ T e w.
    let p = c.part-p in
    let args = c.args in
    let x : SeekKeyPart = SeekKeyPart.RegisterField args.address.0 (path_of args.at) in
    part-is args.self T e w _ args.node false false 0 _ x p.result _ _ p.ensures.grows.0 p.ensures.writes refl refl (register-size args.address.0 (path_of args.at) _ c.path_size.ensures.0)
    (apart-written p.result.place _ (Plan.part_key x) _ _ c.apart.ensures.0 c.put_register.ensures)
